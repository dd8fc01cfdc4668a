-- Calls that are never refused for lack of memory, though others of their kind may be.
use Rattle.std.specs.Prelude.{◌≡◌, ℕ, Bool, true, List, ◌∷◌, ◌++◌, map}
use Rattle.std.specs.List.{list_all}
use Rattle.otel_common.specs.declared.attributes.KeyValue.{KeyValue}
use Rattle.otel_model.specs.Calls as model
use Rattle.otel_model.specs.Demands.{Views}
use Rattle.otel_model.specs.State.{State}
use Rattle.otel_model.specs.Steps.{Run}
use Rattle.opentelemetry_sdk.specs.Correspondence.{call_of, reply_of}
use Rattle.opentelemetry_sdk.specs.pipeline.Known.{is_known_at}
use Rattle.opentelemetry_sdk.specs.States.{IsNamed}
use Rattle.opentelemetry_sdk.specs.declared.calls.Call.{Call}
use Rattle.opentelemetry_sdk.specs.declared.calls.Reply.{Reply}
use Rattle.opentelemetry_sdk.specs.declared.calls.Reply.TheVariants as reply

-- whether at each reader each stream that the instrument feeds knows the attributes: their set has an entry there, or is
-- the empty one
abbrev pub is_known : ℕ → List KeyValue → State → Bool
is_known n l st = list_all (is_known_at n l) st.readers

-- the call is a record of such attributes
abbrev pub IsKnown : State → model.Call → Type 0
IsKnown st (model.Call.Record n v l) = is_known n l st ≡ true
IsKnown st call = ⊥

-- the call was not refused for lack of memory
abbrev pub HasMemory : Reply → Type 0
HasMemory (reply.Refused f) = IsNamed f
HasMemory r = Unit {0}

-- no call of a list that is known to the state before it was refused for lack of memory: wherever the list is split at a
-- call, and its replies at one, and those before are a run to a state that knows the call
abbrev pub EachKnownHasMemory : Views → State → List Call → List Reply → Type 0
EachKnownHasMemory views old calls replies = (before later : List Call) (call : Call) (earlier next : List Reply) (reply : Reply) (mid : State)
    → calls ≡ before ++ call ∷ later → replies ≡ earlier ++ reply ∷ next → Run views old (map call_of before) (map reply_of earlier) mid
    → IsKnown mid (call_of call) → HasMemory reply
