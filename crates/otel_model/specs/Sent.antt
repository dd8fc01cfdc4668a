-- What the machine and the histories have in common: scopes, which streams an instrument feeds, and what a call sends
-- to a stream (Metrics SDK, "View", "MetricReader").
use Rattle.std.specs.Prelude.{ℕ, Bool, cond, List, [], ◌∷◌, ◌++◌, Option, Some, None, slice_get}
use Rattle.std.specs.List.{list_any}
use Rattle.otel_common.specs.Scopes.{scope_eq}
use Rattle.otel_common.specs.declared.attributes.KeyValue.{KeyValue}
use Rattle.otel_common.specs.declared.scopes.InstrumentationScope.{InstrumentationScope}
use Rattle.otel_model_stream.specs.Sets.{AttributeSet, set_of}
use Rattle.otel_model_stream.specs.Events.{Event}
use Rattle.otel_model.specs.Calls.{Observed, Call, Meter, Build, Record, Bind, RecordBound, Unbind, Collect, Flush, Shutdown, or_else}
use Rattle.otel_model.specs.Demands.{Identity, Demand, has_identity}

-- ======== scopes ========
-- whether the scope is among these
abbrev pub has_scope : InstrumentationScope → List InstrumentationScope → Bool
has_scope scope ms = list_any (λ m. scope_eq m scope) ms

-- the scope of the meter that a build names; the meter `None` has none
abbrev pub scope_of : List InstrumentationScope → Option ℕ → Option InstrumentationScope
scope_of ms None = None
scope_of ms (Some m) = slice_get ms m

-- ======== what a stream is sent ========
-- whether instrument n feeds the stream of the identity x
abbrev pub is_fed : List (List Identity) → ℕ → Identity → Bool
is_fed feeds n x = has_identity (or_else (slice_get feeds n) []) x

-- the attribute set that the stream of a demand assigns to these attributes
abbrev pub set_for : Demand → List KeyValue → AttributeSet
set_for d l = set_of d.allow l

-- the observations of instruments that feed the stream, as measurements
abbrev pub observed_events : List (List Identity) → Demand → List Observed → List Event
observed_events feeds d [] = []
observed_events feeds d (o ∷ os) = cond (is_fed feeds o.instrument d.identity) (Event.Record (set_for d o.attributes) o.value.amount ∷ observed_events feeds d os) (observed_events feeds d os)

-- the events that a call sends to a stream; `next` is the number that a bind gives
abbrev pub sent_events : List (List Identity) → ℕ → Demand → Call → List Event
sent_events feeds next d (Meter scope) = []
sent_events feeds next d (Build meter about now) = []
sent_events feeds next d (Record n v l) = cond (is_fed feeds n d.identity) (Event.Record (set_for d l) v.amount ∷ []) []
sent_events feeds next d (Bind n l) = cond (is_fed feeds n d.identity) (Event.Bind next (set_for d l) ∷ []) []
sent_events feeds next d (RecordBound h v) = Event.RecordBound h v.amount ∷ []
sent_events feeds next d (Unbind h) = Event.Unbind h ∷ []
sent_events feeds next d (Collect r now os) = observed_events feeds d os ++ Event.Collect ∷ []
sent_events feeds next d Flush = []
sent_events feeds next d Shutdown = []
