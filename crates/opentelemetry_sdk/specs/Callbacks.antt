-- Callbacks of observable instruments: which are registered, and what a collection does with them (Metrics SDK,
-- "Collect"; Metrics API, "Asynchronous Instrument API").
use Rattle.std.specs.Prelude.{◌≡◌, ℕ, cond, List, [], map, Result, Ok, Err}
use Rattle.otel_stream.specs.declared.observation.Observed.{Observed}
use Rattle.otel_stream.specs.declared.registered.Callback.{Callback}
use Rattle.otel_stream.specs.declared.registered.Registered.{Registered}
use Rattle.otel_common.specs.declared.faults.Fault.{Fault}
use Rattle.otel_data.specs.declared.collections.ResourceMetrics.{ResourceMetrics}
use Rattle.otel_model.specs.Calls as model
use Rattle.otel_model.specs.Demands.{Views}
use Rattle.otel_model.specs.State.{State}
use Rattle.otel_model.specs.Steps.{Step}
use Rattle.opentelemetry_sdk.specs.Checks.{has_stream}
use Rattle.opentelemetry_sdk.specs.Correspondence.{observed_of}
use Rattle.opentelemetry_sdk.specs.Typed.{collect_reply, collected_reply}

-- ======== registering ========
-- a callback, registered for the instrument with this number
abbrev pub registered_callback : {U I : Type 0} → ℕ → Callback U I → Registered U I
registered_callback n c = record { instrument = n; callback = c }

-- what a build registers for its instrument: the callbacks, if the instrument feeds a stream
abbrev pub added_callbacks : {U I : Type 0} → ℕ → State → List (Callback U I) → List (Registered U I)
added_callbacks n st cs = cond (has_stream n st) (map (registered_callback n) cs) []

-- ======== collecting ========
-- after callbacks gave this: a collection with their observations; or their fault, and nothing changed
abbrev pub IsCollectionOf : Views → State → ℕ → ℕ → Result (List Observed) Fault → Result (Unit {0}) Fault → ResourceMetrics → State → Type 0
IsCollectionOf views old r now (Ok observed) result metrics new = Step views old (model.Call.Collect r now (map observed_of observed)) (collect_reply result metrics) new
IsCollectionOf views old r now (Err f) result metrics new = (result ≡ Err f) × (new ≡ old)

-- the same of a collection that is returned
abbrev pub IsCollected : Views → State → ℕ → ℕ → Result (List Observed) Fault → Result ResourceMetrics Fault → State → Type 0
IsCollected views old r now (Ok observed) result new = Step views old (model.Call.Collect r now (map observed_of observed)) (collected_reply result) new
IsCollected views old r now (Err f) result new = (result ≡ Err f) × (new ≡ old)
