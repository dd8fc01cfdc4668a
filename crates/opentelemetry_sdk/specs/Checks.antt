-- What is asked of a provider's state apart from calls: whether an instrument has a stream, and whether a collection is
-- refused before anything is observed.
use Rattle.std.specs.Prelude.{ℕ, Bool, [], length, Option}
use Rattle.std.specs.List.{list_any}
use Rattle.otel_model.specs.Calls as model
use Rattle.otel_model.specs.Refusals.{refusal}
use Rattle.otel_model.specs.State.{State}
use Rattle.opentelemetry_sdk.specs.pipeline.Pipelines.{has_stream_at}

-- whether the instrument feeds a stream of some reader
abbrev pub has_stream : ℕ → State → Bool
has_stream n st = list_any (has_stream_at n) st.readers

-- why a collection of this reader is refused before it runs callbacks, if there is a reason
abbrev pub collect_refusal : State → ℕ → Option model.Fault
collect_refusal st r = refusal st.shared (length st.readers) (model.Call.Collect r 0 [])
