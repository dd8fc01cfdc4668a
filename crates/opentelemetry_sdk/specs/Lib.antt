-- What a provider, its parts, its calls, a shared provider and its workers are, for the contracts of programs. The words
-- of the crates below are passed on: those that programs use most by short paths, all of them by the crate's name and
-- their path in it, as `otel_stream.Settings` and `otel_common.declared.metrics.Temporality`.
pub mod Batches
pub mod Callbacks
pub mod Checks
pub mod Cores
pub mod Correspondence
pub mod Groups
pub mod Headline
pub mod Known
pub mod Lent
pub mod Pending
pub mod pipeline
pub mod Providers
pub mod Readers
pub mod Series
pub mod Shared
pub mod States
pub mod Typed
pub mod Waiting
pub mod Workers
pub use Rattle.otel_stream.specs.Runs
pub use Rattle.otel_common.specs.declared.attributes.KeyValue
pub use Rattle.otel_common.specs.declared.faults.Fault
pub use Rattle.otel_data.specs.declared.numbers.NumberValue
pub use Rattle.otel_model.specs.Calls
pub use Rattle.otel_model.specs.Demands
pub use Rattle.otel_model.specs.Laws
pub use Rattle.otel_model.specs.Machine
pub use Rattle.otel_model.specs.Refusals
pub use Rattle.otel_model.specs.State
pub use Rattle.otel_model.specs.Steps
pub use Rattle.otel_model.specs.Books
pub use Rattle.otel_model.specs.Lawful
pub use Rattle.otel_common.specs as otel_common
pub use Rattle.otel_data.specs as otel_data
pub use Rattle.otel_stream.specs as otel_stream
pub use Rattle.otel_model_stream.specs as otel_model_stream
pub use Rattle.otel_model.specs as otel_model
pub use Rattle.otel_aggregate.specs as otel_aggregate
pub use Rattle.otel_export.specs as otel_export
pub use Rattle.otel_prometheus.specs as otel_prometheus
pub use Rattle.otel_otlp.specs as otel_otlp
