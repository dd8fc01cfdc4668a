-- The state of a provider (Metrics SDK, "MeterProvider"): what all its readers share, and a part for each reader.
use Rattle.std.specs.Prelude.{ℕ, Bool, List}
use Rattle.otel_common.specs.declared.scopes.InstrumentationScope.{InstrumentationScope}
use Rattle.otel_model_stream.specs.Events.{Point}
use Rattle.otel_model_stream.specs.Machine.{Machine}
use Rattle.otel_model.specs.Resources.{Resource}
use Rattle.otel_model.specs.Calls.{InstrumentKind}
use Rattle.otel_model.specs.Demands.{Identity, Demand, ReaderAnswers}

-- an instrument: its kind, whether its values are of type `i64` (otherwise `u64`), and the number and the sum of the
-- measurements that it accepted, both modulo 2^64
pub record InstrumentState : Type 0 where
  pub kind : InstrumentKind
  pub signed : Bool
  pub count : ℕ
  pub sum : ℕ

-- a live handle: its number, and the number of the instrument that it was bound at
abbrev pub LiveHandle : Type 0
LiveHandle = ℕ × ℕ

-- what all readers share: the resource, the provider's identity, the scopes of the meters, the instruments, the live
-- handles, the number of the next handle, and whether the provider was shut down
pub record Shared : Type 0 where
  pub resource : Resource
  pub identity : ℕ
  pub meters : List InstrumentationScope
  pub instruments : List InstrumentState
  pub live : List LiveHandle
  pub next : ℕ
  pub shut : Bool

-- a stream: the demand that made it, its table and live handles, its start time, its points in the previous collection
-- before differences were taken (kept for a drained delta stream alone), and the totals of what it recorded and
-- exported so far, both modulo 2^64
pub record Stream : Type 0 where
  pub demand : Demand
  pub machine : Machine
  pub start : ℕ
  pub reported : List Point
  pub recorded : ℕ
  pub exported : ℕ

-- a reader: its answers for each kind, the first demand of each identity, its streams in the order in which they were
-- made, and for each instrument the identities of this reader's streams that it feeds
pub record ReaderPart : Type 0 where
  pub answers : ReaderAnswers
  pub fates : List Demand
  pub streams : List Stream
  pub feeds : List (List Identity)

-- a provider: what its readers share, and each reader's part
pub record State : Type 0 where
  pub shared : Shared
  pub readers : List ReaderPart
