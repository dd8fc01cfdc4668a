-- Attributes whose record makes no entry, so that it is never refused for lack of memory.
use Rattle.std.specs.Prelude.{◌≡◌, ℕ, Bool, true, ◌&&◌, List, [], Option, IfSome, slice_get}
use Rattle.std.specs.List.{list_any, list_all}
use Rattle.std.specs.Option.{option_map}
use Rattle.otel_common.specs.declared.attributes.KeyValue.{KeyValue}
use Rattle.otel_model_stream.specs.Sets.{set_of}
use Rattle.otel_model.specs.Calls.{or_else}
use Rattle.otel_model.specs.Demands.{Identity, identity_eq}
use Rattle.otel_model.specs.Places.{is_settled}
use Rattle.otel_model.specs.State.{Stream, ReaderPart}
use Rattle.opentelemetry_sdk.specs.pipeline.Pipelines.{is_streamed}
use Rattle.opentelemetry_sdk.specs.pipeline.Streams.{StreamContents}

-- whether a record of these attributes makes no entry in the stream: their set is the empty one, or has an entry, or goes
-- to the overflow entry, which is there
abbrev pub is_known_to : List KeyValue → Stream → Bool
is_known_to l q = is_settled q.demand.limit (set_of q.demand.allow l) q.machine.table.entries

-- whether there is a stream with this identity that knows them
abbrev pub is_known_by : List KeyValue → List Stream → Identity → Bool
is_known_by l streams x = list_any (λ (q : Stream). identity_eq q.demand.identity x && is_known_to l q) streams

-- whether each stream that the instrument feeds knows them
abbrev pub is_known_at : ℕ → List KeyValue → ReaderPart → Bool
is_known_at n l p = list_all (is_known_by l p.streams) (or_else (slice_get p.feeds n) [])

-- the stream, if there is one, knows them
abbrev pub IsKnownIfThere : List KeyValue → Option StreamContents → Type 0
IsKnownIfThere l o = IfSome o (λ k. is_known_to l k.stream ≡ true)

-- whether the stream doesn't drop and knows them
abbrev pub knows : List KeyValue → StreamContents → Bool
knows l k = is_streamed k && is_known_to l k.stream

-- the same of the streams with these numbers, as far as there are such
abbrev pub are_known : List KeyValue → List StreamContents → List ℕ → Bool
are_known l streams ns = list_all (λ n. or_else (option_map (knows l) (slice_get streams n)) true) ns
