-- Worked rows on laws that are stated of a provider: each takes from a law what it says of one run.
use Rattle.std.specs.Prelude.{◌≡◌, ℕ, false, List, [], ◌∷◌, Some, None, slice_get}
use Rattle.std.proofs.Common.{refl, ap, arith}
use Rattle.otel_common.specs.declared.attributes.KeyValue.{KeyValue}
use Rattle.otel_data.specs.declared.numbers.NumberValue.TheVariants as number
use Rattle.otel_model.specs.Calls as model
use Rattle.otel_model.specs.Demands.{ReaderAnswers}
use Rattle.otel_model.specs.Machine.{new_state}
use Rattle.otel_model.specs.Orders.{IsReordered}
use Rattle.otel_model.specs.Resources.{empty_resource}
use Rattle.otel_model.specs.State.{ReaderPart, State, Stream}
use Rattle.otel_model.specs.Steps.{Run, state_of}
use Rattle.opentelemetry_sdk.specs.Headline.{FromBuilt, OfReaders, OfStreams, OfAnswers, InAnyOrder}
use Rattle.opentelemetry_sdk.specs.declared.calls.Call.{Call}
use Rattle.opentelemetry_sdk.specs.declared.calls.Call.TheVariants.{Meter, Build, Record}
use Rattle.opentelemetry_sdk.specs.declared.calls.Reply.{Reply}
use Rattle.opentelemetry_sdk.specs.declared.calls.Reply.TheVariants as reply
use Rattle.opentelemetry_sdk.specs.declared.values.sorts.InstrumentSort.TheVariants.{U64Counter}
use Rattle.otel_sdk_rows.proofs.RowWords.{pair, m, u64, cumulative}

-- a provider as built, and one with a counter
abbrev fresh : State
fresh = new_state empty_resource 7 (cumulative ∷ [])

abbrev calls : List Call
calls = Meter m ∷ Build (Some 0) U64Counter (97 ∷ []) None None None 100 ∷ []

abbrev replies : List Reply
replies = reply.Meter (Some 0) ∷ reply.Instrument 0 ∷ []

abbrev built : State
built = state_of [] fresh (model.Meter m ∷ model.Build (Some 0) (record { kind = model.Counter; signed = false; name = 97 ∷ []; description = None; unit = None; bounds = None }) 100 ∷ [])

pub law_of_built : FromBuilt fresh (λ resource identity readers. ⊥) → ⊥
law_of_built h = h empty_resource 7 (cumulative ∷ []) refl

-- the law is said of the identity and the readers that it was built with
pub law_of_identity : FromBuilt fresh (λ resource identity readers. identity ≡ 8) → ⊥
law_of_identity h = let e : ◌≡◌ {A = ℕ} 7 8 = h empty_resource 7 (cumulative ∷ []) refl in absurd (omega (e, arith))

pub law_of_its_readers : FromBuilt fresh (λ resource identity readers. readers ≡ []) → ⊥
law_of_its_readers h = let e : ◌≡◌ {A = List ReaderAnswers} (cumulative ∷ []) [] = h empty_resource 7 (cumulative ∷ []) refl in cc

abbrev part_of_reader : ReaderPart
part_of_reader = first built.readers
  where
    first : List ReaderPart → ReaderPart
    first [] = record { answers = []; fates = []; streams = []; feeds = [] }
    first (part ∷ parts) = part

pub law_of_reader : OfReaders (λ views resource made answered new r answers part. ⊥) [] fresh calls replies built → ⊥
law_of_reader h = h empty_resource 7 (cumulative ∷ []) refl 0 cumulative part_of_reader refl refl

pub law_of_stream : OfStreams (λ views made answered new r answers part stream. ⊥) [] fresh calls replies built → ⊥
law_of_stream h = streams part_of_reader.streams refl
  where
    streams : (ss : List Stream) → part_of_reader.streams ≡ ss → ⊥
    streams [] e = cc
    streams (s ∷ ss) e = h empty_resource 7 (cumulative ∷ []) refl 0 cumulative part_of_reader refl refl 0 s (ap (λ (l : List Stream). slice_get l 0) e)

pub law_of_answers : OfAnswers (λ views resource identity made answered r answers. ⊥) [] fresh calls replies → ⊥
law_of_answers h = h empty_resource 7 (cumulative ∷ []) refl 0 cumulative refl

-- the record of a list with its attributes turned
abbrev in_order : List KeyValue
in_order = pair 120 1 ∷ pair 121 1 ∷ []

abbrev turned : List KeyValue
turned = pair 121 1 ∷ pair 120 1 ∷ []

pub law_of_order : (new : State) → IsReordered in_order turned → InAnyOrder [] built (Record 0 (number.U64 7) in_order ∷ []) (reply.Done ∷ []) new → Run [] built (model.Record 0 (u64 7) turned ∷ []) (model.Reply.Done ∷ []) new
law_of_order new e h = h [] [] 0 (u64 7) in_order turned e refl

pub law_of_no_readers : FromBuilt (new_state empty_resource 7 []) (λ resource identity readers. ⊥) → ⊥
law_of_no_readers h = h empty_resource 7 [] refl
