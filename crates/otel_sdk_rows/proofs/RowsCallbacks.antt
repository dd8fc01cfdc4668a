-- Worked rows on which callbacks are registered, and what a collection does with what they gave. Many deny a collection.
use Rattle.std.specs.Prelude.{◌≡◌, ℕ, List, [], ◌∷◌, Result, Ok, Err}
use Rattle.std.proofs.Common.{refl, ap, true≢false}
use Rattle.otel_common.specs.declared.faults.Fault.{Fault}
use Rattle.otel_common.specs.declared.faults.Fault.TheVariants.{UnknownMeter, WrongNumber}
use Rattle.otel_common.specs.declared.faults.Fault.TheVariants as fault
use Rattle.otel_data.specs.declared.collections.ResourceMetrics.{ResourceMetrics}
use Rattle.otel_data.specs.declared.numbers.NumberValue.TheVariants as number
use Rattle.otel_model.specs.Calls as model
use Rattle.otel_model.specs.Demands.{Views}
use Rattle.otel_model.specs.Resources.{empty_resource}
use Rattle.otel_model.specs.State.{State}
use Rattle.otel_stream.specs.declared.observation.Observed.{Observed}
use Rattle.otel_stream.specs.declared.registered.Callback.{Callback}
use Rattle.otel_stream.specs.declared.registered.Callback.TheVariants.{U64, I64}
use Rattle.opentelemetry_sdk.specs.Callbacks.{registered_callback, added_callbacks, IsCollectionOf, IsCollected}
use Rattle.otel_sdk_rows.proofs.RowWords.{begun, ended}

-- ======== registering ========
abbrev callbacks : List (Callback ℕ ℕ)
callbacks = U64 4 ∷ I64 5 ∷ []

pub registered : registered_callback {U = ℕ} {I = ℕ} 1 (U64 4) ≡ record { instrument = 1; callback = U64 4 }
registered = refl

-- all of them, in order, if the instrument feeds a stream
pub added : added_callbacks 1 begun callbacks ≡ record { instrument = 1; callback = U64 4 } ∷ record { instrument = 1; callback = I64 5 } ∷ []
added = refl

pub none_added : added_callbacks 2 begun callbacks ≡ []
none_added = refl

-- ======== collecting ========
abbrev nothing : ResourceMetrics
nothing = record { resource = empty_resource; scope_metrics = [] }

-- of an instrument that is not observed
abbrev wrong : List Observed
wrong = record { instrument = 0; value = number.U64 1; attributes = [] } ∷ []

-- the callbacks' fault is the answer, and nothing changes
pub fault_is_answered : IsCollectionOf [] begun 0 200 (Err UnknownMeter) (Err UnknownMeter) nothing begun × IsCollected [] begun 0 200 (Err UnknownMeter) (Err UnknownMeter) begun
fault_is_answered = ((refl, refl), (refl, refl))

pub fault_shuts : IsCollectionOf [] begun 0 200 (Err UnknownMeter) (Err UnknownMeter) nothing ended → ⊥
fault_shuts h = true≢false (ap (λ (st : State). st.shared.shut) h.1)

pub fault_shuts_provider : IsCollected [] begun 0 200 (Err UnknownMeter) (Err UnknownMeter) ended → ⊥
fault_shuts_provider h = true≢false (ap (λ (st : State). st.shared.shut) h.1)

pub another_fault : (IsCollectionOf [] begun 0 200 (Err UnknownMeter) (Err WrongNumber) nothing begun → ⊥) × (IsCollected [] begun 0 200 (Err UnknownMeter) (Err WrongNumber) begun → ⊥)
another_fault = (of_collection, of_collected)
  where
    of_collection : IsCollectionOf [] begun 0 200 (Err UnknownMeter) (Err WrongNumber) nothing begun → ⊥
    of_collection h = let e : ◌≡◌ {A = Result (Unit {0}) Fault} (Err WrongNumber) (Err UnknownMeter) = h.0 in cc

    of_collected : IsCollected [] begun 0 200 (Err UnknownMeter) (Err WrongNumber) begun → ⊥
    of_collected h = let e : ◌≡◌ {A = Result ResourceMetrics Fault} (Err WrongNumber) (Err UnknownMeter) = h.0 in cc

pub done_after_fault : (IsCollectionOf [] begun 0 200 (Err UnknownMeter) (Ok tt) nothing begun → ⊥) × (IsCollected [] begun 0 200 (Err UnknownMeter) (Ok nothing) begun → ⊥)
done_after_fault = (of_collection, of_collected)
  where
    of_collection : IsCollectionOf [] begun 0 200 (Err UnknownMeter) (Ok tt) nothing begun → ⊥
    of_collection h = let e : ◌≡◌ {A = Result (Unit {0}) Fault} (Ok tt) (Err UnknownMeter) = h.0 in cc

    of_collected : IsCollected [] begun 0 200 (Err UnknownMeter) (Ok nothing) begun → ⊥
    of_collected h = let e : ◌≡◌ {A = Result ResourceMetrics Fault} (Ok nothing) (Err UnknownMeter) = h.0 in cc

-- otherwise it is a step by a collection with what was observed
pub wrong_observation : IsCollectionOf [] begun 0 200 (Ok wrong) (Err fault.WrongKind) nothing begun × IsCollected [] begun 0 200 (Ok wrong) (Err fault.WrongKind) begun
wrong_observation = ((refl, refl), (refl, refl))

pub observation_lost : (IsCollectionOf [] begun 0 200 (Ok wrong) (Ok tt) nothing begun → ⊥) × (IsCollected [] begun 0 200 (Ok wrong) (Ok nothing) begun → ⊥)
observation_lost = (of_collection, of_collected)
  where
    of_collection : IsCollectionOf [] begun 0 200 (Ok wrong) (Ok tt) nothing begun → ⊥
    of_collection h = let e : model.Reply.Collected nothing ≡ model.Reply.Refused model.Fault.WrongKind = h.0 in cc

    of_collected : IsCollected [] begun 0 200 (Ok wrong) (Ok nothing) begun → ⊥
    of_collected h = let e : model.Reply.Collected nothing ≡ model.Reply.Refused model.Fault.WrongKind = h.0 in cc

pub other_reader : (IsCollectionOf [] begun 1 200 (Ok []) (Ok tt) nothing begun → ⊥) × (IsCollected [] begun 1 200 (Ok []) (Ok nothing) begun → ⊥)
other_reader = (of_collection, of_collected)
  where
    of_collection : IsCollectionOf [] begun 1 200 (Ok []) (Ok tt) nothing begun → ⊥
    of_collection h = let e : model.Reply.Collected nothing ≡ model.Reply.Refused model.Fault.UnknownReader = h.0 in cc

    of_collected : IsCollected [] begun 1 200 (Ok []) (Ok nothing) begun → ⊥
    of_collected h = let e : model.Reply.Collected nothing ≡ model.Reply.Refused model.Fault.UnknownReader = h.0 in cc

-- whatever the state
pub fault_changes_nothing : (views : Views) (old new : State) (r now : ℕ) → IsCollected views old r now (Err UnknownMeter) (Err UnknownMeter) new → new ≡ old
fault_changes_nothing views old new r now h = h.1
