-- A stream without handles stays so, unless a handle is bound in it.
use Rattle.std.proofs.Common.{◌≡◌, ℕ, Bool, true, false, List, [], ◌∷◌, ◌++◌, refl, ap, Option, Some, None, cond}
use Rattle.std.proofs.lemmas.Bool.{true≢false}
use Rattle.otel_model_stream.specs.Sets.{AttributeSet}
use Rattle.otel_model_stream.specs.Folds.{Aggregate, Amount, sample_of}
use Rattle.otel_model_stream.specs.Events.{Event, Kind, Delta, Cumulative, Drained, held_by, without}
use Rattle.otel_model_stream.specs.Machine.{Machine, machine_after_collection, step, run, through, let_go}
use Rattle.otel_model.specs.Calls.{Observed}
use Rattle.otel_model.specs.Demands.{Identity, Demand}
use Rattle.otel_model.specs.Sent.{is_fed, set_for, observed_events}

module _ (σ : Aggregate) (kind : Kind) (limit : ℕ) where
  -- a record keeps the handles, sent or not
  pub record_keeps : (m : Machine) (b : Bool) (s : AttributeSet) (v : Amount) → (run σ kind limit m (cond b (Event.Record s v ∷ []) [])).live ≡ m.live
  record_keeps m true s v = refl
  record_keeps m false s v = refl

  -- a bind that is not sent
  pub unsent_keeps : (m : Machine) (b : Bool) (h : ℕ) (s : AttributeSet) → b ≡ false → (run σ kind limit m (cond b (Event.Bind h s ∷ []) [])).live ≡ m.live
  unsent_keeps m true h s e = absurd (true≢false e)
  unsent_keeps m false h s e = refl

  -- a record through a handle
  pub bound_keeps : (m : Machine) (h : ℕ) (v : Amount) → (run σ kind limit m (Event.RecordBound h v ∷ [])).live ≡ m.live
  bound_keeps m h v = go (held_by h m.live)
    where
      go : (o : Option AttributeSet) → (through o (sample_of σ v) m).live ≡ m.live
      go None = refl
      go (Some g) = refl

  -- the end of a handle
  pub unheld_unbind : (m : Machine) (h : ℕ) → m.live ≡ [] → (run σ kind limit m (Event.Unbind h ∷ [])).live ≡ []
  unheld_unbind m h e = go (held_by h m.live)
    where
      go : (o : Option AttributeSet) → (let_go o h m).live ≡ []
      go None = e
      go (Some g) = ap (without h) e

  -- a collection, its observations before it
  pub unheld_collect : (feeds : List (List Identity)) (d : Demand) (os : List Observed) (m : Machine) → m.live ≡ [] → (run σ kind limit m (observed_events feeds d os ++ Event.Collect ∷ [])).live ≡ []
  unheld_collect feeds d [] m e = go kind
    where
      go : (k : Kind) → (machine_after_collection k m).live ≡ []
      go Delta = e
      go Cumulative = e
      go Drained = refl
  unheld_collect feeds d (o ∷ os) m e = go (is_fed feeds o.instrument d.identity) (unheld_collect feeds d os)
    where
      go : (b : Bool) → ((m : Machine) → m.live ≡ [] → (run σ kind limit m (observed_events feeds d os ++ Event.Collect ∷ [])).live ≡ [])
          → (run σ kind limit m (cond b (Event.Record (set_for d o.attributes) o.value.amount ∷ observed_events feeds d os) (observed_events feeds d os) ++ Event.Collect ∷ [])).live ≡ []
      go true ih = ih (step σ kind limit m (Event.Record (set_for d o.attributes) o.value.amount)) e
      go false ih = ih m e
