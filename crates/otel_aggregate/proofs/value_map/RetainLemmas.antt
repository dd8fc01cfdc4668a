-- What `retain` leaves in slots.
use Rattle.std.proofs.Common.{ℕ, zero, suc, ◌+◌, ◌≡◌, Bool, true, false, cond, List, [], ◌∷◌, Option, Some, None, MutBor, get_or, refl, sym, ap, subst, ◌∙◌, arith}
use Rattle.std.specs.Option.{option_map}
use Rattle.slab.specs.Slab.{Slab, RetainsFrom}
use Rattle.otel_model_stream.specs.Folds.{Fold}
use Rattle.otel_aggregate.specs.value_map.Slots.{Kept, kept_of, look_in}
use Rattle.otel_aggregate.specs.declared.value_map.slots.Slot.{Slot}

-- a closure that makes `change` of each slot and stays as it was
module _ {A F : Type 0} (meaning : A → Fold) (step : F → ℕ → MutBor (Slot A) → Bool → MutBor (Slot A) → F → Type 0) (change : ℕ → Option Kept → Option Kept) (vacant : (n : ℕ) → change n None ≡ None) (f : F)
    (does : (n : ℕ) (shown : MutBor (Slot A)) (keep : Bool) (left : MutBor (Slot A)) (next : F) → step f n shown keep left next → (cond keep (Some (kept_of meaning left.now)) None ≡ change n (Some (kept_of meaning shown.now))) × (next ≡ f)) where
  abbrev kept_at : ℕ → List (Option (Slot A)) → Option Kept
  kept_at n slots = option_map (kept_of meaning) (get_or slots n None)

  retained : (first : ℕ) (old new : List (Option (Slot A))) → RetainsFrom step f first old new → (n : ℕ) → kept_at n new ≡ change (first + n) (kept_at n old)
  retained first [] new r n = ap (kept_at n) r ∙ sym (vacant (first + n))
  retained first (None ∷ rest) new r zero = ap (kept_at 0) r.1 ∙ sym (vacant (first + 0))
  retained first (None ∷ rest) new r (suc n) =
      let number : first + 1 + n ≡ first + suc n = omega arith in
      ap (kept_at (suc n)) r.1 ∙ retained (first + 1) rest r.0 r.2 n ∙ ap (λ m. change m (kept_at n rest)) number
  retained first (Some slot ∷ rest) new r zero =
      let number : first ≡ first + 0 = omega arith in
      ap (kept_at 0) r.5 ∙ by r.0
      ∙ ap (λ (s : Slot A). cond r.0 (Some (kept_of meaning s)) None) (sym r.3.leaves)
      ∙ (does first r.3.shown r.0 r.3.left r.2 r.3.called).0
      ∙ (λ i. change (number i) (Some (kept_of meaning (r.3.shows i))))
    where
      by : (b : Bool) → option_map (kept_of meaning) (cond b (Some r.1) None) ≡ cond b (Some (kept_of meaning r.1)) None
      by true = refl
      by false = refl
  retained first (Some slot ∷ rest) new r (suc n) =
      let number : first + 1 + n ≡ first + suc n = omega arith in
      let same : r.2 ≡ f = (does first r.3.shown r.0 r.3.left r.2 r.3.called).1 in
      ap (kept_at (suc n)) r.5 ∙ retained (first + 1) rest r.4 (subst (λ (g : F). RetainsFrom step g (first + 1) rest r.4) same r.6) n ∙ ap (λ m. change m (kept_at n rest)) number

  pub retained-look : (old new : Slab (Slot A)) → RetainsFrom step f 0 old.slots new.slots → (n : ℕ) → look_in meaning new n ≡ change n (look_in meaning old n)
  retained-look old new r n =
      let number : 0 + n ≡ n = omega arith in
      retained 0 old.slots new.slots r n ∙ ap (λ m. change m (look_in meaning old n)) number
