-- Records of several values are made one after another.
use Rattle.std.proofs.Common.{◌≡◌, ℕ, suc, ◌+◌, ◌-◌, arith, Bool, true, false, cond, ◌||◌, ◌==◌, true≢false, List, [], ◌∷◌, map, fold, length, slice_get, Option, Some, None, refl, sym, ◌∙◌, ap}
use Rattle.std.proofs.lemmas.Bool.{cond_both}
use Rattle.std.proofs.lemmas.List.{map-id}
use Rattle.std.proofs.lemmas.Simd.{map-map}
use Rattle.otel_common.specs.Equality.{set_eq}
use Rattle.otel_data.specs.declared.numbers.NumberValue.{NumberValue}
use Rattle.otel_model_stream.specs.Folds.{Total, Last, Spreads, Spread, Sample, Aggregate, record_fold, record_spread, sample_of, wrap}
use Rattle.otel_model_stream.specs.Sets.{AttributeSet, none_set}
use Rattle.otel_model_stream.specs.Entries.{Entry, Table, is_of, on, at_entry, write}
use Rattle.otel_model_stream.specs.Maps.{MapState, measured_map}
use Rattle.otel_aggregate.specs.Any.{amount_of, samples_of}
use Rattle.otel_aggregate.specs.AnyKept.{sum_with}
use Rattle.otel_aggregate.specs.value_map.Slots.{Kept, entry_of, written, written_each, write_each}
use Rattle.otel_aggregate.specs.value_map.Numbers.{is_placed}
use Rattle.otel_aggregate.proofs.HandleLemmas.{has-on}
use Rattle.otel_aggregate.proofs.value_map.PlaceLemmas.{measured-by, place-there}

-- ======== in an aggregator ========
-- the last of them is kept
pub last-each : (σ : Aggregate) (n : ℕ) (vs : List NumberValue) (v : NumberValue) → slice_get vs (length vs - 1) ≡ Some v → fold record_fold (Last n) (samples_of σ vs) ≡ Last (amount_of v).bits
last-each σ n [] v e = absurd (cc)
last-each σ n (w ∷ []) v e = ap (λ o. Last (by o)) e
  where
    by : Option NumberValue → ℕ
    by None = 0
    by (Some u) = (amount_of u).bits
last-each σ n (w ∷ u ∷ vs) v e = last-each σ (amount_of w).bits (u ∷ vs) v (ap (slice_get (u ∷ vs)) (before (length vs)) ∙ sym (ap (slice_get (w ∷ u ∷ vs)) (before (suc (length vs)))) ∙ e)
  where
    before : (n : ℕ) → suc n - 1 ≡ n
    before n = omega arith

-- sums are added up
pub total-each : (σ : Aggregate) (n : ℕ) (vs : List NumberValue) → fold record_fold (Total n) (samples_of σ vs) ≡ Total (sum_with n vs)
total-each σ n [] = refl
total-each σ n (v ∷ vs) = total-each σ (wrap (n + (amount_of v).bits)) vs

pub spread-each : (s : Spread) (vs : List Sample) → fold record_fold (Spreads s) vs ≡ Spreads (fold record_spread s vs)
spread-each s [] = refl
spread-each s (v ∷ vs) = spread-each (record_spread s v) vs

-- ======== in a slot ========
written-all : (v : Sample) (vs : List Sample) (k : Kept) → written_each (v ∷ vs) k ≡ record k { updated = true; fold = fold record_fold k.fold (v ∷ vs) }
written-all v [] k = refl
written-all v (w ∷ vs) k = written-all w vs (written v k)

pub written-some : (σ : Aggregate) (vs : List NumberValue) (k : Kept) → (length vs == 0) ≡ false → written_each (samples_of σ vs) k ≡ record k { updated = true; fold = fold record_fold k.fold (samples_of σ vs) }
written-some σ [] k e = absurd (true≢false e)
written-some σ (v ∷ vs) k e = written-all (sample_of σ (amount_of v)) (samples_of σ vs) k

pub as-entry : (vs : List Sample) (s : AttributeSet) (k : Kept) → entry_of s (Some (written_each vs k)) ≡ write_each vs (entry_of s (Some k))
as-entry [] s k = refl
as-entry (v ∷ vs) s k = as-entry vs s (written v k)

pub same-lasting : (vs : List Sample) (k : Kept) → (written_each vs k).lasting ≡ k.lasting
same-lasting [] k = refl
same-lasting (v ∷ vs) k = same-lasting vs (written v k)

pub same-counted : (vs : List Sample) (k : Kept) → (written_each vs k).counted ≡ k.counted
same-counted [] k = refl
same-counted (v ∷ vs) k = same-counted vs (written v k)

-- ======== in a map ========
pub same-set : (vs : List Sample) (e : Entry) → (write_each vs e).set ≡ e.set
same-set [] e = refl
same-set (v ∷ vs) e = same-set vs (write v e)

on-same : (s : AttributeSet) (e : Entry) → on s (λ x. x) e ≡ e
on-same s e = cond_both (is_of s e) e e (λ x. x ≡ e) (λ q. refl) (λ q. refl)

on-again : (s : AttributeSet) (v : Sample) (g : Entry → Entry) (e : Entry) → on s g (on s (write v) e) ≡ on s (λ x. g (write v x)) e
on-again s v g e = by (is_of s e) refl
  where
    by : (b : Bool) → is_of s e ≡ b → on s g (cond b (write v e) e) ≡ cond b (g (write v e)) e
    by true q = ap (λ b. cond b (g (write v e)) (write v e)) q
    by false q = ap (λ b. cond b (g e) e) q

at-same : (s : AttributeSet) (t : Table) → at_entry s (λ x. x) t ≡ t
at-same s t = λ i. record { none = on-same s t.none i; entries = ((λ j. map (λ e. on-same s e j) t.entries) ∙ map-id t.entries) i }

at-again : (s : AttributeSet) (v : Sample) (g : Entry → Entry) (t : Table) → at_entry s g (at_entry s (write v) t) ≡ at_entry s (λ x. g (write v x)) t
at-again s v g t = λ i. record { none = on-again s v g t.none i; entries = (map-map (on s g) (on s (write v)) t.entries ∙ (λ j. map (λ e. on-again s v g e j) t.entries)) i }

-- records of a set that has an entry
pub measured-each : (s : AttributeSet) (vs : List Sample) (m : MapState) → is_placed s m.table.entries ≡ true → fold (λ (m : MapState) (v : Sample). measured_map s v m) m vs ≡ record m { table = at_entry s (write_each vs) m.table }
measured-each s [] m placed = λ i. record m { table = sym (at-same s m.table) i }
measured-each s (v ∷ vs) m placed =
    let next : MapState = record m { table = at_entry s (write v) m.table } in
    ap (λ (x : MapState). fold (λ (m : MapState) (v : Sample). measured_map s v m) x vs) (measured-by m s v s (place-there m.limit m.empty s m.table.entries placed))
    ∙ measured-each s vs next (ap (λ b. set_eq s none_set || b) (has-on (write v) (λ e. refl) s s m.table.entries) ∙ placed)
    ∙ (λ i. record m { table = at-again s v (write_each vs) m.table i })
