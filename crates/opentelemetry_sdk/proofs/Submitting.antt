-- A submission goes on by one record.
use Rattle.std.proofs.Common.{◌≡◌, ℕ, ◌+◌, ◌-◌, ◌<◌, ◌≤◌, List, [], ◌∷◌, ◌++◌, map, length, get_or, take, drop, sum_by, refl, sym, ap, ◌∙◌, subst, arith, length-drop}
use Rattle.std.proofs.Math.Seq.{take-add}
use Rattle.std.proofs.lemmas.List.{map-append, drop-drop, drop_more, take_more}
use Rattle.std.proofs.lemmas.List.Sums.{sum_by-append}
use Rattle.otel_model.specs.Calls.{Call}
use Rattle.otel_model.specs.State.{State}
use Rattle.opentelemetry_sdk.specs.Pending.{call_in, bits_in, IsDone, AreDone, Submits}
use Rattle.opentelemetry_sdk.specs.declared.metrics.shared.pending.PendingRecord.{PendingRecord}

-- the first of what is left goes to the end of what was taken
pub taken-more : (ps : List PendingRecord) (n : ℕ) (p : PendingRecord) (rest : List PendingRecord) → n < length ps → p ∷ rest ≡ drop n ps → (take (n + 1) ps ≡ take n ps ++ p ∷ []) × (rest ≡ drop (n + 1) ps)
taken-more ps n p rest lt is =
    let next : p ∷ rest ≡ get_or ps n p ∷ drop (n + 1) ps = is ∙ drop_more ps n p lt in
    let here : p ≡ get_or ps n p = cc in
    (take_more ps n p lt ∙ ap (λ q. take n ps ++ q ∷ []) (sym here), cc)

-- the first record is one
pub submits_one : (old : State) (before : List PendingRecord) (new : State) (after : List PendingRecord) (n v : ℕ) (p : PendingRecord) → before ≡ p ∷ after → IsDone old (call_in p) new → n ≡ 1 → v ≡ bits_in p → Submits old before new after n v
submits_one old before new after n v p first done one value = rw (first, one) (record { within = omega arith; rest = refl; runs = (new, done, refl); total = omega (arith, value) })

pub done-all : (old : State) (calls : List Call) (mid : State) (more : List Call) (new : State) → AreDone old calls mid → AreDone mid more new → AreDone old (calls ++ more) new
done-all old [] mid more new is are = subst (λ st. AreDone st more new) is are
done-all old (c ∷ calls) mid more new so_far are = (so_far.0, so_far.1, done-all so_far.0 calls mid more new so_far.2 are)

-- one submission after another is one
submits-all : (old : State) (before : List PendingRecord) (mid : State) (after : List PendingRecord) (n v : ℕ) (new : State) (later : List PendingRecord) (k w : ℕ) → Submits old before mid after n v → Submits mid after new later k w → Submits old before new later (n + k) (v + w)
submits-all old before mid after n v new later k w first more =
    let taken : take (n + k) before ≡ take n before ++ take k after = rw (first.rest) (take-add n k before) in
    let calls : map call_in (take (n + k) before) ≡ map call_in (take n before) ++ map call_in (take k after) = ap (map call_in) taken ∙ map-append call_in (take n before) (take k after) in
    record {
      within = omega (arith, first.within, more.within, ap length first.rest, length-drop n before);
      rest = more.rest ∙ ap (drop k) first.rest ∙ drop-drop k n before;
      runs = subst (λ cs. AreDone old cs new) (sym calls) (done-all old (map call_in (take n before)) mid (map call_in (take k after)) new first.runs more.runs);
      total = omega (arith, first.total, more.total, ap (λ ps. sum_by bits_in ps) taken, sum_by-append bits_in (take n before) (take k after));
    }

-- the same where the numbers are what was added to others
pub submits-further : (old : State) (before : List PendingRecord) (mid : State) (after : List PendingRecord) (m₀ m v₀ v : ℕ) (new : State) (later : List PendingRecord) (k w : ℕ) → m₀ ≤ m → v₀ ≤ v → m ≤ k → v ≤ w → Submits old before mid after (m - m₀) (v - v₀) → Submits mid after new later (k - m) (w - v) → Submits old before new later (k - m₀) (w - v₀)
submits-further old before mid after m₀ m v₀ v new later k w low least more larger first next =
    let count : m - m₀ + (k - m) ≡ k - m₀ = omega arith in
    let value : v - v₀ + (w - v) ≡ w - v₀ = omega arith in
    subst (λ n. Submits old before new later n (w - v₀)) count (subst (Submits old before new later (m - m₀ + (k - m))) value (submits-all old before mid after (m - m₀) (v - v₀) new later (k - m) (w - v) first next))
