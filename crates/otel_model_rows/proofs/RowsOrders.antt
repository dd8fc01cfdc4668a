-- Worked rows on lists in another order, and on the differences that a stream of observed sums shows.
use Rattle.std.specs.Prelude.{◌≡◌, ℕ, nat_eq, ◌+◌, sum_by, List, [], ◌∷◌, ◌++◌, Some, slice_get}
use Rattle.std.specs.List.{IsDistinct}
use Rattle.std.specs.List.Sorted.{IsPermutation}
use Rattle.std.proofs.Common.{refl, ap, arith, true≢false}
use Rattle.std.proofs.lemmas.List.Sorted.{sum_by-IsPermutation}
use Rattle.otel_common.specs.Canonical.{HasDistinctKeys, canon}
use Rattle.otel_common.specs.declared.attributes.KeyValue.{KeyValue}
use Rattle.otel_model_stream.specs.Events.{Event}
use Rattle.otel_model_stream.specs.Folds.{Fold, wrap}
use Rattle.otel_model.specs.Calls.{ObservableCounter, Call, Meter, Build, Record, Bind, Collect, Flush, Reply}
use Rattle.otel_model.specs.Collections.{value_of, differences}
use Rattle.otel_model.specs.Demands.{Demand, own_demand}
use Rattle.otel_model.specs.History.{history, window_points, reported_of}
use Rattle.otel_model.specs.Orders.{IsReordered, RecordsInAnyOrder, BindsInAnyOrder, ObservationsInAnyOrder, last_observed, AreDifferences}
use Rattle.otel_model.specs.State.{State}
use Rattle.otel_model.specs.Steps.{Run}
use Rattle.otel_model_rows.specs.Rows.{a, m, about, u64, x1, y1, z1, pair, delta, observe}
use Rattle.otel_model_rows.specs.RunRows.{views, start}

-- ======== another order ========
abbrev w1 : List KeyValue
w1 = pair 119 1 ∷ []

abbrev four : List KeyValue
four = w1 ++ x1 ++ y1 ++ z1

abbrev turned : List KeyValue
turned = z1 ++ w1 ++ x1 ++ y1

abbrev with_key : List KeyValue
with_key = w1 ++ x1 ++ w1

-- the four in another order
pub reordered : IsReordered four turned
unfolding IsDistinct
reordered = (
  ((refl, (refl, (refl, tt))), ((refl, (refl, tt)), ((refl, tt), (tt, tt)))),
  record { moves = (2, 3) ∷ (1, 3) ∷ (0, 3) ∷ []; below = (omega arith, omega arith, (omega arith, omega arith, (omega arith, omega arith, tt))); is = refl },
)

-- and whatever lists have distinct keys and the same elements
pub any_reordered : (l o : List KeyValue) → HasDistinctKeys l → IsPermutation l o → IsReordered l o
any_reordered l o d p = (d, p)

-- not with a key that occurs twice
pub key_twice : IsReordered (x1 ++ x1) (x1 ++ x1) → ⊥
unfolding IsDistinct
key_twice h = true≢false h.0.0.0

pub key_twice_of_three : IsReordered with_key with_key → ⊥
unfolding IsDistinct
key_twice_of_three h = true≢false h.0.0.1.0

-- not a list with another element, nor one with fewer
abbrev bytes_in : KeyValue → ℕ
bytes_in p = sum_by (λ n. n) p.key

pub of_others : IsReordered (x1 ++ y1) (x1 ++ z1) → ⊥
of_others h = true≢false (ap (λ k. nat_eq k 242) (sum_by-IsPermutation bytes_in (x1 ++ y1) (x1 ++ z1) h.1))

pub of_fewer : IsReordered (x1 ++ y1) x1 → ⊥
of_fewer h = true≢false (ap (λ k. nat_eq k 120) (sum_by-IsPermutation bytes_in (x1 ++ y1) x1 h.1))

-- ======== what another order changes ========
abbrev before : List Call
before = Meter m ∷ Build (Some 0) (about ObservableCounter a) 100 ∷ []

abbrev later : List Call
later = Collect 1 300 [] ∷ Flush ∷ []

pub law_of_records : RecordsInAnyOrder → (new : State) (replies : List Reply) → Run views start (before ++ Record 0 (u64 5) four ∷ later) replies new → Run views start (before ++ Record 0 (u64 5) turned ∷ later) replies new
law_of_records h new replies = h views start new before later 0 (u64 5) four turned replies reordered

pub law_of_binds : BindsInAnyOrder → (new : State) (replies : List Reply) → Run views start (before ++ Bind 0 four ∷ later) replies new → Run views start (before ++ Bind 0 turned ∷ later) replies new
law_of_binds h new replies = h views start new before later 0 four turned replies reordered

pub law_of_observations : ObservationsInAnyOrder → (new : State) (replies : List Reply)
    → Run views start (before ++ Collect 1 200 (observe 0 4 x1 ∷ observe 0 5 four ∷ observe 0 6 y1 ∷ []) ∷ later) replies new
    → Run views start (before ++ Collect 1 200 (observe 0 4 x1 ∷ observe 0 5 turned ∷ observe 0 6 y1 ∷ []) ∷ later) replies new
law_of_observations h new replies = h views start new before later 1 200 (observe 0 4 x1 ∷ []) (observe 0 6 y1 ∷ []) (observe 0 5 four) turned replies reordered

-- ======== differences ========
abbrev observed : Demand
observed = own_demand delta m (about ObservableCounter a)

abbrev at : List KeyValue → ℕ → Event
at s n = Event.Record s (u64 n).amount

-- of the last window alone, and of the set alone
pub last_values : (last_observed delta observed (at x1 3 ∷ at y1 9 ∷ at x1 5 ∷ []) x1 ≡ 5)
    × (last_observed delta observed (at x1 3 ∷ at y1 9 ∷ at x1 5 ∷ []) y1 ≡ 9)
    × (last_observed delta observed (at x1 3 ∷ Event.Collect ∷ at y1 9 ∷ []) x1 ≡ 0)
last_values = (refl, refl, refl)

-- 3 was observed in the collection before, and 5 is now
abbrev observing : List Call
observing = before ++ Collect 1 200 (observe 0 3 x1 ∷ []) ∷ []

pub law_of_differences : AreDifferences → (f : Fold)
    → slice_get (differences delta observed (reported_of [] delta 1 observed observing) (window_points delta observed (history [] delta 1 observed observing ++ at x1 5 ∷ []))) 0 ≡ Some (x1, f)
    → wrap (value_of f + 3) ≡ 5
unfolding canon
law_of_differences h f e = h [] delta 1 observed observing (at x1 5 ∷ []) refl 0 (x1, f) e
