-- What observed sums show in a delta stream.
use Rattle.std.proofs.Common.{◌≡◌, ℕ, zero, suc, ◌+◌, ◌<◌, ◌≤◌, List, [], ◌∷◌, ◌++◌, map, refl, arith, sym, ◌∙◌, ap, Some, subst, cond}
use Rattle.std.specs.Prelude.{◌-◌, ◌^◌, slice_get, filter}
use Rattle.std.proofs.lemmas.Bool.{and_parts}
use Rattle.std.proofs.Math.Nat.{mod-add-mod, add-mod-mod, add-mod_right, mod-lt}
use Rattle.otel_model_stream.specs.Sets.{AttributeSet, none_set}
use Rattle.otel_model_stream.specs.Folds.{wrap, fold_of}
use Rattle.otel_model_stream.specs.Events.{Point}
use Rattle.otel_model_stream.specs.Windows.{records_of, is_hit, shown_places, values_of, point}
use Rattle.otel_model.specs.Collections.{value_of, value_before, less, difference}
use Rattle.otel_model.specs.Streams.{is_drained, is_delta, kind_of, aggregate_of}
use Rattle.otel_model.specs.History.{history, window_of, window_points, reported_of}
use Rattle.otel_model.specs.Orders.{last_observed, AreDifferences}
use Rattle.otel_model.proofs.Recorded.{drained_last}
use Rattle.otel_model.proofs.Shown.{get_of_map}
use Rattle.otel_model.proofs.Single.{some_is}

-- what was taken away, added again
filled : (n w m : ℕ) → w ≤ m → (n + (m - w)) + w ≡ n + m
filled n w m h = omega arith

below : (n m : ℕ) → n < m → n ≤ m
below n m h = omega arith

less_more : (n before : ℕ) → wrap (less n before + before) ≡ wrap n
less_more n before =
    mod-add-mod (n + (2 ^ 64 - wrap before)) (2 ^ 64) before
    ∙ (sym (add-mod-mod (n + (2 ^ 64 - wrap before)) before (2 ^ 64))
    ∙ (ap wrap (filled n (wrap before) (2 ^ 64) (below (wrap before) (2 ^ 64) (mod-lt before (omega arith))))
    ∙ add-mod_right n (2 ^ 64)))

-- what is mapped stands at the same place
get_in : {X Y : Type 0} (f : X → Y) (xs : List X) (k : ℕ) (y : Y) → slice_get (map f xs) k ≡ Some y → (x : X) × (slice_get xs k ≡ Some x) × (y ≡ f x)
get_in f [] k y e = absurd (cc)
get_in f (x ∷ xs) zero y e = (x, refl, sym (some_is (f x) y e))
get_in f (x ∷ xs) (suc k) y e = get_in f xs k y e

pub differences_law : AreDifferences
differences_law views answers r d calls events e k p g =
    let both = and_parts (is_drained d) (is_delta answers d) e in
    let before = reported_of views answers r d calls in
    let es = history views answers r d calls ++ events in
    let rs = records_of d.limit (window_of answers d es) in
    let sets : List AttributeSet = filter (is_hit rs) (none_set ∷ []) ++ shown_places (kind_of answers d) d.limit (window_of answers d es) in
    let shown : slice_get (map (difference before) (window_points answers d es)) k ≡ Some p = sym (λ i. slice_get (cond (e i) (map (difference before) (window_points answers d es)) (window_points answers d es)) k) ∙ g in
    let z = get_in (difference before) (window_points answers d es) k p shown in
    let x = get_of_map (point (aggregate_of d) rs) sets k z.0 z.1 in
    let P : Point → Type 0 = λ p. wrap (value_of p.1 + value_before before p.0) ≡ wrap (last_observed answers d es p.0) in
    subst P (sym (z.2 ∙ ap (difference before) x.1))
    (less_more (value_of (fold_of (aggregate_of d) (values_of rs x.0))) (value_before before x.0) ∙ ap (λ σ. wrap (value_of (fold_of σ (values_of rs x.0)))) (drained_last d both.0))
