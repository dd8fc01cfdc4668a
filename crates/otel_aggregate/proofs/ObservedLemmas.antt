-- What draining leaves, and what a stream of observed sums shows.
use Rattle.std.proofs.Common.{ℕ, ◌≡◌, ◌∙◌, List, [], ◌∷◌, map, Bool, true, false, cond, Option, Some, None, refl, ap}
use Rattle.std.specs.Prelude.{ℤ}
use Rattle.std.specs.Option.{option_map_or}
use Rattle.std.proofs.lemmas.Bool.{cond_both}
use Rattle.otel_common.specs.Equality.{set_eq}
use Rattle.otel_common.specs.declared.metrics.Temporality.{Temporality}
use Rattle.otel_data.specs.declared.points.SumDataPoint.{SumDataPoint}
use Rattle.otel_model_stream.specs.Sets.{AttributeSet}
use Rattle.otel_model_stream.specs.Folds.{Sample}
use Rattle.otel_model_stream.specs.Entries.{Entry, Point, is_of, on, write, reset}
use Rattle.otel_model_stream.specs.Maps.{MapState, updated_bound, drained_map}
use Rattle.otel_model_stream.specs.Observed.{fold_in, value_before, difference}
use Rattle.otel_model_stream.specs.Totals.{value_of}
use Rattle.otel_model_stream.specs.Data.{sum_point}
use Rattle.otel_model_stream.proofs.Clearing.{cleared-recorded}
use Rattle.otel_aggregate.specs.Data.{temporality_of}
use Rattle.otel_aggregate.specs.Observed.{ObservedState, values_now, since_reported, sums_now, observed_data}

-- ======== draining ========
reset-on : (g : AttributeSet) (v : Sample) (e : Entry) → reset (on g (write v) e) ≡ reset e
reset-on g v e = cond_both (is_of g e) (write v e) e (λ x. reset x ≡ reset e) (λ q. ap (λ f. record e { updated = false; fold = f }) (cleared-recorded e.fold v)) (λ q. refl)

-- a map is drained to the same with a record more
pub drained-updated : (g : AttributeSet) (v : Sample) (m : MapState) → drained_map (updated_bound g v m) ≡ drained_map m
drained-updated g v m = ap (λ (none : Entry). record m { table = record { none = none; entries = [] } }) (reset-on g v m.table.none)

-- ======== points ========
pub value_before_found : (ps : List Point) (x : AttributeSet) → value_before ps x ≡ option_map_or value_of (fold_in ps x) 0
value_before_found [] x = refl
value_before_found (p ∷ ps) x = by (set_eq p.0 x) (value_before_found ps x)
  where
    by : (b : Bool) → value_before ps x ≡ option_map_or value_of (fold_in ps x) 0 → cond b (value_of p.1) (value_before ps x) ≡ option_map_or value_of (cond b (Some p.1) (fold_in ps x)) 0
    by true h = refl
    by false h = h

-- each point by itself, or all of them
pub since_reported-all : {X : Type 0} (f : Point → X) (resets : Bool) (before ps : List Point)
    → map (λ p. f (since_reported (cond resets (Some before) None) p)) ps ≡ map f (cond resets (map (difference before) ps) ps)
since_reported-all f true before [] = refl
since_reported-all f true before (p ∷ ps) = ap (λ xs. f (difference before p) ∷ xs) (since_reported-all f true before ps)
since_reported-all f false before ps = refl

-- what a collection gives, from its parts
pub shown-data : {T : Type 0} (of_bits : ℕ → T) (of_whole : ℤ → T) (now : ℕ) (a : ObservedState) (reported : Option (List Point)) (given : List Point) (points : List (SumDataPoint T)) (start : ℕ) (temporality : Temporality) (is_monotonic : Bool)
    → points ≡ map (λ p. sum_point of_bits of_whole (since_reported reported p)) given → reported ≡ cond a.stream.resets (Some a.reported) None → given ≡ values_now a
    → start ≡ a.stream.start → temporality ≡ temporality_of a.stream → is_monotonic ≡ a.stream.is_monotonic
    → record { data_points = points; start_time = start; time = now; temporality = temporality; is_monotonic = is_monotonic } ≡ observed_data of_bits of_whole now a
shown-data of_bits of_whole now a reported given points start temporality is_monotonic is before all start_is kind rises =
    let same : points ≡ map (sum_point of_bits of_whole) (sums_now a) =
    is ∙ ap (λ r. map (λ p. sum_point of_bits of_whole (since_reported r p)) given) before
    ∙ since_reported-all (sum_point of_bits of_whole) a.stream.resets a.reported given
    ∙ ap (λ ps. map (sum_point of_bits of_whole) (cond a.stream.resets (map (difference a.reported) ps) ps)) all in
    λ i. record { data_points = same i; start_time = start_is i; time = now; temporality = kind i; is_monotonic = rises i }
