-- What measurements are aggregated to (Metrics SDK, "Aggregation"). All numbers that wrap do so modulo 2^64.
use Rattle.std.specs.Prelude.{ℕ, zero, suc, ◌+◌, ◌%◌, ◌^◌, nat_eq, ℤ, Bool, false, cond, List, [], ◌∷◌, replicate, length, map, count_by, sum_by, int_lt, Option, Some, None, ◌≡◌, refl}
use Rattle.std.proofs.Common.{ap}
use Rattle.std.proofs.lemmas.List.{length-replicate}
use Rattle.std.specs.Int.{int_min, int_max}

-- a recorded value: its 64 bits, and the whole number that it stands for
pub record Amount : Type 0 where
  pub bits : ℕ
  pub wide : ℤ

-- a recorded value with the number of its bucket, which is how many bounds are less than the value
pub record Sample : Type 0 where
  pub bits : ℕ
  pub wide : ℤ
  pub bucket : ℕ

-- how a stream aggregates its measurements
pub data Aggregate : Type 0 where
  Sum : Aggregate
  LastValue : Aggregate
  Histogram : (bounds : List ℤ) (has_min_max : Bool) (has_sum : Bool) → Aggregate

-- the totals of a histogram. If it has no min and max, the least and the greatest value are never kept; if it has no
-- sum, that stays 0
pub record Spread : Type 0 where
  pub has_min_max : Bool
  pub has_sum : Bool
  pub count : ℕ
  pub sum : ℕ
  pub least : Option ℤ
  pub greatest : Option ℤ
  pub counts : List ℕ

-- what the measurements so far are aggregated to: their sum, the last of them, or the totals of a histogram
pub data Fold : Type 0 where
  Total : ℕ → Fold
  Last : ℕ → Fold
  Spreads : Spread → Fold

-- modulo 2^64
abbrev pub wrap : ℕ → ℕ
wrap n = n % 2 ^ 64

-- ======== one more measurement ========
-- the lesser of the least value so far, if there is one, and x
abbrev pub lesser : Option ℤ → ℤ → Option ℤ
lesser None x = Some x
lesser (Some y) x = Some (int_min y x)

-- the greater of the greatest value so far, if there is one, and x
abbrev pub greater : Option ℤ → ℤ → Option ℤ
greater None x = Some x
greater (Some y) x = Some (int_max y x)

-- the bucket counts with one more in bucket i; unchanged if there is no such bucket
abbrev pub counted_in : List ℕ → ℕ → List ℕ
counted_in [] i = []
counted_in (n ∷ ns) zero = wrap (n + 1) ∷ ns
counted_in (n ∷ ns) (suc i) = n ∷ counted_in ns i

-- a histogram after one more measurement
abbrev pub record_spread : Spread → Sample → Spread
record_spread s v = record {
  has_min_max = s.has_min_max;
  has_sum = s.has_sum;
  count = wrap (s.count + 1);
  sum = cond s.has_sum (wrap (s.sum + v.bits)) s.sum;
  least = cond s.has_min_max (lesser s.least v.wide) s.least;
  greatest = cond s.has_min_max (greater s.greatest v.wide) s.greatest;
  counts = counted_in s.counts v.bucket;
}

-- a fold after one more measurement
abbrev pub record_fold : Fold → Sample → Fold
record_fold (Total n) v = Total (wrap (n + v.bits))
record_fold (Last n) v = Last v.bits
record_fold (Spreads s) v = Spreads (record_spread s v)

-- ======== no measurements ========
-- a histogram of n buckets without measurements
abbrev pub no_spread : Bool → Bool → ℕ → Spread
no_spread has_min_max has_sum n = record { has_min_max = has_min_max; has_sum = has_sum; count = 0; sum = 0; least = None; greatest = None; counts = replicate n 0 }

-- the fold of the same kind, with the same settings, but without measurements
abbrev pub clear_fold : Fold → Fold
clear_fold (Total _) = Total 0
clear_fold (Last _) = Last 0
clear_fold (Spreads s) = Spreads (no_spread s.has_min_max s.has_sum (length s.counts))

-- the number of buckets: one more than there are bounds, but none if there are no bounds
abbrev pub buckets_of : List ℤ → ℕ
buckets_of [] = 0
buckets_of (b ∷ bounds) = length (b ∷ bounds) + 1

-- the fold of no measurements
abbrev pub empty_of : Aggregate → Fold
empty_of Sum = Total 0
empty_of LastValue = Last 0
empty_of (Histogram bounds has_min_max has_sum) = Spreads (no_spread has_min_max has_sum (buckets_of bounds))

-- how many bounds are less than the value, as whole numbers
abbrev pub bounds_below : List ℤ → ℤ → ℕ
bounds_below bounds x = count_by (λ bound. int_lt bound x) bounds

-- the bucket bounds of an aggregate; none if it isn't a histogram
abbrev pub bounds_of : Aggregate → List ℤ
bounds_of Sum = []
bounds_of LastValue = []
bounds_of (Histogram bounds has_min_max has_sum) = bounds

-- whether an aggregate is a histogram that keeps the sum of its values
abbrev pub keeps_sum : Aggregate → Bool
keeps_sum Sum = false
keeps_sum LastValue = false
keeps_sum (Histogram bounds has_min_max has_sum) = has_sum

-- a value with its bucket in this aggregate
abbrev pub sample_of : Aggregate → Amount → Sample
sample_of σ v = record { bits = v.bits; wide = v.wide; bucket = bounds_below (bounds_of σ) v.wide }

-- clearing a fold without measurements changes nothing
pub clear_fold_no_spread : (m s : Bool) (n : ℕ) → clear_fold (Spreads (no_spread m s n)) ≡ Spreads (no_spread m s n)
clear_fold_no_spread m s n = ap (λ k. Spreads (no_spread m s k)) (length-replicate n 0)

pub clear_fold_empty : (σ : Aggregate) → clear_fold (empty_of σ) ≡ empty_of σ
clear_fold_empty Sum = refl
clear_fold_empty LastValue = refl
clear_fold_empty (Histogram bounds m s) = clear_fold_no_spread m s (buckets_of bounds)

-- ======== a whole list of measurements ========
-- for each of the n buckets from number a on, how many measurements are in it, modulo 2^64
abbrev pub counts_from : ℕ → ℕ → List Sample → List ℕ
counts_from a zero vs = []
counts_from a (suc n) vs = wrap (count_by (λ v. nat_eq v.bucket a) vs) ∷ counts_from (a + 1) n vs

-- the bits of the last measurement; 0 if there is none
abbrev pub last_bits : List Sample → ℕ
last_bits [] = 0
last_bits (v ∷ []) = v.bits
last_bits (v ∷ w ∷ vs) = last_bits (w ∷ vs)

-- the least value, if there is one
abbrev pub least_of : List ℤ → Option ℤ
least_of [] = None
least_of (x ∷ []) = Some x
least_of (x ∷ y ∷ xs) = lesser (least_of (y ∷ xs)) x

-- the greatest value, if there is one
abbrev pub greatest_of : List ℤ → Option ℤ
greatest_of [] = None
greatest_of (x ∷ []) = Some x
greatest_of (x ∷ y ∷ xs) = greater (greatest_of (y ∷ xs)) x

-- the fold of a list of measurements. The first argument tells the kind of the fold and, for a histogram, its settings
-- and number of buckets; the values that it holds are not used
abbrev pub fold_samples : Fold → List Sample → Fold
fold_samples (Total _) vs = Total (wrap (sum_by (λ v. v.bits) vs))
fold_samples (Last _) vs = Last (last_bits vs)
fold_samples (Spreads s) vs = Spreads (record {
  has_min_max = s.has_min_max;
  has_sum = s.has_sum;
  count = wrap (length vs);
  sum = cond s.has_sum (wrap (sum_by (λ v. v.bits) vs)) 0;
  least = cond s.has_min_max (least_of (map (λ v. v.wide) vs)) None;
  greatest = cond s.has_min_max (greatest_of (map (λ v. v.wide) vs)) None;
  counts = counts_from 0 (length s.counts) vs;
})

-- the fold of a list of values, as the aggregate says
abbrev pub fold_of : Aggregate → List Amount → Fold
fold_of σ vs = fold_samples (empty_of σ) (map (sample_of σ) vs)
