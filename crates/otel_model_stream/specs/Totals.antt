-- Totals of what was recorded and of what points hold. Sums add up values, histograms count measurements.
use Rattle.std.specs.Prelude.{ℕ, ◌+◌, List, [], ◌∷◌, ◌++◌, ◌==◌, Bool, cond, sum_by}
use Rattle.std.specs.List.{list_any}
use Rattle.otel_model_stream.specs.Folds.{Aggregate, Sum, LastValue, Histogram, Amount, Fold, Total, Last, Spreads}
use Rattle.otel_model_stream.specs.Events.{Event, Record, Bind, RecordBound, Unbind, Collect, Point}

-- ======== recorded ========
-- what a measurement adds to the total: the bits of its value for a sum, 1 for a histogram, nothing for a last value
abbrev pub size : Aggregate → Amount → ℕ
size Sum v = v.bits
size LastValue v = 0
size (Histogram bounds has_min_max has_sum) v = 1

-- whether the number is in the list
abbrev pub has_number : ℕ → List ℕ → Bool
has_number h ns = list_any (λ n. n == h) ns

-- the numbers without the first occurrence of this one
abbrev pub without_number : ℕ → List ℕ → List ℕ
without_number h [] = []
without_number h (n ∷ ns) = cond (n == h) ns (n ∷ without_number h ns)

-- the total of the measurements among the events, whatever their sets. `ns` are the numbers of the live handles; a
-- measurement through any other handle adds nothing
abbrev pub recorded_from : (Amount → ℕ) → List ℕ → List Event → ℕ
recorded_from amount ns [] = 0
recorded_from amount ns (Record s v ∷ es) = amount v + recorded_from amount ns es
recorded_from amount ns (Bind h s ∷ es) = recorded_from amount (ns ++ h ∷ []) es
recorded_from amount ns (RecordBound h v ∷ es) = cond (has_number h ns) (amount v) 0 + recorded_from amount ns es
recorded_from amount ns (Unbind h ∷ es) = recorded_from amount (without_number h ns) es
recorded_from amount ns (Collect ∷ es) = recorded_from amount ns es

-- the total of all measurements of a history, at whose start no handle is live
abbrev pub recorded_total : Aggregate → List Event → ℕ
recorded_total σ es = recorded_from (size σ) [] es

-- ======== held by points ========
-- what a fold adds to the total: its value for a sum, its count for a histogram, nothing for a last value
abbrev pub weight : Fold → ℕ
weight (Total n) = n
weight (Last n) = 0
weight (Spreads s) = s.count

-- the value of a sum or of a last value; 0 for a histogram
abbrev pub value_of : Fold → ℕ
value_of (Total n) = n
value_of (Last n) = n
value_of (Spreads s) = 0

-- the total of these points
abbrev pub points_total : List Point → ℕ
points_total ps = sum_by (λ (q : Point). weight q.1) ps
