-- What instruments accepted for a stream.
use Rattle.std.specs.Prelude.{ℕ, ◌+◌, cond, List, [], ◌∷◌}
use Rattle.otel_model_stream.specs.Folds.{Aggregate, Sum, LastValue, Histogram}
use Rattle.otel_model.specs.Demands.{Identity, has_identity}
use Rattle.otel_model.specs.State.{InstrumentState}

-- what an instrument accepted, as a stream counts it: a sum adds up the values, a histogram counts the measurements, a
-- last value counts nothing
abbrev pub accepted_amount : Aggregate → InstrumentState → ℕ
accepted_amount Sum i = i.sum
accepted_amount LastValue i = 0
accepted_amount (Histogram bounds m s) i = i.count

-- what all instruments that feed the stream of the identity x accepted, as that stream counts it
abbrev pub accepted_for : Aggregate → Identity → List (List Identity) → List InstrumentState → ℕ
accepted_for σ x [] is = 0
accepted_for σ x (xs ∷ feeds) [] = 0
accepted_for σ x (xs ∷ feeds) (i ∷ is) = cond (has_identity xs x) (accepted_amount σ i) 0 + accepted_for σ x feeds is
