-- What happens to one stream: measurements, bound handles and collections.
use Rattle.std.specs.Prelude.{ℕ, List, [], ◌∷◌, ◌==◌, cond, Option, Some, None}
use Rattle.otel_model_stream.specs.Sets.{AttributeSet}
use Rattle.otel_model_stream.specs.Folds.{Amount, Fold}

-- a measurement of a set, a bind of a set to a handle with this number, a measurement through a handle, the end of a
-- handle, and a collection. A measurement through a handle that isn't live does nothing, nor does the end of one
pub data Event : Type 0 where
  Record : (set : AttributeSet) (value : Amount) → Event
  Bind : (handle : ℕ) (set : AttributeSet) → Event
  RecordBound : (handle : ℕ) (value : Amount) → Event
  Unbind : (handle : ℕ) → Event
  Collect : Event

-- what a collection does to the stream (Metrics SDK, "MetricReader" and "Cardinality limits"): it resets it, leaves it
-- as it is, or empties it; a stream of asynchronous sums is emptied
pub data Kind : Type 0 where
  Delta : Kind
  Cumulative : Kind
  Drained : Kind

-- live handles, each with its number and the set that its measurements go to
abbrev pub Handles : Type 0
Handles = List (ℕ × AttributeSet)

-- the set of the live handle with this number, if there is one
abbrev pub held_by : ℕ → Handles → Option AttributeSet
held_by h [] = None
held_by h (p ∷ ps) = cond (p.0 == h) (Some p.1) (held_by h ps)

-- the handles without the first one with this number
abbrev pub without : ℕ → Handles → Handles
without h [] = []
without h (p ∷ ps) = cond (p.0 == h) ps (p ∷ without h ps)

-- a point: an attribute set, and the fold of its measurements
abbrev pub Point : Type 0
Point = AttributeSet × Fold
