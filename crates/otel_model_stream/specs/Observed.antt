-- Observed sums: what a delta stream shows of observations that are sums already (Metrics API, "Asynchronous Counter";
-- data model, "Sums", conversion of cumulative to delta).
use Rattle.std.specs.Prelude.{ℕ, ◌+◌, ◌-◌, ◌^◌, cond, List, [], ◌∷◌, Option, None, Some}
use Rattle.otel_common.specs.Equality.{set_eq}
use Rattle.otel_model_stream.specs.Sets.{AttributeSet}
use Rattle.otel_model_stream.specs.Folds.{Fold, Last, wrap}
use Rattle.otel_model_stream.specs.Events.{Point}
use Rattle.otel_model_stream.specs.Totals.{value_of}

-- the fold of the first of these points that is of the set x, if there is one
abbrev pub fold_in : List Point → AttributeSet → Option Fold
fold_in [] x = None
fold_in (p ∷ ps) x = cond (set_eq p.0 x) (Some p.1) (fold_in ps x)

-- the value of the set x among the points of the previous collection; 0 if it had no point there
abbrev pub value_before : List Point → AttributeSet → ℕ
value_before [] x = 0
value_before (p ∷ ps) x = cond (set_eq p.0 x) (value_of p.1) (value_before ps x)

-- the difference of two numbers, modulo 2^64
abbrev pub less : ℕ → ℕ → ℕ
less n before = wrap (n + (2 ^ 64 - wrap before))

-- a point with its value reduced by its set's value in the previous collection, modulo 2^64
abbrev pub difference : List Point → Point → Point
difference before p = (p.0, Last (less (value_of p.1) (value_before before p.0)))
