-- Bytes that stand for themselves.
use Rattle.std.specs.Prelude.{◌≡◌, ℕ, ◌<◌, ◌≤◌, List, false, get_or}
use Rattle.otel_prometheus.specs.Samples.{is_special}

-- no byte from i up to j needs an escape
abbrev pub PlainBetween : List ℕ → ℕ → ℕ → Type 0
PlainBetween text i j = (k : ℕ) → i ≤ k → k < j → is_special (get_or text k 0) ≡ false
