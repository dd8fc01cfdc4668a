-- Any text as the name of a label or a metric.
use Rattle.std.specs.Prelude.{ℕ, ◌-◌, ◌==◌, ◌||◌, List, [], ◌∷◌, ◌++◌, Bool, true, false, cond, not, length, take, codes}
use Rattle.std.specs.Char.{is_ascii_digit}
use Rattle.std.specs.List.{ends_with}
use Rattle.otel_prometheus.specs.Samples.{is_label_byte, is_metric_byte}

-- which bytes may stand in a name
abbrev pub test_of : Bool → ℕ → Bool
test_of is_metric b = cond is_metric (is_metric_byte b) (is_label_byte b)

-- whether a `_` stands for the byte
abbrev pub is_gap : (ℕ → Bool) → ℕ → Bool
is_gap test b = not (test b) || (b == 95)

-- what stands for a byte; after a `_` nothing stands for another gap
abbrev pub name_byte : (ℕ → Bool) → Bool → ℕ → List ℕ
name_byte test after b = cond (is_gap test b) (cond after [] (95 ∷ [])) (b ∷ [])

-- one `_` for each run of gaps
abbrev pub name_bytes : (ℕ → Bool) → Bool → List ℕ → List ℕ
name_bytes test after [] = []
name_bytes test after (b ∷ bs) = name_byte test after b ++ name_bytes test (is_gap test b) bs

-- a name doesn't begin with a digit, and isn't empty
abbrev pub needs_front : List ℕ → Bool
needs_front [] = true
needs_front (b ∷ bs) = is_ascii_digit b

abbrev pub name_of : (ℕ → Bool) → List ℕ → List ℕ
name_of test text = cond (needs_front text) (95 ∷ name_bytes test false text) (name_bytes test false text)

-- a text without this end
abbrev pub without_end : List ℕ → List ℕ → List ℕ
without_end end text = cond (ends_with ◌==◌ text end) (take (length text - length end) text) text

-- a text without a `_` at its end
abbrev pub without_gap : List ℕ → List ℕ
without_gap text = without_end (codes "_") text

-- a text as a part of a name, with no `_` around it
abbrev pub name_part : (ℕ → Bool) → List ℕ → List ℕ
name_part test text = without_gap (name_bytes test true text)
