-- Units in names of metrics (Prometheus and OpenMetrics Compatibility, "Metric Metadata").
use Rattle.std.specs.Prelude.{ℕ, suc, ◌==◌, ◌||◌, ◌&&◌, List, [], ◌∷◌, ◌++◌, Bool, false, cond, not, Option, Some, None, codes, take, drop, position}
use Rattle.otel_common.specs.Equality.{bytes_eq}
use Rattle.otel_prometheus.specs.Names.{name_part}
use Rattle.otel_prometheus.specs.Samples.{is_label_byte}

-- the word at a key
abbrev pub word_at : List (List ℕ × List ℕ) → List ℕ → Option (List ℕ)
word_at [] unit = None
word_at (entry ∷ entries) unit = cond (bytes_eq unit entry.0) (Some entry.1) (word_at entries unit)

-- words for units of the Unified Code for Units of Measure
abbrev pub times : List (List ℕ × List ℕ)
times =
    (codes "d", codes "days") ∷ (codes "h", codes "hours") ∷ (codes "min", codes "minutes") ∷ (codes "s", codes "seconds")
    ∷ (codes "ms", codes "milliseconds") ∷ (codes "us", codes "microseconds") ∷ (codes "ns", codes "nanoseconds") ∷ []

abbrev pub decimal_sizes : List (List ℕ × List ℕ)
decimal_sizes =
    (codes "By", codes "bytes") ∷ (codes "KBy", codes "kilobytes") ∷ (codes "MBy", codes "megabytes") ∷ (codes "GBy", codes "gigabytes") ∷ (codes "TBy", codes "terabytes") ∷ []

abbrev pub binary_sizes : List (List ℕ × List ℕ)
binary_sizes = (codes "KiBy", codes "kibibytes") ∷ (codes "MiBy", codes "mebibytes") ∷ (codes "GiBy", codes "gibibytes") ∷ (codes "TiBy", codes "tibibytes") ∷ []

abbrev pub measures : List (List ℕ × List ℕ)
measures =
    (codes "m", codes "meters") ∷ (codes "V", codes "volts") ∷ (codes "A", codes "amperes") ∷ (codes "J", codes "joules") ∷ (codes "W", codes "watts")
    ∷ (codes "g", codes "grams") ∷ (codes "Cel", codes "celsius") ∷ (codes "Hz", codes "hertz") ∷ (codes "%", codes "percent") ∷ []

-- words behind `per`
abbrev pub rates : List (List ℕ × List ℕ)
rates =
    (codes "s", codes "second") ∷ (codes "m", codes "minute") ∷ (codes "h", codes "hour") ∷ (codes "d", codes "day")
    ∷ (codes "w", codes "week") ∷ (codes "mo", codes "month") ∷ (codes "y", codes "year") ∷ []

abbrev pub or_other : {A : Type 0} → Option A → Option A → Option A
or_other None other = other
or_other (Some w) other = Some w

abbrev pub unit_word : List ℕ → Option (List ℕ)
unit_word unit = or_other (word_at times unit) (or_other (word_at decimal_sizes unit) (or_other (word_at binary_sizes unit) (word_at measures unit)))

-- a unit with no word stands for itself, as a part of a name
abbrev pub or_name : Option (List ℕ) → List ℕ → List ℕ
or_name None unit = name_part is_label_byte unit
or_name (Some w) unit = w

-- a word behind this front; nothing if there is no word
abbrev pub behind : List ℕ → List ℕ → List ℕ
behind front [] = []
behind front (b ∷ word) = front ++ b ∷ word

-- the word of a unit behind this front; `1` has none
abbrev pub worded : List ℕ → Option (List ℕ) → List ℕ → List ℕ
worded front word unit = cond (bytes_eq unit (codes "1")) [] (behind front (or_name word unit))

-- `a/b` is a per b
abbrev pub ratio : List ℕ → List ℕ → List ℕ
ratio over under = worded (codes "_") (unit_word over) over ++ worded (codes "_per_") (word_at rates under) under

-- with the place of the slash
abbrev pub unit_parts : List ℕ → Option ℕ → List ℕ
unit_parts unit None = worded (codes "_") (unit_word unit) unit
unit_parts unit (Some i) = ratio (take i unit) (drop (suc i) unit)

-- whether a byte is of a note in braces; one may be open before it
abbrev pub is_in_note : Bool → ℕ → Bool
is_in_note is_open b = is_open || (b == 123)

-- a unit without its notes, as `By{sent}`
abbrev pub without_notes : Bool → List ℕ → List ℕ
without_notes is_open [] = []
without_notes is_open (b ∷ bs) = cond (is_in_note is_open b) [] (b ∷ []) ++ without_notes (is_in_note is_open b && not (b == 125)) bs

-- what a unit without notes adds to a name; `1` is a ratio where the last value is kept
abbrev pub suffix_of : Bool → List ℕ → List ℕ
suffix_of is_last_value unit = cond (is_last_value && bytes_eq unit (codes "1")) (codes "_ratio") (unit_parts unit (position (λ b. b == 47) unit))

abbrev pub unit_suffix : Bool → List ℕ → List ℕ
unit_suffix is_last_value unit = suffix_of is_last_value (without_notes false unit)
