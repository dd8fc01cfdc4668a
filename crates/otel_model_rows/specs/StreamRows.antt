-- What the worked rows of one stream are written in: sets, events and points.
use Rattle.std.specs.Prelude.{◌≡◌, ℕ, ℤ, pos, true, List, [], ◌∷◌, map, Option, codes}
use Rattle.otel_common.specs.declared.attributes.KeyValue.{KeyValue}
use Rattle.otel_common.specs.declared.attributes.Value.TheVariants as value
use Rattle.otel_model_stream.specs.Sets.{AttributeSet, none_set}
use Rattle.otel_model_stream.specs.Folds.{Aggregate, Amount, Total, Spreads}
use Rattle.otel_model_stream.specs.Events.{Event, Record, Kind, Point}
use Rattle.otel_model_stream.specs.Machine.{begin, answers}
use Rattle.otel_model_stream.specs.Windows.{opening, collections}

abbrev pub pair : List ℕ → ℕ → KeyValue
pair key n = record { key = key; value = value.I64 (pos n) }

abbrev pub x1 : AttributeSet
x1 = pair (codes "x") 1 ∷ []

abbrev pub y1 : AttributeSet
y1 = pair (codes "y") 1 ∷ []

abbrev pub z1 : AttributeSet
z1 = pair (codes "z") 1 ∷ []

abbrev pub k_v : AttributeSet
k_v = record { key = codes "k"; value = value.String (codes "v") } ∷ []

abbrev pub amount : ℕ → Amount
amount n = record { bits = n; wide = pos n }

-- a measurement of this value, and measurements of these values without attributes
abbrev pub add : AttributeSet → ℕ → Event
add s n = Record s (amount n)

abbrev pub values : List ℕ → List Event
values ns = map (add none_set) ns

-- a point of a sum
abbrev pub sum : AttributeSet → ℕ → Point
sum s n = (s, Total n)

-- a point of a histogram with min and max
abbrev pub spread : AttributeSet → (count total : ℕ) (least greatest : Option ℤ) (counts : List ℕ) → Point
spread s count total least greatest counts =
    (s, Spreads (record { has_min_max = true; has_sum = true; count = count; sum = total; least = least; greatest = greatest; counts = counts }))

abbrev pub bounds : List ℕ → List ℤ
bounds ns = map pos ns

abbrev pub default_bounds : List ℤ
default_bounds = bounds (0 ∷ 5 ∷ 10 ∷ 25 ∷ 50 ∷ 75 ∷ 100 ∷ 250 ∷ 500 ∷ 750 ∷ 1000 ∷ 2500 ∷ 5000 ∷ 7500 ∷ 10000 ∷ [])

-- both sides give these points, one list for each collection
abbrev pub AreShown : Aggregate → Kind → ℕ → List Event → List (List Point) → Type 0
AreShown σ kind limit events points = (collections σ kind limit opening events ≡ points) × (answers σ kind limit (begin σ) events ≡ points)
