-- Attribute sets as a stream sees them (Metrics SDK, "View" and "Cardinality limits").
use Rattle.std.specs.Prelude.{ℕ, true, List, [], ◌∷◌, Option, None, Some, filter, codes}
use Rattle.std.specs.List.{list_any}
use Rattle.otel_common.specs.Canonical.{canon}
use Rattle.otel_common.specs.Equality.{bytes_eq}
use Rattle.otel_common.specs.declared.attributes.KeyValue.{KeyValue}
use Rattle.otel_common.specs.declared.attributes.Value.TheVariants as value

-- an attribute set, as a list of attributes. The sets that `set_of` gives are canonical
abbrev pub AttributeSet : Type 0
AttributeSet = List KeyValue

-- a stream's allow-list of attribute keys, if it has one (Metrics SDK, "Stream configuration")
abbrev pub AllowList : Type 0
AllowList = Option (List (List ℕ))

-- the empty attribute set
abbrev pub none_set : AttributeSet
none_set = []

-- the set of the overflow entry: the one attribute `otel.metric.overflow` = `true` (Metrics SDK, "Overflow attribute")
abbrev pub over_set : AttributeSet
over_set = record { key = codes "otel.metric.overflow"; value = value.Bool true } ∷ []

-- the attributes whose key is in the allow-list, in order; all of them if there is no allow-list
abbrev pub allowed_part : AllowList → List KeyValue → List KeyValue
allowed_part None attributes = attributes
allowed_part (Some allow) attributes = filter (λ p. list_any (bytes_eq p.key) allow) attributes

-- the attribute set that a stream assigns to a measurement with these attributes
abbrev pub set_of : AllowList → List KeyValue → AttributeSet
set_of allow attributes = canon (allowed_part allow attributes)
