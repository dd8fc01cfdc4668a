-- Values of attributes as texts: a string as it is, a number in decimal, an array as JSON.
use Rattle.std.specs.Prelude.{ℕ, ℤ, List, [], ◌∷◌, cond, codes, map}
use Rattle.std.specs.Fmt.{signed_decimal}
use Rattle.json.specs.Json.{Json, boolean, number, string, array, Items, no_items, item}
use Rattle.json.specs.Print.{print}
use Rattle.json.specs.Tree.{json_tokens}
use Rattle.otel_common.specs.declared.attributes.Array.{Array}
use Rattle.otel_common.specs.declared.attributes.Array.TheVariants as arrays
use Rattle.otel_common.specs.declared.attributes.Value.{Value}
use Rattle.otel_common.specs.declared.attributes.Value.TheVariants as values

abbrev pub items_from : List Json → Items
items_from [] = no_items
items_from (j ∷ js) = item j (items_from js)

-- each item of the list as f writes it
abbrev pub array_of : {A : Type 0} → (A → Json) → List A → Json
array_of f xs = array (items_from (map f xs))

abbrev pub whole : ℤ → Json
whole z = number (signed_decimal z)

abbrev pub items_json : Array → Json
items_json (arrays.Bool bs) = array_of boolean bs
items_json (arrays.I64 zs) = array_of whole zs
items_json (arrays.String ss) = array_of string ss

abbrev pub value_text : Value → List ℕ
value_text (values.Bool b) = cond b (codes "true") (codes "false")
value_text (values.I64 z) = signed_decimal z
value_text (values.String s) = s
value_text (values.Array a) = print (json_tokens (items_json a))
