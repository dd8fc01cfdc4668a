-- Labels of a point: those of its scope and one for each attribute, in the order of their names. Attributes whose keys
-- become one name are one label, their values joined by semicolons in the order of the keys. A label with an empty value
-- is none to who reads a text, so it is left out.
use Rattle.std.specs.Prelude.{ℕ, List, [], ◌∷◌, ◌++◌, ◌||◌, Bool, true, false, cond, not, Option, Some, None, filter, fold, codes}
use Rattle.std.specs.Ordering.{nat_cmp}
use Rattle.std.specs.Cmp.Lexicographic.{slice_cmp}
use Rattle.std.specs.declared.cmp.Ordering.{Ordering}
use Rattle.std.specs.declared.cmp.Ordering.TheVariants.{Less, Equal, Greater}
use Rattle.otel_common.specs.Equality.{bytes_eq}
use Rattle.otel_common.specs.declared.attributes.KeyValue.{KeyValue}
use Rattle.otel_common.specs.declared.scopes.InstrumentationScope.{InstrumentationScope}
use Rattle.otel_prometheus.specs.Names.{name_of}
use Rattle.otel_prometheus.specs.Samples.{Pair, joined, is_label_byte}
use Rattle.otel_prometheus.specs.Values.{value_text}
use Rattle.otel_prometheus.specs.declared.settings.Settings.{Settings}

-- where a label belongs, by how its name compares with that of the first label
abbrev pub placed : Ordering → Pair → Pair → List Pair → List Pair → List Pair
placed Less p l ls rest = p ∷ (l ∷ ls)
placed Equal p l ls rest = joined l p.1 ∷ ls
placed Greater p l ls rest = l ∷ rest

-- the labels with one more, or with one more value of the label of that name
abbrev pub with_label : List Pair → Pair → List Pair
with_label [] p = p ∷ []
with_label (l ∷ ls) p = placed (slice_cmp nat_cmp p.0 l.0) p l ls (with_label ls p)

-- a label of a histogram is not called `le`, since its buckets are
abbrev pub own_name : Bool → List ℕ → List ℕ
own_name has_bounds name = cond (has_bounds) (cond (bytes_eq name (codes "le")) (codes "exported_le") name) name

abbrev pub label_of : Bool → KeyValue → Pair
label_of has_bounds a = (own_name has_bounds (name_of is_label_byte a.key), value_text a.value)

abbrev pub with_attributes : Bool → List Pair → List KeyValue → List Pair
with_attributes has_bounds ls attributes = fold (λ found a. with_label found (label_of has_bounds a)) ls attributes

-- a label with this text, unless it is empty
abbrev pub text_label : List ℕ → List ℕ → List Pair
text_label name [] = []
text_label name (b ∷ bs) = (name, b ∷ bs) ∷ []

-- a label with this text, if there is one that isn't empty
abbrev pub optional_label : List ℕ → Option (List ℕ) → List Pair
optional_label name None = []
optional_label name (Some text) = text_label name text

-- the name of the label of an attribute of a scope
abbrev pub scope_label_name : List ℕ → List ℕ
scope_label_name key = name_of is_label_byte (codes "otel_scope_" ++ key)

-- whether it is the name of a label for another part of the scope; such an attribute has no label
abbrev pub is_taken : List ℕ → Bool
is_taken name = bytes_eq name (codes "otel_scope_name") || bytes_eq name (codes "otel_scope_schema_url") || bytes_eq name (codes "otel_scope_version")

abbrev pub with_scope_attribute : List Pair → KeyValue → List Pair
with_scope_attribute ls a = cond (is_taken (scope_label_name a.key)) ls (with_label ls (scope_label_name a.key, value_text a.value))

-- the name, the schema URL and the version of a scope
abbrev pub parts_of_scope : InstrumentationScope → List Pair
parts_of_scope scope = text_label (codes "otel_scope_name") scope.name ++ (optional_label (codes "otel_scope_schema_url") scope.schema_url ++ optional_label (codes "otel_scope_version") scope.version)

-- these and the attributes, each as a label
abbrev pub scope_labels : Settings → InstrumentationScope → List Pair
scope_labels s scope = cond s.has_scope_labels (fold with_scope_attribute (parts_of_scope scope) scope.attributes) []

-- ======== what is shown ========
abbrev pub is_empty : List ℕ → Bool
is_empty [] = true
is_empty (b ∷ bs) = false

abbrev pub has_text : Pair → Bool
has_text l = not (is_empty l.1)

abbrev pub without_empty : List Pair → List Pair
without_empty ls = filter has_text ls

-- the labels of a scope and of attributes, with the empty ones
abbrev pub all_labels : Settings → Bool → InstrumentationScope → List KeyValue → List Pair
all_labels s has_bounds scope attributes = with_attributes has_bounds (scope_labels s scope) attributes

abbrev pub point_labels : Settings → Bool → InstrumentationScope → List KeyValue → List Pair
point_labels s has_bounds scope attributes = without_empty (all_labels s has_bounds scope attributes)

-- the labels of what says what the resource is
abbrev pub resource_labels : List KeyValue → List Pair
resource_labels attributes = without_empty (with_attributes false [] attributes)
