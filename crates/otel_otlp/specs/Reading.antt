-- The collection that a request in JSON says.
use Rattle.std.specs.Prelude.{◌==◌, ℕ, zero, suc, ◌+◌, ◌*◌, ◌-◌, ℤ, pos, negsuc, List, [], ◌∷◌, Bool, false, cond, codes, Option, Some, None, option_map, option_and_then}
use Rattle.std.specs.Str.{all_ascii_digits, bytes_eq}
use Rattle.json.specs.Json.{Json, null, boolean, number, string, array, object, Items, no_items, item, Members, no_members, member}
use Rattle.otel_common.specs.declared.metrics.Temporality.{Temporality}
use Rattle.otel_common.specs.declared.metrics.Temporality.TheVariants.{Cumulative, Delta, LowMemory}
use Rattle.otel_otlp.specs.Shown.{Scalar, truth, integer, text, Content, scalar, list, Attribute, NumberPoint, SpreadPoint, Points, gauge, sum, histogram, MetricSaid, ScopeSaid, Collection}

-- ======== numbers ========
abbrev pub is_natural : List ℕ → Bool
is_natural [] = false
is_natural (b ∷ bs) = all_ascii_digits (b ∷ bs)

-- digits, with a hyphen before those of a number below 0
abbrev pub is_integer : List ℕ → Bool
is_integer [] = false
is_integer (b ∷ bs) = cond (b == 45) (is_natural bs) (is_natural (b ∷ bs))

-- the number of digits, after a number so far
abbrev pub number_after : ℕ → List ℕ → ℕ
number_after n [] = n
number_after n (c ∷ cs) = number_after (10 * n + (c - 48)) cs

abbrev pub negated : ℕ → ℤ
negated zero = pos 0
negated (suc n) = negsuc n

abbrev pub integer_of : List ℕ → ℤ
integer_of [] = pos 0
integer_of (b ∷ bs) = cond (b == 45) (negated (number_after 0 bs)) (pos (number_after 0 (b ∷ bs)))

abbrev pub natural_text : List ℕ → Option ℕ
natural_text ds = cond (is_natural ds) (Some (number_after 0 ds)) None

abbrev pub integer_text : List ℕ → Option ℤ
integer_text ds = cond (is_integer ds) (Some (integer_of ds)) None

-- ======== values of JSON ========
abbrev pub string_in : Json → Option (List ℕ)
string_in null = None
string_in (boolean b) = None
string_in (number s) = None
string_in (string s) = Some s
string_in (array js) = None
string_in (object ms) = None

abbrev pub boolean_in : Json → Option Bool
boolean_in null = None
boolean_in (boolean b) = Some b
boolean_in (number s) = None
boolean_in (string s) = None
boolean_in (array js) = None
boolean_in (object ms) = None

abbrev pub digits_in : Json → Option (List ℕ)
digits_in null = None
digits_in (boolean b) = None
digits_in (number s) = Some s
digits_in (string s) = None
digits_in (array js) = None
digits_in (object ms) = None

abbrev pub listed : Items → List Json
listed no_items = []
listed (item j js) = j ∷ listed js

abbrev pub items_in : Json → Option (List Json)
items_in null = None
items_in (boolean b) = None
items_in (number s) = None
items_in (string s) = None
items_in (array js) = Some (listed js)
items_in (object ms) = None

abbrev pub members_in : Json → Members
members_in null = no_members
members_in (boolean b) = no_members
members_in (number s) = no_members
members_in (string s) = no_members
members_in (array js) = no_members
members_in (object ms) = ms

-- the value of the first member with this key
abbrev pub member_at : List ℕ → Members → Option Json
member_at k no_members = None
member_at k (member l j ms) = cond (bytes_eq k l) (Some j) (member_at k ms)

-- an integer of 64 bits stands in quotes
abbrev pub natural_in : Json → Option ℕ
natural_in j = option_and_then natural_text (string_in j)

abbrev pub quoted_in : Json → Option ℤ
quoted_in j = option_and_then integer_text (string_in j)

abbrev pub double_in : Json → Option ℤ
double_in j = option_and_then integer_text (digits_in j)

abbrev pub applied : {A B : Type 0} → Option (A → B) → Option A → Option B
applied None x = None
applied (Some f) x = option_map f x

-- what each item says; none if one says nothing
abbrev pub each : {A : Type 0} → (Json → Option A) → List Json → Option (List A)
each f [] = Some []
each f (j ∷ js) = applied (option_map (λ x xs. x ∷ xs) (f j)) (each f js)

abbrev pub all_in : {A : Type 0} → (Json → Option A) → Json → Option (List A)
all_in f j = option_and_then (each f) (items_in j)

abbrev pub field : {A : Type 0} → (Json → Option A) → List ℕ → Members → Option A
field f k ms = option_and_then f (member_at k ms)

-- a member that may be absent
abbrev pub or_absent : {A : Type 0} → (Json → Option A) → Option Json → Option (Option A)
or_absent f None = Some None
or_absent f (Some j) = option_map (λ x. Some x) (f j)

abbrev pub optional_field : {A : Type 0} → (Json → Option A) → List ℕ → Members → Option (Option A)
optional_field f k ms = or_absent f (member_at k ms)

-- ======== attributes ========
abbrev pub scalar_of : Members → Option Scalar
scalar_of no_members = None
scalar_of (member k j ms) =
    cond (bytes_eq k (codes "boolValue")) (option_map truth (boolean_in j))
    (cond (bytes_eq k (codes "intValue")) (option_map integer (quoted_in j))
    (cond (bytes_eq k (codes "stringValue")) (option_map text (string_in j)) None))

abbrev pub scalar_in : Json → Option Scalar
scalar_in j = scalar_of (members_in j)

abbrev pub content_of : Members → Option Content
content_of no_members = None
content_of (member k j ms) =
    cond (bytes_eq k (codes "arrayValue")) (option_map list (field (all_in scalar_in) (codes "values") (members_in j)))
    (option_map scalar (scalar_of (member k j ms)))

abbrev pub content_in : Json → Option Content
content_in j = content_of (members_in j)

abbrev pub attribute_in : Json → Option Attribute
attribute_in j =
    applied (option_map (λ k c. record { key = k; content = c }) (field string_in (codes "key") (members_in j))) (field content_in (codes "value") (members_in j))

abbrev pub attributes_in : Members → Option (List Attribute)
attributes_in ms = field (all_in attribute_in) (codes "attributes") ms

-- ======== points ========
-- AGGREGATION_TEMPORALITY_DELTA is 1 and AGGREGATION_TEMPORALITY_CUMULATIVE 2
abbrev pub temporality_of : ℤ → Option Temporality
temporality_of (pos zero) = Some LowMemory
temporality_of (pos (suc zero)) = Some Delta
temporality_of (pos (suc (suc zero))) = Some Cumulative
temporality_of (pos (suc (suc (suc n)))) = None
temporality_of (negsuc n) = None

abbrev pub temporality_in : Members → Option Temporality
temporality_in ms = option_and_then temporality_of (field double_in (codes "aggregationTemporality") ms)

-- the value of a point: an integer, or else a double
abbrev pub amount_of : Option Json → Option Json → Option ℤ
amount_of (Some j) other = quoted_in j
amount_of None None = None
amount_of None (Some j) = double_in j

abbrev pub amount_in : Members → Option ℤ
amount_in ms = amount_of (member_at (codes "asInt") ms) (member_at (codes "asDouble") ms)

abbrev pub number_of : Members → Option NumberPoint
number_of ms =
    applied (applied (applied (option_map (λ a s t v. record { attributes = a; start = s; time = t; amount = v }) (attributes_in ms))
    (field natural_in (codes "startTimeUnixNano") ms)) (field natural_in (codes "timeUnixNano") ms)) (amount_in ms)

abbrev pub number_in : Json → Option NumberPoint
number_in j = number_of (members_in j)

abbrev pub spread_of : Members → Option SpreadPoint
spread_of ms =
    applied (applied (applied (applied (applied (applied (applied (applied
    (option_map (λ a s t c z cs bs l h. record { attributes = a; start = s; time = t; count = c; sum = z; counts = cs; bounds = bs; min = l; max = h }) (attributes_in ms))
    (field natural_in (codes "startTimeUnixNano") ms)) (field natural_in (codes "timeUnixNano") ms)) (field natural_in (codes "count") ms)) (optional_field double_in (codes "sum") ms))
    (field (all_in natural_in) (codes "bucketCounts") ms)) (field (all_in double_in) (codes "explicitBounds") ms)) (optional_field double_in (codes "min") ms)) (optional_field double_in (codes "max") ms)

abbrev pub spread_in : Json → Option SpreadPoint
spread_in j = spread_of (members_in j)

abbrev pub gauge_of : Members → Option Points
gauge_of ms = option_map gauge (field (all_in number_in) (codes "dataPoints") ms)

abbrev pub sum_of : Members → Option Points
sum_of ms = applied (applied (option_map (λ ps t m. sum ps t m) (field (all_in number_in) (codes "dataPoints") ms)) (temporality_in ms)) (field boolean_in (codes "isMonotonic") ms)

abbrev pub histogram_of : Members → Option Points
histogram_of ms = applied (option_map (λ ps t. histogram ps t) (field (all_in spread_in) (codes "dataPoints") ms)) (temporality_in ms)

abbrev pub or_else : {A : Type 0} → Option Json → (Members → Option A) → Option A → Option A
or_else None f other = other
or_else (Some j) f other = f (members_in j)

abbrev pub points_in : Members → Option Points
points_in ms = or_else (member_at (codes "gauge") ms) gauge_of (or_else (member_at (codes "sum") ms) sum_of (or_else (member_at (codes "histogram") ms) histogram_of None))

-- ======== collections ========
abbrev pub metric_of : Members → Option MetricSaid
metric_of ms =
    applied (applied (applied (option_map (λ n d u p. record { name = n; description = d; unit = u; points = p }) (field string_in (codes "name") ms))
    (field string_in (codes "description") ms)) (field string_in (codes "unit") ms)) (points_in ms)

abbrev pub metric_in : Json → Option MetricSaid
metric_in j = metric_of (members_in j)

abbrev pub scope_of : Members → Members → Option ScopeSaid
scope_of own ms =
    applied (applied (applied (applied (option_map (λ n v a m u. record { name = n; version = v; attributes = a; metrics = m; schema_url = u }) (field string_in (codes "name") own))
    (optional_field string_in (codes "version") own)) (attributes_in own)) (field (all_in metric_in) (codes "metrics") ms)) (optional_field string_in (codes "schemaUrl") ms)

abbrev pub scope_in : Json → Option ScopeSaid
scope_in j = option_and_then (λ own. scope_of (members_in own) (members_in j)) (member_at (codes "scope") (members_in j))

abbrev pub collection_from : Members → Members → Option Collection
collection_from own ms =
    applied (applied (option_map (λ a s u. record { attributes = a; scopes = s; schema_url = u }) (attributes_in own)) (field (all_in scope_in) (codes "scopeMetrics") ms)) (optional_field string_in (codes "schemaUrl") ms)

abbrev pub resource_metrics_in : Json → Option Collection
resource_metrics_in j = option_and_then (λ own. collection_from (members_in own) (members_in j)) (member_at (codes "resource") (members_in j))

abbrev pub only : {A : Type 0} → List A → Option A
only [] = None
only (x ∷ []) = Some x
only (x ∷ (y ∷ ys)) = None

-- the one collection of a request
abbrev pub collection_of : Json → Option Collection
collection_of j = option_and_then only (field (all_in resource_metrics_in) (codes "resourceMetrics") (members_in j))
