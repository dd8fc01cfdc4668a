-- Resources, how they merge (Resource SDK, "Merge"), and what their builders do.
use Rattle.std.specs.Prelude.{◌≡◌, ◌≢◌, ℕ, List, [], ◌∷◌, ◌++◌, reverse, cond, Option, Some, None, codes}
use Rattle.std.specs.Option.{option_or}
use Rattle.otel_common.specs.Canonical.{canon, HasRisingKeys}
use Rattle.otel_common.specs.Equality.{bytes_eq}
use Rattle.otel_common.specs.declared.attributes.KeyValue.{KeyValue}
use Rattle.otel_common.specs.declared.attributes.Value.{Value}
use Rattle.otel_common.specs.declared.resource.Resource.{Resource}
use denote.Ref.{Bor}

-- no attributes and no URL
abbrev pub empty_resource : Resource
empty_resource = record { attributes = []; schema_url = None }

-- of two URLs the common one if they are equal, and none if they differ; of one URL and none, the one
abbrev pub merged_url : Option (List ℕ) → Option (List ℕ) → Option (List ℕ)
merged_url None other = other
merged_url (Some url) None = Some url
merged_url (Some url) (Some other) = cond (bytes_eq url other) (Some url) None

-- the attributes of both, the other's value winning where both have a key, and the merged URL
abbrev pub merged_resource : Resource → Resource → Resource
merged_resource resource other = record {
  attributes = canon (other.attributes ++ resource.attributes);
  schema_url = merged_url resource.schema_url other.schema_url;
}

-- the value of the first pair with this key, if there is one
abbrev pub value_at : List ℕ → List KeyValue → Option Value
value_at key [] = None
value_at key (p ∷ attributes) = cond (bytes_eq p.key key) (Some p.value) (value_at key attributes)

-- at each key r has the other's value, or the resource's if the other lacks the key
abbrev pub HasValuesOfBoth : Resource → Resource → Resource → Type 0
HasValuesOfBoth resource other r = (key : List ℕ) → value_at key r.attributes ≡ option_or (value_at key other.attributes) (value_at key resource.attributes)

-- the attribute that a pair of references points to
abbrev pub attribute_at : Bor (List ℕ) × Bor Value → KeyValue
attribute_at pair = record { key = pair.0.now; value = pair.1.now }

-- in a merge the other's values win
abbrev pub OthersValuesWin : Type 0
OthersValuesWin = (resource other : Resource) → HasValuesOfBoth resource other (merged_resource resource other)

-- the keys of a merge are in strictly ascending byte order
abbrev pub MergesAreCanonical : Type 0
MergesAreCanonical = (resource other : Resource) → HasRisingKeys (merged_resource resource other).attributes

-- of three resources, the last two have the same URL and the first has another: merging them from the left ends with
-- the URL of the last two
abbrev pub UrlsMergeFromTheLeft : Type 0
UrlsMergeFromTheLeft = (a b c : Resource) (one two : List ℕ) → one ≢ two → a.schema_url ≡ Some one → b.schema_url ≡ Some two → c.schema_url ≡ Some two
    → (merged_resource (merged_resource a b) c).schema_url ≡ Some two

-- merging them from the right ends with no URL
abbrev pub UrlsMergeFromTheRight : Type 0
UrlsMergeFromTheRight = (a b c : Resource) (one two : List ℕ) → one ≢ two → a.schema_url ≡ Some one → b.schema_url ≡ Some two → c.schema_url ≡ Some two
    → (merged_resource a (merged_resource b c)).schema_url ≡ None

-- ======== builders ========
-- the resource with these attributes and this URL; of attributes with the same key the last wins
abbrev pub resource_of : List KeyValue → Option (List ℕ) → Resource
resource_of attributes url = record { attributes = canon (reverse attributes); schema_url = url }

-- an empty URL counts as none
abbrev pub url_of : List ℕ → Option (List ℕ)
url_of [] = None
url_of (b ∷ url) = Some (b ∷ url)

-- a builder that is given attributes, which win over its own
abbrev pub with_attributes : Resource → List KeyValue → Resource
with_attributes builder attributes = merged_resource builder (resource_of attributes None)

-- a builder that is given one attribute
abbrev pub with_attribute : Resource → KeyValue → Resource
with_attribute builder attribute = with_attributes builder (attribute ∷ [])

-- a builder that is given the service's name
abbrev pub with_service_name : Resource → Value → Resource
with_service_name builder name = with_attribute builder (record { key = codes "service.name"; value = name })

-- a builder that is given attributes and their schema's URL: its own attributes win, and the URLs merge
abbrev pub with_schema_url : Resource → List KeyValue → List ℕ → Resource
with_schema_url builder attributes url = merged_resource (resource_of attributes (url_of url)) builder

-- given attributes win over the builder's, and of those with the same key the last wins
abbrev pub GivenValuesWin : Type 0
GivenValuesWin = (builder : Resource) (attributes : List KeyValue) (key : List ℕ)
    → value_at key (with_attributes builder attributes).attributes ≡ option_or (value_at key (reverse attributes)) (value_at key builder.attributes)

-- the builder's attributes win over those given with a URL, and of these the last with a key wins
abbrev pub OwnValuesWin : Type 0
OwnValuesWin = (builder : Resource) (attributes : List KeyValue) (url key : List ℕ)
    → value_at key (with_schema_url builder attributes url).attributes ≡ option_or (value_at key builder.attributes) (value_at key (reverse attributes))

-- giving a list with one more attribute at its end is giving the list and then the attribute
abbrev pub GivenOneByOne : Type 0
GivenOneByOne = (builder : Resource) (attributes : List KeyValue) (attribute : KeyValue)
    → with_attributes builder (attributes ++ attribute ∷ []) ≡ with_attribute (with_attributes builder attributes) attribute
