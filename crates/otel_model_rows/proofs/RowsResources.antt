-- Worked rows on the merge of resources and on their builders.
use Rattle.std.specs.Prelude.{◌≡◌, ℕ, List, [], ◌∷◌, Option, Some, None, codes}
use Rattle.std.proofs.Common.{refl}
use Rattle.otel_common.specs.Canonical.{canon}
use Rattle.otel_common.specs.declared.attributes.KeyValue.{KeyValue}
use Rattle.otel_common.specs.declared.attributes.Value.TheVariants as value
use Rattle.otel_model.specs.Resources.{Resource, empty_resource, merged_resource, resource_of, with_attribute, with_attributes, with_service_name, with_schema_url}

-- ======== merges ========
abbrev text : ℕ → List ℕ → KeyValue
text key t = record { key = key ∷ []; value = value.String t }

abbrev u1 : Option (List ℕ)
u1 = Some (117 ∷ 49 ∷ [])

abbrev u2 : Option (List ℕ)
u2 = Some (117 ∷ 50 ∷ [])

abbrev with_url : Option (List ℕ) → Resource
with_url url = record { attributes = []; schema_url = url }

pub row_20 : (merged_resource (record { attributes = text 97 [] ∷ text 98 (codes "b-value") ∷ text 100 (codes "d-value") ∷ []; schema_url = None })
    (record { attributes = text 97 (codes "a-value") ∷ text 99 (codes "c-value") ∷ text 100 [] ∷ []; schema_url = None })).attributes
    ≡ text 97 (codes "a-value") ∷ text 98 (codes "b-value") ∷ text 99 (codes "c-value") ∷ text 100 [] ∷ []
unfolding canon
row_20 = refl

pub row_20_two : (merged_resource (with_url u1) (with_url u2)).schema_url ≡ None
row_20_two = refl

pub row_20_second : (merged_resource (with_url None) (with_url u2)).schema_url ≡ u2
row_20_second = refl

pub row_20_first : (merged_resource (with_url u1) (with_url None)).schema_url ≡ u1
row_20_first = refl

pub same_url : (merged_resource (with_url u1) (with_url u1)).schema_url ≡ u1
same_url = refl

pub no_url : (merged_resource (with_url None) (with_url None)).schema_url ≡ None
no_url = refl

-- empty values win too, and the URL stays beside the attributes
abbrev a_final : KeyValue
a_final = text 97 (codes "final")

abbrev a_empty : KeyValue
a_empty = text 97 []

abbrev key_b : KeyValue
key_b = text 107 (codes "b")

abbrev key_a : KeyValue
key_a = text 107 (codes "a")

pub empty_value_wins : (merged_resource (record { attributes = a_final ∷ []; schema_url = u1 }) (record { attributes = a_empty ∷ []; schema_url = None })) ≡ record { attributes = a_empty ∷ []; schema_url = u1 }
unfolding canon
empty_value_wins = refl

pub missing_attributes : merged_resource (with_url u1) (record { attributes = key_b ∷ []; schema_url = None }) ≡ record { attributes = key_b ∷ []; schema_url = u1 }
unfolding canon
missing_attributes = refl

pub both_have_attributes : merged_resource (record { attributes = key_a ∷ []; schema_url = u1 }) (record { attributes = key_b ∷ []; schema_url = u2 }) ≡ record { attributes = key_b ∷ []; schema_url = None }
unfolding canon
both_have_attributes = refl

-- ======== lists ========
-- of doubled keys the last wins, an empty value too; keys rise
pub last_value : resource_of (a_empty ∷ a_final ∷ []) None ≡ record { attributes = a_final ∷ []; schema_url = None }
unfolding canon
last_value = refl

pub last_value_empty : resource_of (a_final ∷ a_empty ∷ []) u1 ≡ record { attributes = a_empty ∷ []; schema_url = u1 }
unfolding canon
last_value_empty = refl

pub keys_rise : resource_of (text 98 (codes "1") ∷ text 97 (codes "2") ∷ text 98 (codes "3") ∷ text 97 (codes "4") ∷ text 99 (codes "5") ∷ []) None
    ≡ record { attributes = text 97 (codes "4") ∷ text 98 (codes "3") ∷ text 99 (codes "5") ∷ []; schema_url = None }
unfolding canon
keys_rise = refl

-- ======== builders ========
-- `a` and `b`, and a URL
abbrev begun : Resource
begun = record { attributes = text 97 (codes "old") ∷ text 98 (codes "old") ∷ []; schema_url = u1 }

pub one_attribute : with_attribute begun (text 98 []) ≡ record { attributes = text 97 (codes "old") ∷ text 98 [] ∷ []; schema_url = u1 }
unfolding canon
one_attribute = refl

pub several_attributes : with_attributes begun (text 99 (codes "new") ∷ text 97 (codes "new") ∷ text 97 (codes "newer") ∷ [])
    ≡ record { attributes = text 97 (codes "newer") ∷ text 98 (codes "old") ∷ text 99 (codes "new") ∷ []; schema_url = u1 }
unfolding canon
several_attributes = refl

pub no_attributes : with_attributes begun [] ≡ begun
unfolding canon
no_attributes = refl

abbrev service : List ℕ → KeyValue
service name = record { key = 115 ∷ 101 ∷ 114 ∷ 118 ∷ 105 ∷ 99 ∷ 101 ∷ 46 ∷ 110 ∷ 97 ∷ 109 ∷ 101 ∷ []; value = value.String name }

pub service_name : with_service_name empty_resource (value.String (codes "test_service")) ≡ record { attributes = service (codes "test_service") ∷ []; schema_url = None }
unfolding canon
service_name = refl

pub service_name_twice : with_service_name (with_service_name empty_resource (value.String (codes "first"))) (value.String (codes "second")) ≡ record { attributes = service (codes "second") ∷ []; schema_url = None }
unfolding canon
service_name_twice = refl

-- ======== a URL ========
-- a builder with one, none or one, that is given another, the same, the same
abbrev url_given : Option (List ℕ) → List ℕ → Option (List ℕ)
url_given url given = (with_schema_url (with_url url) [] given).schema_url

pub other_url : url_given u1 (117 ∷ 50 ∷ []) ≡ None
unfolding canon
other_url = refl

pub first_url : url_given None (117 ∷ 50 ∷ []) ≡ u2
unfolding canon
first_url = refl

pub url_again : url_given u1 (117 ∷ 49 ∷ []) ≡ u1
unfolding canon
url_again = refl

-- an empty one is none
pub empty_url : url_given None [] ≡ None
unfolding canon
empty_url = refl

pub empty_url_leaves : url_given u1 [] ≡ u1
unfolding canon
empty_url_leaves = refl

-- what stood in the builder wins; of doubled keys in the list the last
pub builder_wins : with_schema_url begun (text 97 (codes "new") ∷ text 99 (codes "new") ∷ text 99 (codes "newer") ∷ []) (117 ∷ 49 ∷ [])
    ≡ record { attributes = text 97 (codes "old") ∷ text 98 (codes "old") ∷ text 99 (codes "newer") ∷ []; schema_url = u1 }
unfolding canon
builder_wins = refl
