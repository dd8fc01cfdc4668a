-- Worked rows on attributes, their canonical lists, scopes, faults, temporalities and aggregations.
use Rattle.std.specs.Prelude.{◌≡◌, ◌≢◌, ℕ, pos, Bool, true, false, List, [], ◌∷◌, ◌++◌, map, Option, Some, None, Ok, Err, codes}
use Rattle.std.proofs.Common.{refl, ap, true≢false}
use Rattle.std.specs.List.{IsDistinct}
use Rattle.std.specs.List.Sorted.{IsPermutation, IsStrictlySortedBy}
use Rattle.std.specs.FinMap.{entries}
use Rattle.std.specs.declared.cmp.Ordering.TheVariants.{Less, Equal, Greater}
use Rattle.otel_common.specs.Aggregations.{is_valid, aggregation_name}
use Rattle.otel_common.specs.Canonical.{key_cmp, pair_of, attribute_of, first_values, in_place, canon, CanonIsFirstValues, keys, HasDistinctKeys, HasRisingKeys, PermutingKeepsCanon, CanonIsIdempotent, IsStablySorted}
use Rattle.otel_common.specs.Equality.{bytes_eq, array_eq, value_eq, key_value_eq, set_eq}
use Rattle.otel_common.specs.Errors.{IsOther, IsConfig}
use Rattle.otel_common.specs.Faults.{number_of}
use Rattle.otel_common.specs.Resources.{value_at, HasValuesOfBoth, merged_resource, url_of, with_attributes, with_attribute, with_schema_url, OthersValuesWin, MergesAreCanonical, UrlsMergeFromTheLeft, UrlsMergeFromTheRight, GivenValuesWin, OwnValuesWin, GivenOneByOne}
use Rattle.otel_common.specs.Scopes.{scope_eq}
use Rattle.otel_common.specs.Temporalities.{lowered_name, temporality_named, resets}
use Rattle.otel_common.specs.declared.attributes.Array.TheVariants as array
use Rattle.otel_common.specs.declared.attributes.KeyValue.{KeyValue}
use Rattle.otel_common.specs.declared.attributes.Value.{Value}
use Rattle.otel_common.specs.declared.attributes.Value.TheVariants as value
use Rattle.otel_common.specs.declared.faults.Fault.TheVariants.{OutOfMemory, UnknownMeter, UnknownInstrument, UnknownHandle, UnknownReader, WrongNumber, WrongKind, AlreadyShutdown, Exhausted, LedgerFull, UseWorker, WorkersMissing, InternalFailure}
use Rattle.otel_common.specs.declared.faults.InternalFault.TheVariants.{ReaderShutDown, Readers}
use Rattle.otel_common.specs.declared.metrics.Aggregation.TheVariants.{Drop, Default, Sum, LastValue, ExplicitBucketHistogram}
use Rattle.otel_common.specs.declared.metrics.MetricError.TheVariants.{Other, Config, InvalidInstrumentConfiguration}
use Rattle.otel_common.specs.declared.metrics.Temporality.TheVariants.{Cumulative, Delta, LowMemory}
use Rattle.otel_common.specs.declared.resource.Resource.{Resource}
use Rattle.otel_common.specs.declared.scopes.InstrumentationScope.{InstrumentationScope}

-- ======== attributes ========
abbrev pair : ℕ → ℕ → KeyValue
pair key n = record { key = key ∷ []; value = value.I64 (pos n) }

pub bytes_compared : map (bytes_eq (1 ∷ 2 ∷ [])) ((1 ∷ 2 ∷ []) ∷ (1 ∷ []) ∷ (1 ∷ 2 ∷ 3 ∷ []) ∷ (2 ∷ 1 ∷ []) ∷ []) ≡ true ∷ false ∷ false ∷ false ∷ []
bytes_compared = refl

-- arrays of another type are different, even if both are empty
pub arrays_compared : (map (array_eq (array.I64 (pos 1 ∷ pos 2 ∷ []))) (array.I64 (pos 1 ∷ pos 2 ∷ []) ∷ array.I64 (pos 2 ∷ pos 1 ∷ []) ∷ array.I64 [] ∷ []) ≡ true ∷ false ∷ false ∷ [])
    × (map (array_eq (array.Bool [])) (array.Bool [] ∷ array.I64 [] ∷ array.String [] ∷ array.Bool (true ∷ []) ∷ []) ≡ true ∷ false ∷ false ∷ false ∷ [])
    × (map (array_eq (array.String ((97 ∷ []) ∷ []))) (array.String ((97 ∷ []) ∷ []) ∷ array.String ((98 ∷ []) ∷ []) ∷ []) ≡ true ∷ false ∷ [])
arrays_compared = (refl, refl, refl)

pub values_compared : (map (value_eq (value.I64 (pos 1))) (value.I64 (pos 1) ∷ value.I64 (pos 2) ∷ value.Bool true ∷ value.String (49 ∷ []) ∷ value.Array (array.I64 (pos 1 ∷ [])) ∷ []) ≡ true ∷ false ∷ false ∷ false ∷ false ∷ [])
    × (map (value_eq (value.Bool true)) (value.Bool true ∷ value.Bool false ∷ []) ≡ true ∷ false ∷ [])
    × (map (value_eq (value.String (49 ∷ []))) (value.String (49 ∷ []) ∷ value.String [] ∷ []) ≡ true ∷ false ∷ [])
    × (map (value_eq (value.Array (array.Bool []))) (value.Array (array.Bool []) ∷ value.Array (array.I64 []) ∷ []) ≡ true ∷ false ∷ [])
values_compared = (refl, refl, refl, refl)

pub attributes_compared : map (key_value_eq (pair 97 1)) (pair 97 1 ∷ pair 97 2 ∷ pair 98 1 ∷ []) ≡ true ∷ false ∷ false ∷ []
attributes_compared = refl

-- lists are compared in order, and as wholes
pub sets_compared : map (set_eq (pair 97 1 ∷ pair 98 1 ∷ [])) ((pair 97 1 ∷ pair 98 1 ∷ []) ∷ (pair 98 1 ∷ pair 97 1 ∷ []) ∷ (pair 97 1 ∷ []) ∷ []) ≡ true ∷ false ∷ false ∷ []
sets_compared = refl

-- ======== canonical lists ========
-- byte by byte, the shorter first
pub keys_compared : map (key_cmp (97 ∷ 98 ∷ [])) ((97 ∷ 98 ∷ []) ∷ (97 ∷ []) ∷ (97 ∷ 98 ∷ 0 ∷ []) ∷ (98 ∷ []) ∷ (97 ∷ 97 ∷ 99 ∷ []) ∷ []) ≡ Equal ∷ Greater ∷ Less ∷ Less ∷ Greater ∷ []
keys_compared = refl

pub pairs : (pair_of (pair 97 1) ≡ (97 ∷ [], value.I64 (pos 1))) × (attribute_of (97 ∷ [], value.I64 (pos 1)) ≡ pair 97 1)
pairs = (refl, refl)

abbrev given : List KeyValue
given = pair 98 1 ∷ pair 97 2 ∷ pair 98 3 ∷ pair 99 4 ∷ pair 97 5 ∷ []

-- each key once, with its first value, in byte order
pub canonical : canon given ≡ pair 97 2 ∷ pair 98 1 ∷ pair 99 4 ∷ []
unfolding canon
canonical = refl

pub placed : in_place (map pair_of given) ≡ map pair_of (pair 97 2 ∷ pair 98 1 ∷ pair 99 4 ∷ [])
placed = refl

pub keys_of_list : keys (pair 98 1 ∷ pair 97 2 ∷ []) ≡ (98 ∷ []) ∷ (97 ∷ []) ∷ []
keys_of_list = refl

pub distinct : HasDistinctKeys (pair 98 1 ∷ pair 97 1 ∷ [])
unfolding IsDistinct
distinct = ((refl, tt), (tt, tt))

pub doubled : HasDistinctKeys (pair 98 1 ∷ pair 97 1 ∷ pair 98 2 ∷ []) → ⊥
unfolding IsDistinct
doubled h = true≢false h.0.1.0

pub rising : HasRisingKeys (pair 97 2 ∷ pair 98 1 ∷ [])
unfolding IsStrictlySortedBy
rising = ((refl, tt), (tt, tt))

pub falling : HasRisingKeys (pair 98 1 ∷ pair 97 2 ∷ []) → ⊥
unfolding IsStrictlySortedBy
falling h = let e : Greater ≡ Less = h.0.0 in cc

pub standing : HasRisingKeys (pair 98 1 ∷ pair 98 2 ∷ []) → ⊥
unfolding IsStrictlySortedBy
standing h = let e : Equal ≡ Less = h.0.0 in cc

pub law_of_first_values : CanonIsFirstValues → canon given ≡ map attribute_of (entries (first_values given))
law_of_first_values h = h given

pub law_of_canon : CanonIsIdempotent → canon (canon given) ≡ canon given
law_of_canon h = h given

pub law_of_order : PermutingKeepsCanon → (l m : List KeyValue) → HasDistinctKeys l → IsPermutation l m → canon m ≡ canon l
law_of_order h l m d p = h l m d p

-- a sorted list has the attributes of the list, which none that lost one has
pub sorted_lost_one : IsStablySorted (pair 98 1 ∷ pair 97 2 ∷ []) (pair 97 2 ∷ []) → ⊥
sorted_lost_one h = let e : ◌≡◌ {A = List KeyValue} [] (pair 98 1 ∷ []) = h.stable (pair 98 1) in cc

-- ======== scopes ========
abbrev scope : InstrumentationScope
scope = record { name = codes "shop"; version = Some (codes "1"); schema_url = None; attributes = pair 97 1 ∷ [] }

pub scopes_compared : map (scope_eq scope) (scope ∷ record scope { name = codes "Shop" } ∷ record scope { version = None } ∷ record scope { schema_url = Some [] } ∷ record scope { attributes = [] } ∷ []) ≡ true ∷ false ∷ false ∷ false ∷ false ∷ []
scopes_compared = refl

-- ======== errors and faults ========
pub numbers_of_faults : map number_of (OutOfMemory ∷ UnknownMeter ∷ UnknownInstrument ∷ UnknownHandle ∷ UnknownReader ∷ WrongNumber ∷ WrongKind ∷ AlreadyShutdown ∷ InternalFailure ReaderShutDown ∷ InternalFailure (Readers 2 1) ∷ Exhausted ∷ LedgerFull ∷ UseWorker ∷ WorkersMissing ∷ [])
    ≡ 1 ∷ 2 ∷ 3 ∷ 4 ∷ 5 ∷ 6 ∷ 7 ∷ 8 ∷ 9 ∷ 10 ∷ 11 ∷ 12 ∷ 13 ∷ 14 ∷ []
numbers_of_faults = refl

pub text_of_other : (message : _) → IsOther (Other message) (codes "a") → message.now ≡ codes "a"
text_of_other message h = h

pub text_of_config : (message : _) → IsConfig (Config message) (codes "a") → message.now ≡ codes "a"
text_of_config message h = h

pub other_variants : (message : _) → (IsOther (Config message) (codes "a") → ⊥) × (IsOther (InvalidInstrumentConfiguration message) (codes "a") → ⊥) × (IsConfig (Other message) (codes "a") → ⊥) × (IsConfig (InvalidInstrumentConfiguration message) (codes "a") → ⊥)
other_variants message = (λ h. h, λ h. h, λ h. h, λ h. h)

-- ======== temporalities and aggregations ========
pub lowered : lowered_name (codes "LowMemory-Ä") ≡ codes "lowmemory-Ä"
lowered = refl

pub named : map temporality_named (codes "Cumulative" ∷ codes "DELTA" ∷ codes "lowMemory" ∷ codes "low_memory" ∷ [] ∷ []) ≡ Ok Cumulative ∷ Ok Delta ∷ Ok LowMemory ∷ Err tt ∷ Err tt ∷ []
named = refl

pub resetting : map resets (Cumulative ∷ Delta ∷ LowMemory ∷ []) ≡ false ∷ true ∷ false ∷ []
resetting = refl

pub names_of_aggregations : map aggregation_name (Drop ∷ Default ∷ Sum ∷ LastValue ∷ ExplicitBucketHistogram [] true ∷ []) ≡ codes "Drop" ∷ codes "Default" ∷ codes "Sum" ∷ codes "LastValue" ∷ codes "ExplicitBucketHistogram" ∷ []
names_of_aggregations = refl

pub valid : map is_valid (Drop ∷ Default ∷ Sum ∷ LastValue ∷ ExplicitBucketHistogram (pos 1 ∷ pos 2 ∷ []) true ∷ ExplicitBucketHistogram (pos 2 ∷ pos 1 ∷ []) true ∷ []) ≡ true ∷ true ∷ true ∷ true ∷ true ∷ false ∷ []
valid = refl

-- ======== resources ========
pub values_found : map (λ key. value_at key given) ((98 ∷ []) ∷ (97 ∷ []) ∷ (100 ∷ []) ∷ []) ≡ Some (value.I64 (pos 1)) ∷ Some (value.I64 (pos 2)) ∷ None ∷ []
values_found = refl

abbrev having : List KeyValue → Resource
having attributes = record { attributes = attributes; schema_url = None }

pub urls : map url_of ([] ∷ (117 ∷ []) ∷ []) ≡ None ∷ Some (117 ∷ []) ∷ []
urls = refl

abbrev is_one : Option Value → Bool
is_one None = false
is_one (Some v) = value_eq v (value.I64 (pos 1))

-- where both have the key, the other's value
pub first_value_stays : HasValuesOfBoth (having (pair 97 1 ∷ [])) (having (pair 97 2 ∷ [])) (having (pair 97 1 ∷ [])) → ⊥
first_value_stays h = true≢false (ap is_one (h (97 ∷ [])))

pub value_left_out : HasValuesOfBoth (having (pair 97 1 ∷ [])) (having []) (having []) → ⊥
value_left_out h = let e : ◌≡◌ {A = Option Value} None (Some (value.I64 (pos 1))) = h (97 ∷ []) in cc

pub laws_of_merges : (OthersValuesWin → HasValuesOfBoth (having given) (having given) (merged_resource (having given) (having given)))
    × (MergesAreCanonical → HasRisingKeys (merged_resource (having given) (having given)).attributes)
laws_of_merges = (λ h. h (having given) (having given), λ h. h (having given) (having given))

abbrev located : ℕ → Resource
located url = record { attributes = []; schema_url = Some (url ∷ []) }

pub laws_of_urls : (UrlsMergeFromTheLeft → (◌≢◌ {A = List ℕ} (1 ∷ []) (2 ∷ [])) → (merged_resource (merged_resource (located 1) (located 2)) (located 2)).schema_url ≡ Some (2 ∷ []))
    × (UrlsMergeFromTheRight → (◌≢◌ {A = List ℕ} (1 ∷ []) (2 ∷ [])) → (merged_resource (located 1) (merged_resource (located 2) (located 2))).schema_url ≡ None)
laws_of_urls = (λ h n. h (located 1) (located 2) (located 2) (1 ∷ []) (2 ∷ []) n refl refl refl, λ h n. h (located 1) (located 2) (located 2) (1 ∷ []) (2 ∷ []) n refl refl refl)

pub laws_of_builders : (GivenValuesWin → value_at (97 ∷ []) (with_attributes (having []) given).attributes ≡ Some (value.I64 (pos 5)))
    × (OwnValuesWin → value_at (97 ∷ []) (with_schema_url (having (pair 97 1 ∷ [])) given []).attributes ≡ Some (value.I64 (pos 1)))
    × (GivenOneByOne → with_attributes (having []) (given ++ pair 97 6 ∷ []) ≡ with_attribute (with_attributes (having []) given) (pair 97 6))
laws_of_builders = (λ h. h (having []) given (97 ∷ []), λ h. h (having (pair 97 1 ∷ [])) given [] (97 ∷ []), λ h. h (having []) given (pair 97 6))

pub last_number : number_of WorkersMissing ≡ 14
last_number = refl
