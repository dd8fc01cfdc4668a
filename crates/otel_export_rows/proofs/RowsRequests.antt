-- Worked rows of the reader of requests. Most of them deny a text.
use Rattle.std.specs.Prelude.{◌≡◌, ℕ, pos, negsuc, List, [], ◌∷◌, ◌++◌, true, Option, Some, None, option_and_then, codes}
use Rattle.std.proofs.Common.{refl}
use Rattle.json.specs.Json.{null, document, value, items, members}
use Rattle.json.specs.Lex.{lex, punctuate}
use Rattle.json.specs.Text.{content, short_escape}
use Rattle.json.specs.Word.{word, after_number}
use Rattle.otel_common.specs.declared.metrics.Temporality.TheVariants.{Cumulative, Delta}
use Rattle.otel_otlp.specs.Reading.{collection_of}
use Rattle.otel_otlp.specs.Shown.{truth, integer, text, scalar, list, Attribute, Points, gauge, sum, histogram, Collection}

pub nothing_in_null : collection_of null ≡ None
nothing_in_null = refl

-- what a text says
abbrev said : List ℕ → Option Collection
said t = option_and_then collection_of (document t)

-- ======== what is read ========
-- a request with these attributes of its resource and one metric with these points
abbrev request : List ℕ → List ℕ → List ℕ
request attributes points =
    codes "{\"resourceMetrics\":[{\"resource\":{\"attributes\":["
    ++ (attributes
    ++ (codes "]},\"scopeMetrics\":[{\"scope\":{\"name\":\"s\",\"version\":\"1\",\"attributes\":[]},\"metrics\":[{\"name\":\"m\",\"description\":\"d\",\"unit\":\"u\","
    ++ (points ++ codes "}],\"schemaUrl\":\"https://s\"}],\"schemaUrl\":\"https://r\"}]}")))

-- what it says
abbrev collection : List Attribute → Points → Collection
collection attributes points = record {
  attributes = attributes;
  scopes = record {
    name = codes "s";
    version = Some (codes "1");
    attributes = [];
    metrics = record { name = codes "m"; description = codes "d"; unit = codes "u"; points = points } ∷ [];
    schema_url = Some (codes "https://s");
  } ∷ [];
  schema_url = Some (codes "https://r");
}

-- points with these members, between the names of their aggregation and of what stands beside them
abbrev with_point : List ℕ → List ℕ → List ℕ → List ℕ
with_point front members rest = request [] (front ++ (codes ":{\"dataPoints\":[{\"attributes\":[]," ++ (members ++ (codes "}]" ++ (rest ++ codes "}")))))

abbrev moments : List ℕ
moments = codes "\"startTimeUnixNano\":\"1\",\"timeUnixNano\":\"2\","

abbrev sum_with : List ℕ → List ℕ
sum_with members = with_point (codes "\"sum\"") members (codes ",\"aggregationTemporality\":1,\"isMonotonic\":true")

abbrev histogram_with : List ℕ → List ℕ
histogram_with members = with_point (codes "\"histogram\"") members (codes ",\"aggregationTemporality\":2")

-- a delta sum is of temporality 1
pub sum_read : said (sum_with (moments ++ codes "\"asInt\":\"-7\"")) ≡ Some (collection [] (sum (record { attributes = []; start = 1; time = 2; amount = negsuc 6 } ∷ []) Delta true))
unfolding lex punctuate content short_escape word after_number value items members
sum_read = refl

-- a cumulative histogram is of temporality 2
pub histogram_read : said (histogram_with (moments ++ codes "\"count\":\"3\",\"sum\":9,\"bucketCounts\":[\"1\",\"2\"],\"explicitBounds\":[-5],\"min\":-9,\"max\":4")) ≡ Some (collection [] (histogram (record { attributes = []; start = 1; time = 2; count = 3; sum = Some (pos 9); counts = 1 ∷ 2 ∷ []; bounds = negsuc 4 ∷ []; min = Some (negsuc 8); max = Some (pos 4) } ∷ []) Cumulative))
unfolding lex punctuate content short_escape word after_number value items members
histogram_read = refl

-- attributes of each type of value, and a value from 2^63 on
abbrev each_type : List ℕ
each_type =
    codes "{\"key\":\"b\",\"value\":{\"boolValue\":true}},{\"key\":\"i\",\"value\":{\"intValue\":\"-1\"}},{\"key\":\"t\",\"value\":{\"stringValue\":\"\\\"\\n\"}},"
    ++ codes "{\"key\":\"l\",\"value\":{\"arrayValue\":{\"values\":[{\"intValue\":\"1\"},{\"boolValue\":true},{\"stringValue\":\"\"}]}}}"

abbrev attributes_of_each_type : List Attribute
attributes_of_each_type =
    record { key = codes "b"; content = scalar (truth true) }
    ∷ record { key = codes "i"; content = scalar (integer (negsuc 0)) }
    ∷ record { key = codes "t"; content = scalar (text (codes "\"\n")) }
    ∷ record { key = codes "l"; content = list (integer (pos 1) ∷ truth true ∷ text [] ∷ []) } ∷ []

pub gauge_read : said (request each_type (codes "\"gauge\":{\"dataPoints\":[{\"attributes\":[]," ++ (moments ++ codes "\"asDouble\":9223372036854775808}]}"))) ≡ Some (collection attributes_of_each_type (gauge (record { attributes = []; start = 1; time = 2; amount = pos 9223372036854775808 } ∷ [])))
unfolding lex punctuate content short_escape word after_number value items members
gauge_read = refl

-- ======== what is no request ========
abbrev AreDenied : List (List ℕ) → Type 0
AreDenied [] = Unit {0}
AreDenied (t ∷ ts) = (said t ≡ None) × AreDenied ts

-- a name that is missing, or another one
abbrev with_other_names : List (List ℕ)
with_other_names =
    sum_with (codes "\"startTimeUnixNanos\":\"1\",\"timeUnixNano\":\"2\",\"asInt\":\"7\"")
    ∷ sum_with (codes "\"startTimeUnixNano\":\"1\",\"asInt\":\"7\"")
    ∷ sum_with (moments ++ codes "\"as_int\":\"7\"")
    ∷ histogram_with (moments ++ codes "\"count\":\"0\",\"bucketCounts\":[],\"explicitBound\":[]")
    ∷ histogram_with (moments ++ codes "\"count\":\"0\",\"explicitBounds\":[]")
    ∷ histogram_with (moments ++ codes "\"bucketCounts\":[],\"explicitBounds\":[]")
    ∷ with_point (codes "\"sum\"") (moments ++ codes "\"asInt\":\"7\"") (codes ",\"isMonotonic\":true")
    ∷ with_point (codes "\"sum\"") (moments ++ codes "\"asInt\":\"7\"") (codes ",\"aggregationTemporality\":1")
    ∷ with_point (codes "\"summary\"") (moments ++ codes "\"asInt\":\"7\"") []
    ∷ []

pub other_names : AreDenied with_other_names
unfolding lex punctuate content short_escape word after_number value items members
other_names = (refl, (refl, (refl, (refl, (refl, (refl, (refl, (refl, (refl, tt)))))))))

-- integers without quotes or of other bytes, doubles in quotes or with a fraction, and temporalities that are none
abbrev with_other_numbers : List (List ℕ)
with_other_numbers =
    sum_with (moments ++ codes "\"asInt\":7")
    ∷ sum_with (moments ++ codes "\"asInt\":\"\"")
    ∷ sum_with (moments ++ codes "\"asInt\":\"-\"")
    ∷ sum_with (moments ++ codes "\"asInt\":\"+7\"")
    ∷ sum_with (moments ++ codes "\"asInt\":\"7 \"")
    ∷ sum_with (moments ++ codes "\"asDouble\":\"7\"")
    ∷ sum_with (moments ++ codes "\"asDouble\":7.5")
    ∷ sum_with (codes "\"startTimeUnixNano\":1,\"timeUnixNano\":\"2\",\"asInt\":\"7\"")
    ∷ sum_with (codes "\"startTimeUnixNano\":\"-1\",\"timeUnixNano\":\"2\",\"asInt\":\"7\"")
    ∷ histogram_with (moments ++ codes "\"count\":0,\"bucketCounts\":[],\"explicitBounds\":[]")
    ∷ histogram_with (moments ++ codes "\"count\":\"0\",\"bucketCounts\":[0],\"explicitBounds\":[]")
    ∷ histogram_with (moments ++ codes "\"count\":\"0\",\"bucketCounts\":[],\"explicitBounds\":[\"5\"]")
    ∷ histogram_with (moments ++ codes "\"count\":\"0\",\"sum\":\"0\",\"bucketCounts\":[],\"explicitBounds\":[]")
    ∷ with_point (codes "\"sum\"") (moments ++ codes "\"asInt\":\"7\"") (codes ",\"aggregationTemporality\":3,\"isMonotonic\":true")
    ∷ with_point (codes "\"sum\"") (moments ++ codes "\"asInt\":\"7\"") (codes ",\"aggregationTemporality\":\"1\",\"isMonotonic\":true")
    ∷ with_point (codes "\"sum\"") (moments ++ codes "\"asInt\":\"7\"") (codes ",\"aggregationTemporality\":-1,\"isMonotonic\":true")
    ∷ with_point (codes "\"sum\"") (moments ++ codes "\"asInt\":\"7\"") (codes ",\"aggregationTemporality\":1,\"isMonotonic\":1")
    ∷ []

pub other_numbers : AreDenied with_other_numbers
unfolding lex punctuate content short_escape word after_number value items members
other_numbers = (refl, (refl, (refl, (refl, (refl, (refl, (refl, (refl, (refl, (refl, (refl, (refl, (refl, (refl, (refl, (refl, (refl, tt)))))))))))))))))

-- a request with this attribute
abbrev with_attribute : List ℕ → List ℕ
with_attribute attribute = request attribute (codes "\"gauge\":{\"dataPoints\":[]}")

abbrev with_other_values : List (List ℕ)
with_other_values =
    with_attribute (codes "{\"value\":{\"boolValue\":true}}")
    ∷ with_attribute (codes "{\"key\":\"k\"}")
    ∷ with_attribute (codes "{\"key\":\"k\",\"value\":{}}")
    ∷ with_attribute (codes "{\"key\":\"k\",\"value\":{\"boolValue\":\"true\"}}")
    ∷ with_attribute (codes "{\"key\":\"k\",\"value\":{\"intValue\":1}}")
    ∷ with_attribute (codes "{\"key\":\"k\",\"value\":{\"stringValue\":1}}")
    ∷ with_attribute (codes "{\"key\":\"k\",\"value\":{\"doubleValue\":1}}")
    ∷ with_attribute (codes "{\"key\":\"k\",\"value\":{\"arrayValue\":{}}}")
    ∷ with_attribute (codes "{\"key\":\"k\",\"value\":{\"arrayValue\":{\"values\":[{}]}}}")
    ∷ []

pub other_values : AreDenied with_other_values
unfolding lex punctuate content short_escape word after_number value items members
other_values = (refl, (refl, (refl, (refl, (refl, (refl, (refl, (refl, (refl, tt)))))))))

-- none or two collections, a scope or a resource that is missing, and texts that are no JSON
abbrev empty_request : List ℕ
empty_request = codes "{\"resourceMetrics\":[{\"resource\":{\"attributes\":[]},\"scopeMetrics\":[]}]}"

pub empty_read : said empty_request ≡ Some (record { attributes = []; scopes = []; schema_url = None })
unfolding lex punctuate content short_escape word after_number value items members
empty_read = refl

abbrev with_other_wholes : List (List ℕ)
with_other_wholes =
    [] ∷ codes "{}" ∷ codes "[]"
    ∷ codes "{\"resourceMetrics\":[]}"
    ∷ codes "{\"resource_metrics\":[{\"resource\":{\"attributes\":[]},\"scopeMetrics\":[]}]}"
    ∷ codes "{\"resourceMetrics\":[{\"resource\":{\"attributes\":[]},\"scopeMetrics\":[]},{\"resource\":{\"attributes\":[]},\"scopeMetrics\":[]}]}"
    ∷ codes "{\"resourceMetrics\":[{\"scopeMetrics\":[]}]}"
    ∷ codes "{\"resourceMetrics\":[{\"resource\":{\"attributes\":[]}}]}"
    ∷ codes "{\"resourceMetrics\":[{\"resource\":{\"attributes\":[]},\"scopeMetrics\":[{\"metrics\":[]}]}]}"
    ∷ codes "{\"resourceMetrics\":[{\"resource\":{\"attributes\":[]},\"scopeMetrics\":[]}]"
    ∷ codes "{\"resourceMetrics\":[{\"resource\":{\"attributes\":[]},\"scopeMetrics\":[],\"schemaUrl\":\"a\nb\"}]}"
    ∷ codes "{\"resourceMetrics\":[{\"resource\":{\"attributes\":[]},\"scopeMetrics\":[],\"schemaUrl\":\"\\q\"}]}"
    ∷ (empty_request ++ codes "x") ∷ (empty_request ++ empty_request) ∷ []

pub other_wholes : AreDenied with_other_wholes
unfolding lex punctuate content short_escape word after_number value items members
other_wholes = (refl, (refl, (refl, (refl, (refl, (refl, (refl, (refl, (refl, (refl, (refl, (refl, (refl, (refl, tt))))))))))))))
