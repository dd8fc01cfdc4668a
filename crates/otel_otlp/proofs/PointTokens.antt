-- The tokens of a point, as its parts are written.
use Rattle.std.proofs.Common.{◌≡◌, ℕ, ℤ, Bool, List, [], ◌∷◌, ◌++◌, Option, Some, None, sym, ap, ◌∙◌, codes}
use Rattle.std.specs.Option.{option_map}
use Rattle.json.specs.Json.{Members, no_members}
use Rattle.json.specs.Token.{Token}
use Rattle.json.specs.Tree.{json_tokens, members_tokens}
use Rattle.otel_common.specs.declared.attributes.KeyValue.{KeyValue}
use Rattle.otel_data.specs.declared.points.HistogramDataPoint.{HistogramDataPoint}
use Rattle.otel_otlp.specs.Arrays.{array_of, members_front, optional}
use Rattle.otel_otlp.specs.Numbers.{quoted, whole, value_member}
use Rattle.otel_otlp.specs.Points.{point_members, kept_sum, totals, buckets, extremes, number_point_json, histogram_point_json}
use Rattle.otel_otlp.proofs.Fronts.{closed, front_then, optional-tokens}

extremes_tokens : (min max : Option ℤ)
    → members_front (optional (codes "min") (option_map whole min) no_members) ++ (members_front (optional (codes "max") (option_map whole max) no_members) ++ Token.end_object ∷ []) ≡ members_tokens (extremes min max no_members)
extremes_tokens min max =
    sym (optional-tokens (codes "min") (option_map whole min) (optional (codes "max") (option_map whole max) no_members)
    ∙ ap (λ x. members_front (optional (codes "min") (option_map whole min) no_members) ++ x) (optional-tokens (codes "max") (option_map whole max) no_members))

totals_then : (count : ℕ) (sum : Option ℤ) (rest : Members) → members_front (totals count sum no_members) ++ members_tokens rest ≡ members_tokens (totals count sum rest)
totals_then count None rest = front_then (totals count None no_members) rest
totals_then count (Some z) rest = front_then (totals count (Some z) no_members) rest

module _ {T : Type 0} (integer : T → ℤ) where
  pub number_point : (start time : ℕ) (attributes : List KeyValue) (v : T)
      → Token.begin_object ∷ (members_front (point_members attributes start time no_members) ++ (members_front (value_member (integer v) no_members) ++ Token.end_object ∷ []))
      ≡ json_tokens (number_point_json integer start time attributes v)
  number_point start time attributes v =
      ap (λ x. Token.begin_object ∷ (members_front (point_members attributes start time no_members) ++ x)) (sym (closed (value_member (integer v) no_members)))
      ∙ ap (λ x. Token.begin_object ∷ x) (front_then (point_members attributes start time no_members) (value_member (integer v) no_members))

  pub histogram_point : (has_sum : Bool) (start time : ℕ) (p : HistogramDataPoint T)
      → Token.begin_object ∷ (members_front (point_members p.attributes start time no_members) ++ (members_front (totals p.count (kept_sum has_sum (integer p.sum)) no_members)
      ++ Token.key (codes "bucketCounts") ∷ (json_tokens (array_of quoted p.bucket_counts) ++ Token.key (codes "explicitBounds") ∷ (json_tokens (array_of whole p.bounds)
      ++ (members_front (optional (codes "min") (option_map whole (option_map integer p.min)) no_members) ++ (members_front (optional (codes "max") (option_map whole (option_map integer p.max)) no_members) ++ Token.end_object ∷ []))))))
      ≡ json_tokens (histogram_point_json integer has_sum start time p)
  histogram_point has_sum start time p =
      ap (λ x. Token.begin_object ∷ (front ++ (total ++ Token.key (codes "bucketCounts") ∷ (json_tokens (array_of quoted p.bucket_counts) ++ Token.key (codes "explicitBounds") ∷ (json_tokens (array_of whole p.bounds) ++ x)))))
      (extremes_tokens (option_map integer p.min) (option_map integer p.max))
      ∙ ap (λ x. Token.begin_object ∷ (front ++ x)) (totals_then p.count (kept_sum has_sum (integer p.sum)) rest)
      ∙ ap (λ x. Token.begin_object ∷ x) (front_then (point_members p.attributes start time no_members) (totals p.count (kept_sum has_sum (integer p.sum)) rest))
    where
      rest : Members
      rest = buckets p.bucket_counts p.bounds (extremes (option_map integer p.min) (option_map integer p.max) no_members)

      front : List Token
      front = members_front (point_members p.attributes start time no_members)

      total : List Token
      total = members_front (totals p.count (kept_sum has_sum (integer p.sum)) no_members)
