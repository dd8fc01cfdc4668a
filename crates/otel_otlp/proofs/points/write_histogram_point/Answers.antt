use Rattle.std.proofs.Common.{◌≡◌, List, [], ◌∷◌, ◌++◌, ◌∙◌, ap, codes}
use Rattle.std.specs.Option.{option_map}
use Rattle.json.specs.Json.{no_members}
use Rattle.json.specs.Token.{Token}
use Rattle.json.specs.Tree.{json_tokens}
use Rattle.otel_otlp.specs.Arrays.{array_of, members_front, optional}
use Rattle.otel_otlp.specs.Numbers.{quoted, whole}
use Rattle.otel_otlp.specs.Points.{point_members, totals}
use Rattle.otel_otlp.proofs.PointTokens.{histogram_point}
use Rattle.otel_otlp.proofs.Steps.{joined9}
use Rattle.otel_otlp.proofs.points.write_histogram_point.Goals as goal

pub returns-clause-tokens : goal.returns-clause-tokens
returns-clause-tokens g c =
    let p = c.args.point.now in
    let integer = g.T.Number.integer in
    let old = c.args.out.now.tokens in
    let attributes : c.as_slice.result.now ≡ p.attributes = c.as_slice.ensures.value ∙ c.attributes.ensures in
    let counts : c.as_slice-2.result.now ≡ p.bucket_counts = c.as_slice-2.ensures.value ∙ c.bucket_counts.ensures in
    let bounds : c.as_slice-3.result.now ≡ p.bounds = c.as_slice-3.ensures.value ∙ c.bounds.ensures in
    let front : List Token = Token.begin_object ∷ members_front (point_members c.as_slice.result.now c.args.start c.args.time no_members) in
    let total : List Token = members_front (totals c.count.result (option_map integer c.kept_sum.result) no_members) in
    let counted : List Token = Token.key (codes "bucketCounts") ∷ [] in
    let buckets : List Token = json_tokens (array_of quoted c.as_slice-2.result.now) in
    let bounded : List Token = Token.key (codes "explicitBounds") ∷ [] in
    let limits : List Token = json_tokens (array_of whole c.as_slice-3.result.now) in
    let least : List Token = members_front (optional (codes "min") (option_map whole (option_map integer c.min.result)) no_members) in
    let most : List Token = members_front (optional (codes "max") (option_map whole (option_map integer c.max.result)) no_members) in
    c.in_ok-end_object.ensures.ok
    ∙ ap (λ x. x ++ Token.end_object ∷ []) (c.in_ok-write_optional-2.ensures.tokens
    ∙ ap (λ x. x ++ most) (c.in_ok-write_optional.ensures.tokens
    ∙ ap (λ x. x ++ least) (c.in_ok-write_bounds.ensures.tokens
    ∙ ap (λ x. x ++ limits) (c.in_ok-key-2.ensures.ok
    ∙ ap (λ x. x ++ bounded) (c.in_ok-write_items.ensures.tokens
    ∙ ap (λ x. x ++ buckets) (c.in_ok-key.ensures.ok
    ∙ ap (λ x. x ++ counted) (c.in_ok-write_totals.ensures.tokens
    ∙ ap (λ x. x ++ total) c.in_ok-begin_point.ensures.tokens)))))))
    ∙ joined9 old front total counted buckets bounded limits least most (Token.end_object ∷ [])
    ∙ (λ i. old ++ Token.begin_object ∷ (members_front (point_members (attributes i) c.args.start c.args.time no_members) ++ (members_front (totals (c.count.ensures i) (c.kept_sum.ensures i) no_members)
    ++ Token.key (codes "bucketCounts") ∷ (json_tokens (array_of quoted (counts i)) ++ Token.key (codes "explicitBounds") ∷ (json_tokens (array_of whole (bounds i))
    ++ (members_front (optional (codes "min") (option_map whole (option_map integer (c.min.ensures i))) no_members) ++ (members_front (optional (codes "max") (option_map whole (option_map integer (c.max.ensures i))) no_members) ++ Token.end_object ∷ [])))))))
    ∙ ap (λ x. old ++ x) (histogram_point integer c.args.has_sum c.args.start c.args.time p)
