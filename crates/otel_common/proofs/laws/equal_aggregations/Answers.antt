use Rattle.std.proofs.Common.{refl, sym, true≢false}
use Rattle.std.specs.Cmp.{booleans_Decides, signed_Decides}
use Rattle.std.specs.Cmp.Lexicographic.{pointwise_decides}
use Rattle.otel_common.specs.Equality.{both_decide}
use Rattle.otel_common.specs.declared.metrics.Aggregation.TheVariants.{Drop, Default, Sum, LastValue, ExplicitBucketHistogram}
use Rattle.otel_common.proofs.laws.equal_aggregations.Goals as goal

pub returns : goal.returns
returns c Drop Drop = (λ h. refl, λ e. refl)
returns c Drop Default = (λ h. absurd (true≢false (sym h)), λ e. cc)
returns c Drop Sum = (λ h. absurd (true≢false (sym h)), λ e. cc)
returns c Drop LastValue = (λ h. absurd (true≢false (sym h)), λ e. cc)
returns c Drop (ExplicitBucketHistogram ys n) = (λ h. absurd (true≢false (sym h)), λ e. cc)
returns c Default Drop = (λ h. absurd (true≢false (sym h)), λ e. cc)
returns c Default Default = (λ h. refl, λ e. refl)
returns c Default Sum = (λ h. absurd (true≢false (sym h)), λ e. cc)
returns c Default LastValue = (λ h. absurd (true≢false (sym h)), λ e. cc)
returns c Default (ExplicitBucketHistogram ys n) = (λ h. absurd (true≢false (sym h)), λ e. cc)
returns c Sum Drop = (λ h. absurd (true≢false (sym h)), λ e. cc)
returns c Sum Default = (λ h. absurd (true≢false (sym h)), λ e. cc)
returns c Sum Sum = (λ h. refl, λ e. refl)
returns c Sum LastValue = (λ h. absurd (true≢false (sym h)), λ e. cc)
returns c Sum (ExplicitBucketHistogram ys n) = (λ h. absurd (true≢false (sym h)), λ e. cc)
returns c LastValue Drop = (λ h. absurd (true≢false (sym h)), λ e. cc)
returns c LastValue Default = (λ h. absurd (true≢false (sym h)), λ e. cc)
returns c LastValue Sum = (λ h. absurd (true≢false (sym h)), λ e. cc)
returns c LastValue LastValue = (λ h. refl, λ e. refl)
returns c LastValue (ExplicitBucketHistogram ys n) = (λ h. absurd (true≢false (sym h)), λ e. cc)
returns c (ExplicitBucketHistogram xs m) Drop = (λ h. absurd (true≢false (sym h)), λ e. cc)
returns c (ExplicitBucketHistogram xs m) Default = (λ h. absurd (true≢false (sym h)), λ e. cc)
returns c (ExplicitBucketHistogram xs m) Sum = (λ h. absurd (true≢false (sym h)), λ e. cc)
returns c (ExplicitBucketHistogram xs m) LastValue = (λ h. absurd (true≢false (sym h)), λ e. cc)
returns c (ExplicitBucketHistogram xs m) (ExplicitBucketHistogram ys n) =
    both_decide _ _ (pointwise_decides signed_Decides xs ys) (booleans_Decides m n)
    (λ k v i. ExplicitBucketHistogram (k i) (v i))
    (λ e. (cc, cc))
