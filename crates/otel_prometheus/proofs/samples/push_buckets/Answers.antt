use Rattle.std.proofs.Common.{rules, sym, ◌∙◌}
use Rattle.otel_prometheus.proofs.BucketLemmas.{none_left, one_less}
use Rattle.otel_prometheus.proofs.samples.push_buckets.Goals as goal

pub returns-in_default-split_first : goal.returns-in_default-split_first
returns-in_default-split_first c = λ name labels e. sym (none_left _ _ labels _ _ _ c.loop-bound.out.items c.in_default-split_first.ensures.cases) ∙ c.loop-bound.invariant name labels e

pub loop-bound-preserved : goal.loop-bound-preserved
loop-bound-preserved c =
    λ name labels e.
    one_less c.args.format name labels c.loop-bound.before c.loop-bound.bounds_left.now c.in-Some.following.now c.in-Some.bound.now c.in-Some-split_first.count.now c.loop-bound.counts_left.now c.in-Some-split_first.rest.now
    c.loop-bound.out.items c.push_distinct_bucket.new.out.items (search rules) (search rules) (search (rules, c.in_ok-push_distinct_bucket.ensures name labels e))
    ∙ c.loop-bound.invariant name labels e
