use Rattle.std.proofs.Common.{[], ◌∷◌, ◌++◌, codes, rules}
use Rattle.std.specs.Fmt.{signed_decimal}
use Rattle.otel_prometheus.specs.Numbers.{unsigned}
use Rattle.otel_prometheus.specs.Samples.{escaped, labels_text}
use Rattle.otel_prometheus.specs.Points.{bound_text}
use Rattle.otel_prometheus.proofs.BucketLemmas.{bucket_pushed}
use Rattle.otel_prometheus.proofs.samples.push_bucket.Goals as goal

pub returns : goal.returns
returns c =
    λ name labels e.
    let bound = bound_text c.args.format c.args.bound in
    bucket_pushed c.args.out.now.items c.args.front.now (escaped bound) (name ++ codes "_bucket") (labels_text (labels ++ (codes "le", bound) ∷ [])) (signed_decimal (unsigned c.args.count))
    c.extend_from_slice.new.self.items c.push_bound.new.out.items c.push_bucket_end.new.out.items
    (e bound) c.in_ok-extend_from_slice.ensures.items (search rules) c.in_ok-push_bucket_end.ensures
