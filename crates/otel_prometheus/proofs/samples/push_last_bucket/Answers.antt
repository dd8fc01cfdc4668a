use Rattle.std.proofs.Common.{[], ◌∷◌, ◌++◌, codes}
use Rattle.std.specs.Fmt.{signed_decimal}
use Rattle.otel_prometheus.specs.Numbers.{unsigned}
use Rattle.otel_prometheus.specs.Samples.{labels_text}
use Rattle.otel_prometheus.proofs.BucketLemmas.{bucket_pushed}
use Rattle.otel_prometheus.proofs.samples.push_last_bucket.Goals as goal

pub returns : goal.returns
returns c =
    λ name labels e.
    bucket_pushed c.args.out.now.items c.args.front.now (codes "+Inf") (name ++ codes "_bucket") (labels_text (labels ++ (codes "le", codes "+Inf") ∷ [])) (signed_decimal (unsigned c.args.count))
    c.extend_from_slice.new.self.items c.extend_from_slice-2.new.self.items c.push_bucket_end.new.out.items
    (e (codes "+Inf")) c.in_ok-extend_from_slice.ensures.items c.in_ok-extend_from_slice-2.ensures.items c.in_ok-push_bucket_end.ensures
