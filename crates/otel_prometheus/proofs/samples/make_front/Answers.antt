use Rattle.std.proofs.Common.{[], ◌∷◌, ◌++◌, ap, ◌∙◌, codes, rules}
use Rattle.otel_prometheus.specs.Samples.{escaped, labels_text}
use Rattle.otel_prometheus.proofs.BucketLemmas.{front_opened}
use Rattle.otel_prometheus.proofs.samples.make_front.Goals as goal

pub returns : goal.returns
returns c =
    λ labels e bound.
    let all = labels_text (labels ++ (codes "le", bound) ∷ []) in
    front_opened (c.args.name.now ++ codes "_bucket") all (escaped bound) c.push_open.new.out.items c.extend_from_slice-3.new.self.items
    (c.in_ok-push_open.ensures labels (codes "le", bound) e
    ∙ ap (λ t. t ++ all) (c.in_ok-extend_from_slice-2.ensures.items ∙ ap (λ t. t ++ codes "_bucket") (c.in_ok-extend_from_slice.ensures.items ∙ (search rules))))
    c.in_ok-extend_from_slice-3.ensures.items
