use Rattle.std.proofs.Common.{[], ◌∷◌, ◌++◌, ◌∙◌, ap, append_assoc}
use Rattle.otel_prometheus.specs.Samples.{with_last_text}
use Rattle.otel_prometheus.proofs.LabelLemmas.{labels_with_last}
use Rattle.otel_prometheus.proofs.text.labels.push_labels_with.Goals as goal

pub loop-label-init : goal.loop-label-init
loop-label-init c =
    let last = with_last_text c.args.labels.now (c.args.name.now, c.args.value.now) in
    ap (λ t. t ++ last) c.in_ok-extend_from_slice.ensures.items
    ∙ (append_assoc c.args.out.now.items (123 ∷ []) last
    ∙ ap (λ x. c.args.out.now.items ++ x) (labels_with_last c.args.labels.now (c.args.name.now, c.args.value.now)))
