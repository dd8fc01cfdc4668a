use Rattle.std.proofs.Common.{◌≡◌, [], ◌∷◌, ◌++◌, drop}
use Rattle.otel_prometheus.specs.Samples.{labels_text, with_last_text}
use Rattle.otel_prometheus.proofs.text.labels.push_labels_with.Given as goal

-- with the labels that are left the text is whole
abbrev pub invariant-loop-label : goal.invariant-loop-label
invariant-loop-label l = l.out.items ++ with_last_text (drop l.label-index l.labels) (l.name, l.value) ≡ l.fn.out.items ++ labels_text (l.labels ++ (l.name, l.value) ∷ [])
