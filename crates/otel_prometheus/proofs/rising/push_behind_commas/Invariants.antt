use Rattle.std.proofs.Common.{◌≡◌, ◌++◌, drop}
use Rattle.otel_prometheus.specs.Rising.{comma_texts}
use Rattle.otel_prometheus.proofs.rising.push_behind_commas.Given as goal

-- with the labels that are left the text is whole
abbrev pub invariant-loop-label : goal.invariant-loop-label
invariant-loop-label l = l.out.items ++ comma_texts (drop l.label-index l.labels) ≡ l.fn.out.items ++ comma_texts l.labels
