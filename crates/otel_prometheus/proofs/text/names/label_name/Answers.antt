use Rattle.std.specs.String.{string_bytes}
use Rattle.otel_prometheus.proofs.NameLemmas.{label_name_of}
use Rattle.otel_prometheus.proofs.text.names.label_name.Goals as goal

pub returns-clause-valid : goal.returns-clause-valid
returns-clause-valid c = label_name_of c.name_of.result (λ s. string_bytes s) c.args.text.now c.name_of.ensures
