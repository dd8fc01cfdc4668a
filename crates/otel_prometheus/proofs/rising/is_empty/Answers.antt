use Rattle.std.proofs.Common.{ap, ◌∙◌, sym, rules}
use Rattle.otel_prometheus.specs.Labels.{is_empty}
use Rattle.otel_prometheus.specs.Values.{value_text}
use Rattle.otel_prometheus.proofs.ValueLemmas.{integer_is_shown, truth_is_shown, array_is_shown}
use Rattle.otel_prometheus.proofs.rising.is_empty.Goals as goal

pub returns-in-I64 : goal.returns-in-I64
returns-in-I64 c = integer_is_shown c.in-I64.number (search rules) ∙ ap (λ v. is_empty (value_text v)) (sym c.in-I64.is)

pub returns-in-Bool : goal.returns-in-Bool
returns-in-Bool c = truth_is_shown c.in-Bool.field-0 ∙ ap (λ v. is_empty (value_text v)) (sym c.in-Bool.is)

pub returns-in-Array : goal.returns-in-Array
returns-in-Array c = array_is_shown c.in-Array.field-0 ∙ ap (λ v. is_empty (value_text v)) (sym c.in-Array.is)
