use Rattle.std.proofs.Common.{◌≡◌, ◌∙◌, codes, ap}
use Rattle.otel_common.specs.declared.attributes.KeyValue.{KeyValue}
use Rattle.otel_common.proofs.resource_builder.ResourceBuilder.with_service_name.Goals as goal

pub returns-clause-merged : goal.returns-clause-merged
returns-clause-merged c =
    let name : c.new-2.result ≡ record { key = codes "service.name"; value = c.args.name } =
    c.new-2.ensures ∙ ap (λ k. record { key = k; value = c.args.name }) c.in_ok-key.ensures.key in
    rw (← name) c.with_attribute.ensures.merged
