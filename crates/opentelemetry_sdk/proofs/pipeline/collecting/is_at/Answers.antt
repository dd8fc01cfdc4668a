use Rattle.std.proofs.Common.{◌∙◌, Some, ap, option_copied, sym}
use Rattle.otel_common.specs.Scopes.{scope_eq-Decides}
use Rattle.opentelemetry_sdk.proofs.pipeline.collecting.is_at.Goals as goal

pub returns-in-Some : goal.returns-in-Some
returns-in-Some c = λ h. sym c.get_index.ensures.key ∙ (ap option_copied c.in-Some.is ∙ ap (λ s. Some s) ((scope_eq-Decides c.in-Some.found.now c.args.scope.now).0 (sym c.eq.ensures ∙ h)))
