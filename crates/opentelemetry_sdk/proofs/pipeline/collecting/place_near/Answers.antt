use Rattle.std.proofs.Common.{◌∙◌, ap, is_some, sym}
use Rattle.otel_common.specs.Scopes.{scope_eq}
use Rattle.opentelemetry_sdk.proofs.pipeline.Builds.{any-position}
use Rattle.opentelemetry_sdk.proofs.pipeline.Places.{scope-found}
use Rattle.opentelemetry_sdk.proofs.pipeline.collecting.place_near.Goals as goal

-- the place is looked up if it is at neither
pub returns-clause-there : goal.returns-clause-there
returns-clause-there c = scope-found c.args.scope.now c.args.meters.now.keys c.get_index_of.result c.get_index_of.ensures.index

pub returns-clause-nowhere : goal.returns-clause-nowhere
returns-clause-nowhere c = λ none. sym (any-position (scope_eq c.args.scope.now) c.args.meters.now.keys) ∙ ap is_some (sym c.get_index_of.ensures.index ∙ none)
