use Rattle.std.proofs.Common.{◌∙◌, ap}
use Rattle.opentelemetry_sdk.specs.pipeline.Collections.{scopes_shown}
use Rattle.opentelemetry_sdk.specs.pipeline.Observations.{observed_all}
use Rattle.opentelemetry_sdk.proofs.pipeline.Collects.{finished-settled, shown-settled}
use Rattle.opentelemetry_sdk.proofs.pipeline.observing.collect_observed.Goals as goal

pub returns-in-Ok-clause-scopes : goal.returns-in-Ok-clause-scopes
returns-in-Ok-clause-scopes c =
    ap (λ z. z.scope_metrics) c.new.ensures
    ∙ c.in-Ok.ensures.scopes
    ∙ ap (λ ks. scopes_shown c.args.now ks c.args.meters.now.keys) c.deref.ensures.value
    ∙ shown-settled c.args.now c.args.meters.now.keys c.exchange_each.new.streams.items (observed_all c.args.feeds.now c.args.observations.now c.args.streams.now.items) (c.exchange_each.ensures.drafted ∙ c.in_ok-drafts.ensures.observed)

pub returns-in-Ok-clause-streams : goal.returns-in-Ok-clause-streams
returns-in-Ok-clause-streams c =
    c.finish_each.ensures
    ∙ finished-settled c.args.now c.exchange_each.new.streams.items (observed_all c.args.feeds.now c.args.observations.now c.args.streams.now.items) (c.exchange_each.ensures.drafted ∙ c.in_ok-drafts.ensures.observed)
