use Rattle.std.proofs.Common.{◌∙◌, position, ap}
use Rattle.opentelemetry_sdk.specs.Series.{series, series_eq}
use Rattle.opentelemetry_sdk.specs.Waiting.{Waits}
use Rattle.opentelemetry_sdk.proofs.WaitingLemmas.{place-there, place-unknown}
use Rattle.opentelemetry_sdk.proofs.metrics.shared.waiting.Waiting.find.Goals as goal

pub returns-clause-there : goal.returns-clause-there
returns-clause-there c = place-there (series c.args.instrument c.args.attributes.now) c.args.self.now.series c.get_index_of.result (c.get_index_of.ensures.index ∙ ap (λ (w : Waits). position (series_eq (series c.args.instrument c.args.attributes.now)) w.series) c.self.view_is)

pub returns-clause-unknown : goal.returns-clause-unknown
returns-clause-unknown c = place-unknown (series c.args.instrument c.args.attributes.now) c.args.self.now.series c.get_index_of.result (c.get_index_of.ensures.index ∙ ap (λ (w : Waits). position (series_eq (series c.args.instrument c.args.attributes.now)) w.series) c.self.view_is)
