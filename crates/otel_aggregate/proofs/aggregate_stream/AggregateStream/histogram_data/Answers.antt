use Rattle.std.proofs.Common.{◌∙◌, not, ap}
use Rattle.otel_aggregate.specs.Any.{Spreads, form_of}
use Rattle.otel_aggregate.specs.Streams.{AggregateContents}
use Rattle.otel_aggregate.proofs.KeptLemmas.{kept-like, showable-points}
use Rattle.otel_aggregate.proofs.aggregate_stream.AggregateStream.histogram_data.Goals as goal

pub shown-requires : goal.shown-requires
shown-requires g c =
    showable-points g.T.Number.is_signed Spreads (not c.self.inside.resets) c.self.inside.map.state.table
    (kept-like c.self.inside.map.state.table (ap (λ (x : AggregateContents). x.is_signed) c.self.view_is ∙ c.requires.number) (ap (λ (x : AggregateContents). form_of x.state.aggregate) c.self.view_is ∙ c.requires.kind) c.self.invariant.3.1)
