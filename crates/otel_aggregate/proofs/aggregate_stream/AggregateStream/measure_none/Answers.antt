use Rattle.std.proofs.Common.{inl, inr}
use Rattle.otel_model_stream.specs.Sets.{none_set}
use Rattle.otel_aggregate.specs.AnyKept.{sample_in}
use Rattle.otel_aggregate.specs.Kept.{state_of}
use Rattle.otel_aggregate.proofs.LinkLemmas.{lead-same}
use Rattle.otel_aggregate.proofs.StepLemmas.{stream-recorded}
use Rattle.otel_aggregate.proofs.aggregate_stream.AggregateStream.measure_none.Goals as goal

-- all entries keep their numbers
pub invariant_of-self : goal.invariant_of-self
invariant_of-self c =
    let was = c.self.inside.map in
    let now = c.measure_none in
    stream-recorded c.self.view_is c.args.value (sample_in c.record-record.result) was now.new.self c.self.inside.live (state_of c.self.inside.reported) (c.takes.ensures.within c.if-not-takes.false) c.record-record.ensures
    (inr (none_set, inl now.ensures.measured)) (lead-same was.numbers now.new.self.numbers now.ensures.numbers c.self.inside.live.entries c.self.invariant.0) c.self.invariant
