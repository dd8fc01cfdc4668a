use Rattle.std.proofs.Common.{◌∙◌, sym, List}
use Rattle.otel_aggregate.specs.Any.{amount_of}
use Rattle.otel_aggregate.specs.AnyKept.{sample_in}
use Rattle.otel_aggregate.specs.Kept.{state_of}
use Rattle.otel_aggregate.specs.Links.{Link, handles_of}
use Rattle.otel_aggregate.specs.value_map.Contents.{next_of}
use Rattle.otel_aggregate.proofs.LinkLemmas.{lead-kept}
use Rattle.otel_aggregate.proofs.StepLemmas.{if-typed, of-prepared, stream-recorded, taken-made}
use Rattle.otel_aggregate.proofs.aggregate_stream.AggregateStream.commit.Goals as goal

pub invariant_of-self : goal.invariant_of-self
invariant_of-self c =
    let was = c.self.inside.map in
    let now = c.commit in
    stream-recorded c.self.view_is c.args.value (sample_in c.record-record.result) was now.new.self c.self.inside.live (state_of c.self.inside.reported) (c.takes.ensures.within c.if-not-takes.false) c.record-record.ensures
    (of-prepared was.state now.new.self.state (next_of was.pending) _ (sym c.is_prepared.ensures ∙ c.if-not-is_prepared.false) now.ensures.measured)
    (lead-kept was.numbers now.new.self.numbers now.ensures.numbers c.law_of_numbers.ensures.named c.self.inside.live.entries c.self.invariant.0) c.self.invariant

pub returns : goal.returns
returns c =
    let now = c.commit.new.self in
    let links : List Link = c.self.inside.live.entries in
    let lead = lead-kept c.self.inside.map.numbers now.numbers c.commit.ensures.numbers c.law_of_numbers.ensures.named links c.self.invariant.0 in
    record {
      taken = if-typed _ (sym c.takes.ensures.told ∙ c.if-not-takes.false)
          (taken-made c.self.view_is (amount_of c.args.value) (sample_in c.record-record.result) now.state (handles_of now.numbers links) now.pending c.counted-self-inside.result (sym c.is_prepared.ensures ∙ c.if-not-is_prepared.false) c.record-record.ensures
          c.commit.ensures.measured lead.1 c.commit.ensures.spent c.counted-self-inside.ensures);
    }
