use Rattle.std.proofs.Common.{◌≡◌, ◌∙◌, ◌∷◌, [], refl, ap, sym, cond}
use Rattle.otel_model_stream.specs.Folds.{sample_of}
use Rattle.otel_model_stream.specs.Maps.{bound_to}
use Rattle.otel_model_stream.specs.Sets.{AttributeSet, set_of}
use Rattle.otel_aggregate.specs.Any.{form_of, aggregate_of, amount_of, any_after_commit}
use Rattle.otel_aggregate.specs.AnyKept.{sample_in}
use Rattle.otel_aggregate.specs.Kept.{IsKeptStream, state_of}
use Rattle.otel_aggregate.specs.Links.{handles_of}
use Rattle.otel_aggregate.specs.Streams.{AggregateContents, recorded_in, stream_after_commit}
use Rattle.otel_aggregate.proofs.LinkLemmas.{LeadStill, lead-kept}
use Rattle.otel_aggregate.proofs.StepLemmas.{if-typed, listed-made, listed-refused, of-listed, stream-recorded}
use Rattle.otel_aggregate.proofs.value_map.PlaceLemmas.{used-measured}
use Rattle.otel_aggregate.proofs.aggregate_stream.AggregateStream.measure.Goals as goal
use Rattle.otel_aggregate.proofs.aggregate_stream.AggregateStream.measure.Goals.{After-law_of_numbers}

-- whether the record is made or refused
lead : (c : After-law_of_numbers) → LeadStill c.self.inside.map.numbers c.measure_given-measured.new.self.numbers c.self.inside.live.entries
lead c = lead-kept c.self.inside.map.numbers c.measure_given-measured.new.self.numbers c.measure_given-measured.ensures.numbers c.law_of_numbers.ensures.named c.self.inside.live.entries c.self.invariant.0

kept : (c : After-law_of_numbers) → IsKeptStream c.self.inside.is_signed (form_of (aggregate_of c.self.inside.settings)) c.measure_given-measured.new.self c.self.inside.live c.self.inside.room (state_of c.self.inside.reported)
kept c =
    let now = c.measure_given-measured in
    stream-recorded c.self.view_is c.args.value (sample_in c.record-record.result) c.self.inside.map now.new.self c.self.inside.live (state_of c.self.inside.reported) (c.takes.ensures.within c.if-not-takes.false) c.record-record.ensures
    (of-listed c.self.inside.map now.new.self c.args.attributes.now _ now.result now.ensures.ok now.ensures.err) (lead c) c.self.invariant

pub invariant_of-self : goal.invariant_of-self
invariant_of-self c = kept (goal.at.invariant_of-self c).After-law_of_numbers

pub invariant_of-self-in-Err : goal.invariant_of-self-in-Err
invariant_of-self-in-Err c = kept (goal.at.invariant_of-self-in-Err c).After-law_of_numbers

pub returns-in-Ok-clause-taken : goal.returns-in-Ok-clause-taken
returns-in-Ok-clause-taken c =
    let now = c.measure_given-measured.new.self in
    if-typed _ (sym c.takes.ensures.told ∙ c.if-not-takes.false)
    (listed-made c.self.view_is (amount_of c.args.value) (sample_in c.record-record.result) c.args.attributes.now c.self.inside.map now (handles_of now.numbers c.self.inside.live.entries) now.pending c.counted-self-inside.result (sym c.is_some.ensures ∙ c.if-is_some.false) refl
    c.record-record.ensures c.in-Ok.ensures.ok (lead (goal.at.returns-in-Ok-clause-taken c).After-law_of_numbers).1 c.measure_given-measured.ensures.spent c.counted-self-inside.ensures)

pub returns-in-Err-clause-refused : goal.returns-in-Err-clause-refused
returns-in-Err-clause-refused c =
    let now = c.measure_given-measured.new.self in
    listed-refused c.self.view_is c.self.inside.map now (handles_of now.numbers c.self.inside.live.entries) now.pending refl c.in-Err.ensures.err (lead (goal.at.returns-in-Err-clause-refused c).After-law_of_numbers).1 c.measure_given-measured.ensures.spent

-- a record of the entry that the set uses is one of the set
pub returns-then-is_some-clause-taken : goal.returns-then-is_some-clause-taken
returns-then-is_some-clause-taken c =
    let a : AggregateContents = c.args.self.now in
    let v = amount_of c.args.value in
    let ready = c.in_ok-prepare.ensures in
    let set : AttributeSet = set_of a.state.allow c.args.attributes.now in
    let used : AggregateContents = record a { pending = bound_to set a.state.map_state ∷ [] } in
    let is : c.prepare.new.self ≡ used = λ i. record { is_signed = ready.number i; state = ready.same i; live = ready.live i; pending = ready.ready i; room = ready.room i; drains = ready.drains i; reported = ready.reported i } in
    let told = sym c.takes.ensures.told ∙ c.if-not-takes.false in
    if-typed a told
    (c.commit.ensures.taken
    ∙ ap (any_after_commit c.args.value) is
    ∙ ap (λ t. cond t (stream_after_commit v used) used) told
    ∙ λ i. record a { state = recorded_in (used-measured a.state.map_state set (sample_of a.state.aggregate v) i) v a.state; pending = [] })
