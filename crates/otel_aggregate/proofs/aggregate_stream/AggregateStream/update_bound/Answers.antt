use Rattle.std.proofs.Common.{◌≡◌, ◌∙◌, Some, None, true, ◌&&◌, not, inr, is_some, ap, sym}
use Rattle.otel_model_stream.specs.Sets.{AttributeSet}
use Rattle.otel_model_stream.specs.Events.{held_by}
use Rattle.otel_aggregate.specs.value_map.Numbers.{Numbers, set_named}
use Rattle.otel_aggregate.specs.Any.{amount_of, is_updated, takes_bound}
use Rattle.otel_aggregate.specs.AnyKept.{sample_in}
use Rattle.otel_aggregate.specs.Kept.{state_of}
use Rattle.otel_aggregate.specs.Links.{handles_of}
use Rattle.otel_aggregate.specs.Streams.{AggregateContents}
use Rattle.otel_aggregate.proofs.LinkLemmas.{found-linked, lead-same}
use Rattle.otel_aggregate.proofs.StepLemmas.{held-found, held-some, if-typed, stream-recorded, update-made, update-none}
use Rattle.otel_aggregate.proofs.aggregate_stream.AggregateStream.update_bound.Goals as goal
use Rattle.otel_aggregate.proofs.aggregate_stream.AggregateStream.update_bound.Goals.{After-number_near}

-- the stream takes the value through handles
taken : (c : After-number_near) → takes_bound c.args.value c.args.self.now ≡ true
taken c = λ i. not ((sym (ap (λ (x : AggregateContents). x.drains) c.self.view_is) ∙ (sym c.is_some.ensures ∙ c.if-is_some.false)) i) && (sym c.takes.ensures.told ∙ c.if-not-takes.false) i

told : (c : After-number_near) → is_some c.number_near.result ≡ is_updated c.args.handle c.args.value c.args.self.now
told c =
    sym (λ i. taken c i && (sym (ap (λ (x : AggregateContents). is_some (held_by c.args.handle x.live)) c.self.view_is) ∙ held-some c.self.inside.map.numbers c.args.handle c.self.inside.live.entries c.number_near.result c.number_near.ensures) i)

pub invariant_of-self : goal.invariant_of-self
invariant_of-self c =
    let was = c.self.inside.map in
    let now = c.update_bound in
    let set : AttributeSet = set_named c.in-Some.number was.numbers in
    stream-recorded c.self.view_is c.args.value (sample_in c.record-record.result) was now.new.self c.self.inside.live (state_of c.self.inside.reported) (c.takes.ensures.within c.if-not-takes.false) c.record-record.ensures
    (inr (set, inr (now.ensures.updated set (found-linked was.numbers c.args.handle c.in-Some.number c.self.inside.live.entries c.self.invariant.0 (sym c.in-Some.ensures)))))
    (lead-same was.numbers now.new.self.numbers now.ensures.numbers c.self.inside.live.entries c.self.invariant.0) c.self.invariant

pub returns-in-Some-clause-updated : goal.returns-in-Some-clause-updated
returns-in-Some-clause-updated c =
    let old : Numbers = c.self.inside.map.numbers in
    let links = c.self.inside.live.entries in
    let set : AttributeSet = set_named c.in-Some.number old in
    let now = c.update_bound in
    if-typed c.args.self.now (taken (goal.at.returns-in-Some-clause-updated c).After-number_near)
    (update-made c.self.view_is c.args.handle set (amount_of c.args.value) (sample_in c.record-record.result) now.new.self.state (handles_of now.new.self.numbers links) now.new.self.pending c.counted-self-inside.result
    (held-found old c.args.handle links (Some c.in-Some.number) c.in-Some.ensures) c.record-record.ensures (now.ensures.updated set (found-linked old c.args.handle c.in-Some.number links c.self.invariant.0 (sym c.in-Some.ensures)))
    (ap (λ (ns : Numbers). handles_of ns links) now.ensures.numbers) now.ensures.spent c.counted-self-inside.ensures)

pub returns-in-Some-clause-told : goal.returns-in-Some-clause-told
returns-in-Some-clause-told c = sym (ap is_some c.in-Some.is) ∙ told (goal.at.returns-in-Some-clause-told c).After-number_near

pub returns-in-None-clause-updated : goal.returns-in-None-clause-updated
returns-in-None-clause-updated c =
    let old : Numbers = c.self.inside.map.numbers in
    let links = c.self.inside.live.entries in
    let now = c.give_up in
    if-typed c.args.self.now (taken (goal.at.returns-in-None-clause-updated c).After-number_near)
    (update-none c.self.view_is c.args.handle (amount_of c.args.value) now.new.self.state (handles_of now.new.self.numbers links) now.new.self.pending
    (held-found old c.args.handle links None c.in-None.ensures) now.ensures.same (ap (λ (ns : Numbers). handles_of ns links) now.ensures.numbers) now.ensures.spent)

pub returns-in-None-clause-told : goal.returns-in-None-clause-told
returns-in-None-clause-told c = sym (ap is_some c.in-None.is) ∙ told (goal.at.returns-in-None-clause-told c).After-number_near
