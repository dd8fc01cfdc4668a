use Rattle.std.proofs.Common.{◌≡◌, ◌∙◌, ap, subst, refl, Some}
use Rattle.otel_model_stream.specs.Sets.{AttributeSet}
use Rattle.otel_model_stream.specs.Entries.{entry_for}
use Rattle.otel_aggregate.specs.value_map.Contents.{MapContents, next_of}
use Rattle.otel_aggregate.specs.value_map.Numbers.{number_of}
use Rattle.otel_aggregate.proofs.value_map.PlaceLemmas.{number-added, new-prepared, new-set}
use Rattle.otel_aggregate.proofs.value_map.ValueMap.place_new.Goals as goal

pub returns-then-self-clause-numbers : goal.returns-then-self-clause-numbers
returns-then-self-clause-numbers g c =
    let t = c.self.inside.table in
    let ready = new-prepared t _ _ c.self.inside.pending c.in-New.set c.in-New.list c.self.invariant.2 c.in-New.ensures.value in
    rw (← c.self.view_is) (number-added t c.add.new.self c.add.result c.in-New.set _ ready.new c.add.ensures.table refl c.add.ensures.none c.add.ensures.sets).0

pub returns-then-self-clause-number : goal.returns-then-self-clause-number
returns-then-self-clause-number g c = λ s e.
    let t = c.self.inside.table in
    let ready = new-prepared t _ _ c.self.inside.pending c.in-New.set c.in-New.list c.self.invariant.2 c.in-New.ensures.value in
    let is : c.in-New.set ≡ s = new-set t.numbers c.self.inside.pending c.in-New.set s c.in-New.list c.in-New.ensures.value (ap (λ (h : MapContents). next_of h.pending) c.self.view_is ∙ e) in
    subst (λ (x : AttributeSet). number_of (entry_for x c.add.new.self.table.entries) c.add.new.self.numbers ≡ Some c.add.result) is (number-added t c.add.new.self c.add.result c.in-New.set _ ready.new c.add.ensures.table refl c.add.ensures.none c.add.ensures.sets).1

pub returns-clause-numbers : goal.returns-clause-numbers
returns-clause-numbers g c =
    let t = c.self.inside.table in
    let ready = new-prepared t _ _ c.self.inside.pending c.in-New.set c.in-New.list c.self.invariant.2 c.in-New.ensures.value in
    rw (← c.self.view_is) (number-added t c.add-2.new.self c.add-2.result c.in-New.set _ ready.new c.add-2.ensures.table refl c.add-2.ensures.none c.add-2.ensures.sets).0

pub returns-clause-number : goal.returns-clause-number
returns-clause-number g c = λ s e.
    let t = c.self.inside.table in
    let ready = new-prepared t _ _ c.self.inside.pending c.in-New.set c.in-New.list c.self.invariant.2 c.in-New.ensures.value in
    let is : c.in-New.set ≡ s = new-set t.numbers c.self.inside.pending c.in-New.set s c.in-New.list c.in-New.ensures.value (ap (λ (h : MapContents). next_of h.pending) c.self.view_is ∙ e) in
    subst (λ (x : AttributeSet). number_of (entry_for x c.add-2.new.self.table.entries) c.add-2.new.self.numbers ≡ Some c.add-2.result) is (number-added t c.add-2.new.self c.add-2.result c.in-New.set _ ready.new c.add-2.ensures.table refl c.add-2.ensures.none c.add-2.ensures.sets).1
