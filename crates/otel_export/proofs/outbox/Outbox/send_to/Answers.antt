use Rattle.std.proofs.Common.{subst, inr, refl, nat_lt, ◌∙◌, arith}
use Rattle.std.proofs.lemmas.Grind.{common_steps}
use Rattle.otel_export.specs.Outboxes.{Unsent, SendsOrKeeps}
use Rattle.otel_export.proofs.Lines.{none_left}
use Rattle.otel_export.proofs.Sendings.{sends_from}
use Rattle.otel_export.proofs.outbox.Outbox.send_to.Goals as goal

pub returns-clause-sent : goal.returns-clause-sent
returns-clause-sent g c =
    let whole = c.whole_lines-whole.result in
    let written = c.write_most-written.result.0 in
    let new : Unsent = record { budget = c.self.inside.budget; waiting = c.remove_front.new.lines.items; is_cut = nat_lt whole written } in
    let before = g.W.Write.contents c.args.out.now in
    let middle = g.W.Write.contents c.close_line.new.out in
    let after = g.W.Write.contents c.write_most-written.new.out in
    let P : Unsent → Type 0 = λ old. SendsOrKeeps old new before after in
    subst P c.self.view_is
    (inr (sends_from _ new before middle after whole written _ _
    c.deref.ensures.value (grind (arith, common_steps, c.deref-2.ensures.value)) c.whole_lines-whole.ensures.bound
    c.write_most-written.ensures.bound c.whole_lines-whole.ensures.lines c.whole_lines-whole.ensures.rest
    c.in_ok-close_line.ensures.closed c.write_most-written.ensures.written c.remove_front.ensures refl))

pub returns-in_err-answer-clause-sent : goal.returns-in_err-answer-clause-sent
returns-in_err-answer-clause-sent g c =
    let whole = c.whole_lines-whole.result in
    let written = c.write_most-written.result.0 in
    let new : Unsent = record { budget = c.self.inside.budget; waiting = c.remove_front.new.lines.items; is_cut = nat_lt whole written } in
    let before = g.W.Write.contents c.args.out.now in
    let middle = g.W.Write.contents c.close_line.new.out in
    let after = g.W.Write.contents c.write_most-written.new.out in
    let P : Unsent → Type 0 = λ old. SendsOrKeeps old new before after in
    subst P c.self.view_is
    (inr (sends_from _ new before middle after whole written _ _
    c.deref.ensures.value (grind (arith, common_steps, c.deref-2.ensures.value)) c.whole_lines-whole.ensures.bound
    c.write_most-written.ensures.bound c.whole_lines-whole.ensures.lines c.whole_lines-whole.ensures.rest
    c.in_ok-close_line.ensures.closed c.write_most-written.ensures.written c.remove_front.ensures refl))

pub returns-clause-all : goal.returns-clause-all
returns-clause-all g c =
    c.remove_front.ensures ∙ none_left c.self.inside.waiting.items _ c.whole_lines-whole.result c.self.invariant
    (grind (arith, common_steps, c.deref.ensures.value, c.deref-2.ensures.value, c.write_most-written.ensures.whole))
    c.whole_lines-whole.ensures.bound c.whole_lines-whole.ensures.rest
