use Rattle.std.proofs.Common.{◌<◌, ◌∙◌, [], ◌∷◌, ◌++◌, length, add-one, arith, length-append}
use Rattle.otel_stream.specs.Requests.{outcome_by}
use Rattle.otel_stream.proofs.Asked.{asked_more, asked_all, asked_map, asked_keeps}
use Rattle.otel_stream.proofs.each_reader.ask_all.Goals as goal

pub loop-number-preserved : goal.loop-number-preserved
loop-number-preserved g c =
    let h = c.loop-number.invariant in
    let within : c.loop-number.number < length c.loop-number.readers = omega arith in (
      h.0 ++ c.ask-answer.result ∷ [],
      rw add-one (asked_more _ _ _ _ h.0 c.index-readers-number.result c.ask-answer.new.reader c.ask-answer.result h.1 within (c.ask-answer.ensures.did, c.ask-answer.ensures.wants)),
      c.noted-tally.ensures.failed h.0 h.2,
      c.noted-tally.ensures.first h.0 h.4 h.3,
      simp length-append (omega arith),
      c.noted-tally.ensures.below,
    )

pub returns-clause-asked : goal.returns-clause-asked
returns-clause-asked g c =
    let h = c.loop-number.invariant in
    (h.0, asked_map _ _ (λ a b r s. s.0) _ _ h.0 (asked_all _ _ _ _ h.0 (omega arith) h.1), c.outcome.ensures ∙ λ i. outcome_by (h.2 i) (h.3 i))

pub returns-clause-wants : goal.returns-clause-wants
returns-clause-wants g c =
    let h = c.loop-number.invariant in
    asked_keeps _ _ (λ a b r s. s.1) _ _ h.0 (asked_all _ _ _ _ h.0 (omega arith) h.1)
