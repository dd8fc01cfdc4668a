use Rattle.std.proofs.lemmas.Result.{err_from_is_err_and}
use Rattle.metrics_script.proofs.Added.{next_read, unread_word, whole_read}
use Rattle.metrics_script.proofs.options.options_of.Goals as goal

pub loop-word-preserved : goal.loop-word-preserved
loop-word-preserved c = next_read (λ word. word.now) c.args.words.now c.loop-word.word-index _ _ _ c.loop-word-test.true c.loop-word.invariant c.in_ok-add_word.ensures.added

pub returns-clause-options : goal.returns-clause-options
returns-clause-options c = whole_read (λ word. word.now) c.args.words.now c.loop-word.word-index _ c.loop-word-test.false c.loop-word.invariant

pub returns-in_err-add_word-clause-meaningless : goal.returns-in_err-add_word-clause-meaningless
returns-in_err-add_word-clause-meaningless c =
    let answer = err_from_is_err_and c.from_residual.result c.from_residual.ensures.1 in
    rw (answer.1, answer.2) (λ bad options. unread_word (λ word. word.now) c.args.words.now c.loop-word.word-index _ _ options c.loop-word-test.true c.loop-word.invariant (c.in_err-add_word.ensures.meaningless bad))
