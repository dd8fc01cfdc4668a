use Rattle.std.proofs.Common.{◌≡◌, [], true, get_or, lit<, rules}
use Rattle.std.specs.Option.{option_map}
use Rattle.metrics_script.specs.Options.{is_named}
use Rattle.metrics_script.proofs.Unread.{lacks_value, no_value, on_err, second_value, was_set}
use Rattle.metrics_script.proofs.named.value_named.Goals as goal

pub returns-in_default-clause-meaningless : goal.returns-in_default-clause-meaningless
returns-in_default-clause-meaningless c = λ all. absurd (lacks_value (λ word. word.now) c.args.words.now c.loop-word.word-index _ c.loop-word-test.true (no_value _ (c.in_default.ensures.byte (lit< tt) (λ w o h. h))) all)

pub returns-in_err-set_once-clause-meaningless : goal.returns-in_err-set_once-clause-meaningless
returns-in_err-set_once-clause-meaningless c =
    let none = was_set (λ text. text.now) c.set_once.result c.in_err-set_once.field-0.0 c.loop-word.value c.set_once.ensures.once c.in_err-set_once.was in
    let value = option_map (λ text. text.now) c.loop-word.value in
    let named : is_named c.args.name.now (get_or c.args.words.now c.loop-word.word-index (record { ref_ptr = (0, 0); now = [] })).now ≡ true = search rules in
    on_err c.from_residual.result _ (λ all. second_value (λ word. word.now) c.args.name.now c.args.words.now c.loop-word.word-index _ value c.loop-word-test.true c.loop-word.invariant none named)
