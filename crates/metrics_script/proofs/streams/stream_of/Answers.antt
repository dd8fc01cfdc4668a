use Rattle.std.proofs.Common.{◌∙◌, sym, subst, map, inl, inr, rules}
use Rattle.std.proofs.lemmas.Result.{err_from_is_err_and}
use Rattle.metrics_script.specs.Streams.{ReadsStream, stream_names}
use Rattle.metrics_script.proofs.Built.{all_said, built_as_said, unbuilt_has_fault}
use Rattle.metrics_script.proofs.Unread.{named_have_values}
use Rattle.metrics_script.proofs.streams.stream_of.Goals as goal

pub returns-in-Ok-clause-stream : goal.returns-in-Ok-clause-stream
returns-in-Ok-clause-stream c =
    let said = all_said _ _ _ _ _ _ _ _ _ _ _ _ _ c.builder-builder.ensures c.with_name-builder.ensures c.with_description-builder.ensures c.with_unit-builder.ensures c.with_limit-builder.ensures c.with_keys-builder.ensures c.with_aggregation-builder.ensures in
    let built = built_as_said _ _ _ c.in-Ok.ensures in
    subst (ReadsStream (map (λ word. word.now) c.args.words.now)) (sym (built ∙ said)) (search rules, c.in_ok-text_named.ensures.text, c.in_ok-text_named-2.ensures.text, c.in_ok-text_named-3.ensures.text, c.in_ok-limit_of.ensures.limit, c.in_ok-allowed_keys_of.ensures.keys, c.in_ok-aggregation_named.ensures.aggregation)

pub returns-in-Err-clause-meaningless : goal.returns-in-Err-clause-meaningless
returns-in-Err-clause-meaningless c = λ bad.
    let said = all_said _ _ _ _ _ _ _ _ _ _ _ _ _ c.builder-builder.ensures c.with_name-builder.ensures c.with_description-builder.ensures c.with_unit-builder.ensures c.with_limit-builder.ensures c.with_keys-builder.ensures c.with_aggregation-builder.ensures in
    inr (c.with_aggregation-builder.result, subst (ReadsStream (map (λ word. word.now) c.args.words.now)) (sym said) (search rules, c.in_ok-text_named.ensures.text, c.in_ok-text_named-2.ensures.text, c.in_ok-text_named-3.ensures.text, c.in_ok-limit_of.ensures.limit, c.in_ok-allowed_keys_of.ensures.keys, c.in_ok-aggregation_named.ensures.aggregation), unbuilt_has_fault _ _ _ c.in-Err.ensures)

pub returns-in_err-text_named-clause-meaningless : goal.returns-in_err-text_named-clause-meaningless
returns-in_err-text_named-clause-meaningless c =
    let answer = err_from_is_err_and c.from_residual-in_err-text_named.result c.from_residual-in_err-text_named.ensures.1 in
    rw (answer.1, answer.2) (λ bad. inl (λ stream read. c.in_err-text_named.ensures.meaningless bad (named_have_values stream_names (map (λ word. word.now) c.args.words.now) read.0) stream.name read.1))

pub returns-in_err-text_named-2-clause-meaningless : goal.returns-in_err-text_named-2-clause-meaningless
returns-in_err-text_named-2-clause-meaningless c =
    let answer = err_from_is_err_and c.from_residual-in_err-text_named-2.result c.from_residual-in_err-text_named-2.ensures.1 in
    rw (answer.1, answer.2) (λ bad. inl (λ stream read. c.in_err-text_named-2.ensures.meaningless bad (named_have_values stream_names (map (λ word. word.now) c.args.words.now) read.0) stream.description read.2))

pub returns-in_err-text_named-3-clause-meaningless : goal.returns-in_err-text_named-3-clause-meaningless
returns-in_err-text_named-3-clause-meaningless c =
    let answer = err_from_is_err_and c.from_residual-in_err-text_named-3.result c.from_residual-in_err-text_named-3.ensures.1 in
    rw (answer.1, answer.2) (λ bad. inl (λ stream read. c.in_err-text_named-3.ensures.meaningless bad (named_have_values stream_names (map (λ word. word.now) c.args.words.now) read.0) stream.unit read.3))

pub returns-in_err-limit_of-clause-meaningless : goal.returns-in_err-limit_of-clause-meaningless
returns-in_err-limit_of-clause-meaningless c =
    let answer = err_from_is_err_and c.from_residual-in_err-limit_of.result c.from_residual-in_err-limit_of.ensures.1 in
    rw (answer.1, answer.2) (λ bad. inl (λ stream read. c.in_err-limit_of.ensures.meaningless (named_have_values stream_names (map (λ word. word.now) c.args.words.now) read.0) stream.limit read.4))

pub returns-in_err-allowed_keys_of-clause-meaningless : goal.returns-in_err-allowed_keys_of-clause-meaningless
returns-in_err-allowed_keys_of-clause-meaningless c =
    let answer = err_from_is_err_and c.from_residual-in_err-allowed_keys_of.result c.from_residual-in_err-allowed_keys_of.ensures.1 in
    rw (answer.1, answer.2) (λ bad. inl (λ stream read. c.in_err-allowed_keys_of.ensures.meaningless bad (named_have_values stream_names (map (λ word. word.now) c.args.words.now) read.0) stream.allow read.5))

pub returns-in_err-aggregation_named-clause-meaningless : goal.returns-in_err-aggregation_named-clause-meaningless
returns-in_err-aggregation_named-clause-meaningless c =
    let answer = err_from_is_err_and c.from_residual-in_err-aggregation_named.result c.from_residual-in_err-aggregation_named.ensures.1 in
    rw (answer.1, answer.2) (λ bad. inl (λ stream read. c.in_err-aggregation_named.ensures.meaningless bad (named_have_values stream_names (map (λ word. word.now) c.args.words.now) read.0) stream.aggregation read.6))
