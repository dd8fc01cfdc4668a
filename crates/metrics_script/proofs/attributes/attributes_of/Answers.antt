use Rattle.std.proofs.Common.{lit<, ap, ◌∙◌}
use Rattle.std.proofs.lemmas.Iterator.Consumers.{YieldsList-end, YieldsList-turn}
use Rattle.std.proofs.lemmas.Iterator.Splits.{YieldsList-from_str_split}
use Rattle.std.proofs.lemmas.List.{map-append}
use Rattle.std.proofs.lemmas.Result.{err_from_is_err_and}
use Rattle.std.proofs.lemmas.Slice.Zip.{all_zipped_more}
use Rattle.std.specs.Str.Iter.{split_text, split_has_more, split_pattern}
use Rattle.metrics_script.specs.Attributes.{IsAttributeWord}
use Rattle.metrics_script.proofs.Pairs.{unpaired}
use Rattle.metrics_script.proofs.attributes.attributes_of.Goals as goal

pub loop-pair-preserved : goal.loop-pair-preserved
loop-pair-preserved c =
    let more = all_zipped_more IsAttributeWord _ _ _ _ c.loop-pair.invariant c.in_ok-attribute_of.ensures.attribute in
    rw (map-append, c.in_ok-push.ensures.items) more

pub returns-clause-attributes : goal.returns-clause-attributes
returns-clause-attributes c =
    let same = c.into_iter-pair-iterator.ensures.into_iter_gives in
    let road = YieldsList-from_str_split 44 c.args.word.now (lit< tt) (ap split_text same ∙ c.split-pair-items.ensures.text) (ap split_has_more same ∙ c.split-pair-items.ensures.has_more) (ap split_pattern same ∙ c.split-pair-items.ensures.pattern) in
    let whole = YieldsList-end road c.loop-pair.yielded _ c.loop-pair.yielded_by _ _ c.in-None.is c.next.ensures.steps in
    rw (← c.if-eq.ensures, ← whole.0) c.loop-pair.invariant

pub returns-in_err-attribute_of-clause-meaningless : goal.returns-in_err-attribute_of-clause-meaningless
returns-in_err-attribute_of-clause-meaningless c =
    let same = c.into_iter-pair-iterator.ensures.into_iter_gives in
    let road = YieldsList-from_str_split 44 c.args.word.now (lit< tt) (ap split_text same ∙ c.split-pair-items.ensures.text) (ap split_has_more same ∙ c.split-pair-items.ensures.has_more) (ap split_pattern same ∙ c.split-pair-items.ensures.pattern) in
    let turn = YieldsList-turn road c.loop-pair.yielded _ c.loop-pair.yielded_by _ _ _ c.in-Some.is c.next.ensures.steps in
    let answer = err_from_is_err_and c.from_residual-in_err-attribute_of.result c.from_residual-in_err-attribute_of.ensures.1 in
    rw (answer.1, answer.2) (λ bad attributes reads.
    let all = rw (← c.if-eq.ensures) at reads in
    unpaired IsAttributeWord _ attributes _ _ turn.0 turn.1 (c.in_err-attribute_of.ensures.meaningless bad) all)
