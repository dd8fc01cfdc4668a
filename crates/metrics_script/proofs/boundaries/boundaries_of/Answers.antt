use Rattle.std.proofs.Common.{lit<, ap, ◌∙◌}
use Rattle.std.proofs.Math.Facts.{to_z-of_z}
use Rattle.std.proofs.lemmas.Iterator.Consumers.{YieldsList-end, YieldsList-turn}
use Rattle.std.proofs.lemmas.Iterator.Splits.{YieldsList-from_str_split}
use Rattle.std.proofs.lemmas.List.{map-append}
use Rattle.std.proofs.lemmas.Result.{err_from_is_err_and}
use Rattle.std.proofs.lemmas.Slice.Zip.{all_zipped_more}
use Rattle.std.specs.Str.Iter.{split_text, split_has_more, split_pattern}
use Rattle.metrics_script.specs.Boundaries.{IsBoundaryWord}
use Rattle.metrics_script.proofs.Pairs.{unpaired}
use Rattle.metrics_script.proofs.boundaries.boundaries_of.Goals as goal

pub loop-number-preserved : goal.loop-number-preserved
loop-number-preserved c =
    let number = c.in_ok-signed.ensures.number in
    let fits = rw (← number.1) at number.0.1 in
    let more = all_zipped_more IsBoundaryWord _ _ _ _ c.loop-number.invariant number in
    rw (map-append, c.in_ok-push.ensures.items, to_z-of_z fits) more

pub returns-clause-boundaries : goal.returns-clause-boundaries
returns-clause-boundaries c =
    let same = c.into_iter-number-iterator.ensures.into_iter_gives in
    let road = YieldsList-from_str_split 44 c.args.word.now (lit< tt) (ap split_text same ∙ c.split-number-items.ensures.text) (ap split_has_more same ∙ c.split-number-items.ensures.has_more) (ap split_pattern same ∙ c.split-number-items.ensures.pattern) in
    let whole = YieldsList-end road c.loop-number.yielded _ c.loop-number.yielded_by _ _ c.in-None.is c.next.ensures.steps in
    rw (← c.if-is_empty.ensures, ← whole.0) c.loop-number.invariant

pub returns-in_err-signed-clause-meaningless : goal.returns-in_err-signed-clause-meaningless
returns-in_err-signed-clause-meaningless c =
    let same = c.into_iter-number-iterator.ensures.into_iter_gives in
    let road = YieldsList-from_str_split 44 c.args.word.now (lit< tt) (ap split_text same ∙ c.split-number-items.ensures.text) (ap split_has_more same ∙ c.split-number-items.ensures.has_more) (ap split_pattern same ∙ c.split-number-items.ensures.pattern) in
    let turn = YieldsList-turn road c.loop-number.yielded _ c.loop-number.yielded_by _ _ _ c.in-Some.is c.next.ensures.steps in
    let answer = err_from_is_err_and c.from_residual.result c.from_residual.ensures.1 in
    rw (answer.1, answer.2) (λ bad boundaries reads.
    let all = rw (← c.if-is_empty.ensures) at reads in
    unpaired IsBoundaryWord _ boundaries _ _ turn.0 turn.1 (λ number is_number. c.in_err-signed.ensures.number is_number.0) all)
