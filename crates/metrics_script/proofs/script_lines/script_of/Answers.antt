use Rattle.std.proofs.Common.{◌≡◌, ◌<◌, ◌∙◌, ap, sym, subst, refl, length, length-append, List, [], ◌∷◌, map, ℕ, rules, tests, arith}
use Rattle.std.specs.Slice.Iter.{split_inclusive_callee, split_inclusive_rest}
use Rattle.std.proofs.lemmas.List.{length-map, map-append}
use Rattle.opentelemetry_sdk.specs.declared.calls.Call.{Call}
use Rattle.metrics_script.specs.Progress.{AddsLine, progress_of}
use Rattle.metrics_script.specs.ScriptLines.{kept, lines_of, without_end}
use Rattle.metrics_script.specs.Scripts.{IsScript}
use Rattle.metrics_script.proofs.ScriptLines.{end_at, few_lines, line_of, lines_yielded, turn_at}
use Rattle.metrics_script.proofs.Scripts.{bad_at_end, bad_in_midst, line_read, none_missing, Reads, reads_none, some_missing, whole_read}
use Rattle.metrics_script.proofs.script_lines.script_of.Goals as goal

pub loop-line-init : goal.loop-line-init
loop-line-init c =
    record {
      number = refl;
      read = subst (Reads []) (sym c.new-reading.ensures) reads_none;
    }

pub loop-line-preserved : goal.loop-line-preserved
loop-line-preserved c =
    let same = c.into_iter-line-iterator.ensures.into_iter_gives in
    let input = c.args.input.now in
    let done = map line_of c.loop-line.yielded in
    let old = progress_of c.loop-line.reading in
    let turn = turn_at c.loop-line.yielded _ c.loop-line.yielded_by _ _ _ c.in-Some.is c.next.ensures.steps (lines_yielded _ input (ap split_inclusive_rest same ∙ c.split_inclusive-line-items.ensures.rest) (ap split_inclusive_callee same ∙ c.split_inclusive-line-items.ensures.closure) (λ x b q k. search (rules, tests))) in
    let line = without_end c.in-Some.line.now in
    let new = progress_of c.add_line.new.self in
    let more = line_read done line old new c.loop-line.invariant.read (subst (λ (line : List ℕ). AddsLine line old new) c.without_end.ensures c.in-Ok.ensures.added) in
    let fits : length input < 9223372036854775808 = omega arith in
    record {
      number = omega (arith, c.saturating_add-number.ensures, c.loop-line.invariant.number, turn.1, few_lines input, fits, length-append c.loop-line.yielded (c.in-Some.line ∷ []));
      read = subst (λ (lines : List (List ℕ)). Reads (kept lines) new) (sym (map-append line_of c.loop-line.yielded (c.in-Some.line ∷ []))) more;
    }

pub returns-in-Err-BadCommand-clause-first_bad : goal.returns-in-Err-BadCommand-clause-first_bad
returns-in-Err-BadCommand-clause-first_bad c =
    let same = c.into_iter-line-iterator.ensures.into_iter_gives in
    let input = c.args.input.now in
    let done = map line_of c.loop-line.yielded in
    let old = progress_of c.loop-line.reading in
    let turn = turn_at c.loop-line.yielded _ c.loop-line.yielded_by _ _ _ c.in-Some.is c.next.ensures.steps (lines_yielded _ input (ap split_inclusive_rest same ∙ c.split_inclusive-line-items.ensures.rest) (ap split_inclusive_callee same ∙ c.split_inclusive-line-items.ensures.closure) (λ x b q k. search (rules, tests))) in
    let line = without_end c.in-Some.line.now in
    let none = c.in-Err-BadCommand.ensures.meaningless (λ is. let bad = c.in-Err-BadCommand.field-0-is in cc) in
    λ number is.
    let here : number ≡ c.loop-line.number = cc in
    bad_in_midst (lines_of input) done (length c.loop-line.yielded) line number old c.loop-line.invariant.read turn.0 turn.1 turn.2 (omega (arith, here, c.loop-line.invariant.number, length-map c.loop-line.yielded line_of)) (λ new. subst (λ (line : List ℕ). ¬ AddsLine line old new) c.without_end.ensures (none new))

pub returns-then-is_some-clause-first_bad : goal.returns-then-is_some-clause-first_bad
returns-then-is_some-clause-first_bad c =
    let same = c.into_iter-line-iterator.ensures.into_iter_gives in
    let input = c.args.input.now in
    let done = map line_of c.loop-line.yielded in
    let old = progress_of c.loop-line.reading in
    let whole = end_at c.loop-line.yielded _ c.loop-line.yielded_by _ _ c.in-None.is c.next.ensures.steps (lines_yielded _ input (ap split_inclusive_rest same ∙ c.split_inclusive-line-items.ensures.rest) (ap split_inclusive_callee same ∙ c.split_inclusive-line-items.ensures.closure) (λ x b q k. search (rules, tests))) in
    λ number is.
    let here : number ≡ c.loop-line.number = cc in
    bad_at_end (lines_of input) done number old c.loop-line.invariant.read whole (omega (arith, here, c.loop-line.invariant.number, length-map c.loop-line.yielded line_of)) (some_missing c.missing.result old c.missing.ensures.missing (first_of (search rules, grind arith)))

pub returns-clause-script : goal.returns-clause-script
returns-clause-script c =
    let same = c.into_iter-line-iterator.ensures.into_iter_gives in
    let input = c.args.input.now in
    let done = map line_of c.loop-line.yielded in
    let old = progress_of c.loop-line.reading in
    let whole = end_at c.loop-line.yielded _ c.loop-line.yielded_by _ _ c.in-None.is c.next.ensures.steps (lines_yielded _ input (ap split_inclusive_rest same ∙ c.split_inclusive-line-items.ensures.rest) (ap split_inclusive_callee same ∙ c.split_inclusive-line-items.ensures.closure) (λ x b q k. search (rules, tests))) in
    let ended = none_missing c.missing.result old c.missing.ensures.whole (first_of (search rules, grind arith)) in
    let script = whole_read done old c.loop-line.invariant.read ended.0 ended.1 in
    subst (λ (lines : List (List ℕ)). IsScript lines old.readers old.views c.shrink_to_fit.new.self.items) whole (subst (λ (calls : List Call). IsScript done old.readers old.views calls) (sym c.shrink_to_fit.ensures.items) script)
