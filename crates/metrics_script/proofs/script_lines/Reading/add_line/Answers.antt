use Rattle.std.proofs.Common.{◌≡◌, ◌≤◌, ◌∙◌, ap, false, length, rules, arith}
use Rattle.metrics_script.specs.Progress.{AddsLine, GoesOn, progress_of, Progress, SetsUp}
use Rattle.metrics_script.specs.ScriptLines.{is_comment, words_of}
use Rattle.metrics_script.proofs.AddLines.{going, if_bad_as, line_adds, no_text, not_empty, not_going, not_hash, not_setting_up, nothing_adds, on_ok, some_words}
use Rattle.metrics_script.proofs.Lines.{words}
use Rattle.metrics_script.proofs.script_lines.Reading.add_line.Goals as goal
use Rattle.metrics_script.proofs.script_lines.Reading.add_line.Goals.{then-line-lt1, else-line-lt1+in_default-1}

pub returns-in_default-from_utf8-clause-meaningless : goal.returns-in_default-from_utf8-clause-meaningless
returns-in_default-from_utf8-clause-meaningless c =
    let no_comment : is_comment c.args.line.now ≡ false = elim c.if-line-lt1.branch [
      | then-line-lt1 w ↦ not_empty c.args.line.now (first_of (search rules, grind arith))
      | else-line-lt1+in_default-1 w ↦ not_hash c.args.line.now (first_of (search rules, grind arith))
    ] in
    λ bad new. no_text c.args.line.now (progress_of c.args.self.now) new no_comment c.in_default-from_utf8.ensures.cases.0

pub returns-in_default-as_slice-clause-added : goal.returns-in_default-as_slice-clause-added
returns-in_default-as_slice-clause-added c =
    let no_comment : is_comment c.args.line.now ≡ false = elim c.if-line-lt1.branch [
      | then-line-lt1 w ↦ not_empty c.args.line.now (first_of (search rules, grind arith))
      | else-line-lt1+in_default-1 w ↦ not_hash c.args.line.now (first_of (search rules, grind arith))
    ] in
    let said = words c.as_slice.result.now in
    let same : said ≡ words_of c.args.line.now = ap words c.as_slice.ensures.value ∙ c.in_ok-words.ensures.words ∙ ap words_of c.in-Ok.ensures.cases.0 in
    let some : 1 ≤ length said = some_words c.as_slice.result.now c.in_default-as_slice.len_at_least in
    let old = progress_of c.args.self.now in
    let new = progress_of c.go_on.new.self in
    on_ok c.go_on.result (GoesOn said old new) (AddsLine c.args.line.now old new) (λ goes. line_adds c.args.line.now said old new no_comment c.in-Ok.ensures.cases.1 same some (going old.is_started said old new c.if-self.true goes)) c.go_on.ensures.added

pub returns-in_default-as_slice-clause-meaningless : goal.returns-in_default-as_slice-clause-meaningless
returns-in_default-as_slice-clause-meaningless c =
    let no_comment : is_comment c.args.line.now ≡ false = elim c.if-line-lt1.branch [
      | then-line-lt1 w ↦ not_empty c.args.line.now (first_of (search rules, grind arith))
      | else-line-lt1+in_default-1 w ↦ not_hash c.args.line.now (first_of (search rules, grind arith))
    ] in
    let said = words c.as_slice.result.now in
    let same : said ≡ words_of c.args.line.now = ap words c.as_slice.ensures.value ∙ c.in_ok-words.ensures.words ∙ ap words_of c.in-Ok.ensures.cases.0 in
    let some : 1 ≤ length said = some_words c.as_slice.result.now c.in_default-as_slice.len_at_least in
    let old = progress_of c.args.self.now in
    if_bad_as c.go_on.result ((new : Progress) → ¬ GoesOn said old new) ((new : Progress) → ¬ AddsLine c.args.line.now old new) (λ none new. nothing_adds c.args.line.now said old new no_comment same some (not_going old.is_started said old new c.if-self.true (none new))) c.go_on.ensures.meaningless

pub returns-clause-meaningless : goal.returns-clause-meaningless
returns-clause-meaningless c =
    let no_comment : is_comment c.args.line.now ≡ false = elim c.if-line-lt1.branch [
      | then-line-lt1 w ↦ not_empty c.args.line.now (first_of (search rules, grind arith))
      | else-line-lt1+in_default-1 w ↦ not_hash c.args.line.now (first_of (search rules, grind arith))
    ] in
    let said = words c.as_slice.result.now in
    let same : said ≡ words_of c.args.line.now = ap words c.as_slice.ensures.value ∙ c.in_ok-words.ensures.words ∙ ap words_of c.in-Ok.ensures.cases.0 in
    let some : 1 ≤ length said = some_words c.as_slice.result.now c.in_default-as_slice.len_at_least in
    let old = progress_of c.args.self.now in
    if_bad_as c.set_up.result ((new : Progress) → ¬ SetsUp said old new) ((new : Progress) → ¬ AddsLine c.args.line.now old new) (λ none new. nothing_adds c.args.line.now said old new no_comment same some (not_setting_up old.is_started said old new c.if-self.false (none new))) c.set_up.ensures.meaningless
