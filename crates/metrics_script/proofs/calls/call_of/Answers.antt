use Rattle.std.proofs.Common.{[], rules, arith}
use Rattle.std.proofs.lemmas.Result.{err_from_is_err_and}
use Rattle.metrics_script.proofs.Lines.{build_line, no_attributes, no_bound, no_build_line, no_line0, no_line1, no_line2, no_line3, no_line4, no_line5, no_scope}
use Rattle.metrics_script.proofs.Unread.{if_bad}
use Rattle.metrics_script.proofs.calls.call_of.Goals as goal
use Rattle.metrics_script.proofs.calls.call_of.Goals.{in_default-via-then-words-lt1, in_default-via-else-words-lt1+then-words-lt2+in_default, in_default-via-else-words-lt1+else-words-lt2+then-words-lt3+in_default, in_default-via-else-words-lt1+else-words-lt2+else-words-lt3+then-words-lt4+in_default, in_default-via-else-words-lt1+else-words-lt2+else-words-lt3+else-words-lt4+then-words-lt5+in_default, in_default-via-else-words-lt1+else-words-lt2+else-words-lt3+else-words-lt4+else-words-lt5+in_default}

pub returns-in_err-scope_of-in-meter-2-clause-meaningless : goal.returns-in_err-scope_of-in-meter-2-clause-meaningless
returns-in_err-scope_of-in-meter-2-clause-meaningless c =
    let answer = err_from_is_err_and c.from_residual-in_err-scope_of-in-meter-2.result c.from_residual-in_err-scope_of-in-meter-2.ensures.1 in
    let utf8 = c.in_err-scope_of-in-meter-2.ensures.utf8 in
    rw (answer.1, answer.2) (λ bad call. no_scope c.args.words.now _ c.in-meter-2.len_at_least c.in-meter-2.len_below c.in-meter-2.is-meter (λ scope is. bad (utf8 is.0 is.1)) call)

pub returns-in_err-attributes_of-in-record-clause-meaningless : goal.returns-in_err-attributes_of-in-record-clause-meaningless
returns-in_err-attributes_of-in-record-clause-meaningless c =
    let answer = err_from_is_err_and c.from_residual-in_err-attributes_of-in-record.result c.from_residual-in_err-attributes_of-in-record.ensures.1 in
    rw (answer.1, answer.2) (λ bad call. no_attributes c.args.words.now _ c.in-record.len_at_least c.in-record.len_below (c.in_err-attributes_of-in-record.ensures.meaningless bad) call)

pub returns-in_err-unsigned-in-recordbound-clause-meaningless : goal.returns-in_err-unsigned-in-recordbound-clause-meaningless
returns-in_err-unsigned-in-recordbound-clause-meaningless c =
    if_bad c.from_residual-in_err-unsigned-in-recordbound.result _ (no_bound c.args.words.now _ c.in-recordbound.len_at_least c.in-recordbound.len_below c.in-recordbound.is-recordbound (λ handle value is number. c.in_err-unsigned-in-recordbound.ensures.number is.0))

pub returns-in_err-value-in-recordbound-clause-meaningless : goal.returns-in_err-value-in-recordbound-clause-meaningless
returns-in_err-value-in-recordbound-clause-meaningless c =
    if_bad c.from_residual-in_err-value-in-recordbound.result _ (no_bound c.args.words.now _ c.in-recordbound.len_at_least c.in-recordbound.len_below c.in-recordbound.is-recordbound (λ handle value is number. c.in_err-value-in-recordbound.ensures.meaningless value number))

pub returns-in-build-clause-call : goal.returns-in-build-clause-call
returns-in-build-clause-call c = build_line c.args.words.now c.split_at.result.1.now _ c.build_of.result c.in-build.len_at_least c.split_at.ensures.back c.in-build.is-build c.build_of.ensures.build

pub returns-in-build-clause-meaningless : goal.returns-in-build-clause-meaningless
returns-in-build-clause-meaningless c = no_build_line c.args.words.now c.split_at.result.1.now _ c.build_of.result c.in-build.len_at_least c.split_at.ensures.back c.build_of.ensures.meaningless

pub returns-in_default-clause-meaningless : goal.returns-in_default-clause-meaningless
returns-in_default-clause-meaningless c = λ bad call is.
    elim c.in_default.branch [
      | in_default-via-then-words-lt1 w ↦ no_line0 c.args.words.now (first_of (search rules, grind arith)) call is
      | in_default-via-else-words-lt1+then-words-lt2+in_default w ↦ no_line1 c.args.words.now (record { ref_ptr = (0, 0); now = [] }) (first_of (search rules, grind arith)) (first_of (search rules, grind arith)) (first_of (search rules, grind arith)) call is
      | in_default-via-else-words-lt1+else-words-lt2+then-words-lt3+in_default w ↦ no_line2 c.args.words.now (record { ref_ptr = (0, 0); now = [] }) (first_of (search rules, grind arith)) (first_of (search rules, grind arith)) (first_of (search rules, grind arith)) (first_of (search rules, grind arith)) call is
      | in_default-via-else-words-lt1+else-words-lt2+else-words-lt3+then-words-lt4+in_default w ↦ no_line3 c.args.words.now (record { ref_ptr = (0, 0); now = [] }) (first_of (search rules, grind arith)) (first_of (search rules, grind arith)) (first_of (search rules, grind arith)) (first_of (search rules, grind arith)) (first_of (search rules, grind arith)) call is
      | in_default-via-else-words-lt1+else-words-lt2+else-words-lt3+else-words-lt4+then-words-lt5+in_default w ↦ no_line4 c.args.words.now (record { ref_ptr = (0, 0); now = [] }) (first_of (search rules, grind arith)) (first_of (search rules, grind arith)) (first_of (search rules, grind arith)) call is
      | in_default-via-else-words-lt1+else-words-lt2+else-words-lt3+else-words-lt4+else-words-lt5+in_default w ↦ no_line5 c.args.words.now (record { ref_ptr = (0, 0); now = [] }) (first_of (search rules, grind arith)) (first_of (search rules, grind arith)) call is
    ]
