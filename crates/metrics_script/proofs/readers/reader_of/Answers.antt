use Rattle.std.proofs.Common.{◌∙◌, Ok, sym, subst, ap, map, rules}
use Rattle.std.proofs.lemmas.Result.{err_from_is_err_and}
use Rattle.metrics_script.specs.Readers.{reader_names, ReadsReader}
use Rattle.metrics_script.proofs.PerKind.{read_more, rest_unread, each_read}
use Rattle.metrics_script.proofs.Unread.{if_bad, named_have_values}
use Rattle.metrics_script.proofs.readers.reader_of.Goals as goal

pub loop-kind-preserved : goal.loop-kind-preserved
loop-kind-preserved c =
    let before = c.loop-kind.invariant in
    let made = c.in_ok-builder.ensures in
    record {
      temporality = before.temporality ∙ ap Ok (sym made.temporality);
      done = read_more (map (λ word. word.now) c.args.options.now) c.in_ok-limit.limit c.loop-kind.builder c.in_ok-builder.builder c.loop-kind.kind-index _ c.loop-kind-test.true before.done before.rest made.given made.others;
      rest = rest_unread c.loop-kind.builder c.in_ok-builder.builder c.loop-kind.kind-index _ c.loop-kind-test.true before.rest made.others;
    }

pub returns-clause-reader : goal.returns-clause-reader
returns-clause-reader c =
    let before = c.loop-kind.invariant in
    let whole = each_read (map (λ word. word.now) c.args.options.now) c.in_ok-limit.limit c.loop-kind.builder c.loop-kind.kind-index c.loop-kind-test.false before.done in
    subst (ReadsReader c.args.temporality.now (map (λ word. word.now) c.args.options.now)) (sym c.build.ensures) (before.temporality, search rules, (c.in_ok-limit.limit, c.in_ok-limit.ensures.limit, whole))

pub returns-in_err-limit-clause-meaningless : goal.returns-in_err-limit-clause-meaningless
returns-in_err-limit-clause-meaningless c =
    if_bad c.from_residual-in_err-limit.result _ (λ reader read. c.in_err-limit.ensures.meaningless (named_have_values reader_names (map (λ word. word.now) c.args.options.now) read.1) read.2.0 read.2.1)

pub returns-in_err-builder-clause-meaningless : goal.returns-in_err-builder-clause-meaningless
returns-in_err-builder-clause-meaningless c =
    let answer = err_from_is_err_and c.from_residual-in_err-builder.result c.from_residual-in_err-builder.ensures.1 in
    rw (answer.1, answer.2) (λ bad reader read. c.in_err-builder.ensures.meaningless bad (named_have_values reader_names (map (λ word. word.now) c.args.options.now) read.1) read.2.0 reader (read.2.2 _))
