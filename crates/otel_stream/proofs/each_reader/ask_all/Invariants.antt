use Rattle.std.proofs.Common.{◌≡◌, ◌≤◌, List, length}
use Rattle.otel_stream.specs.Questions.{does}
use Rattle.otel_stream.specs.Requests.{Outcome, failures, first_failure, wanted_by}
use Rattle.otel_stream.proofs.Asked.{AskedTo}
use Rattle.otel_stream.proofs.each_reader.ask_all.Given as goal

-- the readers so far were asked, and the tally is that of their answers
abbrev pub invariant-loop-number : goal.invariant-loop-number
invariant-loop-number g l =
    let wanted = wanted_by g.R.MetricReader.preference g.R.MetricReader.limit g.R.MetricReader.aggregation in
    (answers : List Outcome) × AskedTo (λ a b r. does g.R.MetricReader.flushes g.R.MetricReader.shuts l.fn.question a b r × (wanted b ≡ wanted a)) l.number l.initial.readers l.readers answers
    × (l.tally.failed ≡ failures answers) × (l.tally.first ≡ first_failure answers) × (length answers ≡ l.number) × (l.tally.failed ≤ l.number)
