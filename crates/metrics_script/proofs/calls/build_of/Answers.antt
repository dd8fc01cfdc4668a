use Rattle.std.proofs.Common.{ℕ, List, map}
use Rattle.std.proofs.lemmas.Result.{err_from_is_err_and}
use Rattle.opentelemetry_sdk.specs.declared.calls.Call.{Call}
use Rattle.opentelemetry_sdk.specs.declared.calls.Call.TheVariants.{Build}
use Rattle.metrics_script.specs.CallLines.{IsBuildOf}
use Rattle.metrics_script.specs.Options.{ReadsOptions}
use Rattle.metrics_script.specs.declared.options.Options.{Options}
use Rattle.metrics_script.proofs.calls.build_of.Goals as goal

-- nothing is built with words of which no options are read
no_build : (m s n at : List ℕ) (words : List (List ℕ)) → ((options : Options) → ¬ ReadsOptions words options) → (call : Call) → ¬ IsBuildOf m s n at words call
no_build m s n at words none (Build meter sort name description unit boundaries now) is = none (record { description = description; unit = unit; boundaries = boundaries }) is.4
no_build m s n at words none call is = is

pub returns-in_err-description-clause-meaningless : goal.returns-in_err-description-clause-meaningless
returns-in_err-description-clause-meaningless c =
    let answer = err_from_is_err_and c.from_residual-in_err-description.result c.from_residual-in_err-description.ensures.1 in
    rw (answer.1, answer.2) (λ bad call. no_build c.args.meter.now c.args.sort.now c.args.name.now c.args.now.now (map (λ word. word.now) c.args.options.now) (c.in_err-description.ensures.meaningless bad) call)
