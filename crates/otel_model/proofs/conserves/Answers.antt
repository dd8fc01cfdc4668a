use Rattle.otel_model.proofs.Answered.{few_answered_law, totals_answered_law, all_answered_law}
use Rattle.otel_model.proofs.Shown.{recorded_law, exported_law, conserved_law, balance_law, all_shown_law, few_law}
use Rattle.otel_model.proofs.conserves.Goals as goal

pub returns-clause-recorded : goal.returns-clause-recorded
returns-clause-recorded c = recorded_law

pub returns-clause-exported : goal.returns-clause-exported
returns-clause-exported c = exported_law

pub returns-clause-conserved : goal.returns-clause-conserved
returns-clause-conserved c = conserved_law

pub returns-clause-balanced : goal.returns-clause-balanced
returns-clause-balanced c = balance_law

pub returns-clause-totals : goal.returns-clause-totals
returns-clause-totals c = totals_answered_law

pub returns-clause-all_shown : goal.returns-clause-all_shown
returns-clause-all_shown c = all_answered_law

pub returns-clause-few : goal.returns-clause-few
returns-clause-few c = few_answered_law

pub returns-clause-all_now : goal.returns-clause-all_now
returns-clause-all_now c = all_shown_law

pub returns-clause-few_now : goal.returns-clause-few_now
returns-clause-few_now c = few_law
