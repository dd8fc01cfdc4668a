use Rattle.std.proofs.Common.{◌∙◌, [], map, refl}
use Rattle.opentelemetry_sdk.specs.Correspondence.{observed_of, reply_from}
use Rattle.otel_model.specs.Calls as model
use Rattle.opentelemetry_sdk.proofs.AcceptedSteps.{other-adds}
use Rattle.opentelemetry_sdk.proofs.metrics.shared.booked.Booked.collect.Goals as goal

-- what all instruments accepted stays
pub invariant_of-self-clause-count_kept : goal.invariant_of-self-clause-count_kept
invariant_of-self-clause-count_kept g c = (other-adds [] c.args.self.now.core.state c.collect.new.self.state (model.Call.Collect c.args.reader c.args.now (map observed_of c.args.observations.now)) (reply_from (λ m. model.Reply.Collected m) c.collect.result) refl (c.collect.ensures.step [])).0 ∙ c.args.self.now.count_kept

pub invariant_of-self-clause-sum_kept : goal.invariant_of-self-clause-sum_kept
invariant_of-self-clause-sum_kept g c = (other-adds [] c.args.self.now.core.state c.collect.new.self.state (model.Call.Collect c.args.reader c.args.now (map observed_of c.args.observations.now)) (reply_from (λ m. model.Reply.Collected m) c.collect.result) refl (c.collect.ensures.step [])).1 ∙ c.args.self.now.sum_kept
