use Rattle.std.proofs.Common.{◌∙◌, map, sym}
use Rattle.opentelemetry_sdk.specs.Correspondence.{call_of, reply_of}
use Rattle.otel_model.proofs.Kept.{kept_at_once}
use Rattle.opentelemetry_sdk.proofs.AcceptedSteps.{other-adds}
use Rattle.opentelemetry_sdk.proofs.metrics.shared.booked.Booked.call.Goals as goal

-- what all instruments accepted stays
pub invariant_of-self-clause-count_kept : goal.invariant_of-self-clause-count_kept
invariant_of-self-clause-count_kept g c = (other-adds (map g.T.View.answer c.args.views.now) c.args.self.now.core.state c.step.new.self.state (call_of c.args.call.now) (reply_of c.step.result) (sym c.makes_record.ensures ∙ c.if-makes_record.false) c.step.ensures.step).0 ∙ c.args.self.now.count_kept

pub invariant_of-self-clause-sum_kept : goal.invariant_of-self-clause-sum_kept
invariant_of-self-clause-sum_kept g c = (other-adds (map g.T.View.answer c.args.views.now) c.args.self.now.core.state c.step.new.self.state (call_of c.args.call.now) (reply_of c.step.result) (sym c.makes_record.ensures ∙ c.if-makes_record.false) c.step.ensures.step).1 ∙ c.args.self.now.sum_kept

pub returns-clause-readers : goal.returns-clause-readers
returns-clause-readers g c = kept_at_once (map g.T.View.answer c.args.views.now) c.args.self.now.core.state (call_of c.args.call.now) (reply_of c.step.result) c.step.new.self.state c.step.ensures.step
