use Rattle.std.proofs.Common.{subst, arith}
use Rattle.otel_export.specs.Schedules.{Moments, IsNextAfter}
use Rattle.otel_export.proofs.Moments.{next_past}
use Rattle.otel_export.proofs.schedule.Schedule.due.Goals as goal

pub returns-clause-next : goal.returns-clause-next
returns-clause-next c =
    let P : Moments → Type 0 = λ s. IsNextAfter s c.args.now c.saturating_add-self-inside.result in
    subst P c.self.view_is (_, next_past _ c.args.now c.self.invariant.0 (omega (arith, c.self.invariant.1, c.if-now-self.false)), c.saturating_add-self-inside.ensures)
