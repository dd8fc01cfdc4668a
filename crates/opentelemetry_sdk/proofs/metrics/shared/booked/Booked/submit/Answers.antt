use Rattle.std.proofs.Common.{◌∙◌, arith}
use Rattle.opentelemetry_sdk.proofs.Submitting.{submits_one, submits-further}
use Rattle.opentelemetry_sdk.proofs.metrics.shared.booked.Booked.submit.Goals as goal

-- one more record was made, and then a batch
pub loop-self-preserved : goal.loop-self-preserved
loop-self-preserved g c =
    let so_far = c.loop-self.invariant in
    let made = c.in_ok-make_first.ensures.made c.if-branch.true in
    let first = c.make_first.ensures in
    let batch = c.make_waiting-in-loop-self.ensures in
    record {
      count_grew = omega (arith, made.1, batch.grew.0);
      value_grew = omega (arith, made.0.3, batch.grew.1);
      made = submits-further _ _ _ _ _ _ _ _ _ _ _ _ (omega (arith, made.1)) (omega (arith, made.0.3)) batch.grew.0 batch.grew.1
          (submits-further _ _ _ _ _ _ _ _ _ _ _ _ so_far.count_grew so_far.value_grew (omega (arith, made.1)) (omega (arith, made.0.3)) so_far.made (submits_one _ _ _ _ _ _ made.0.0 made.0.1 made.0.2 (omega (arith, made.1)) (omega (arith, made.0.3)))) batch.made;
      records = omega (arith, first.book.0, batch.book.0);
      values = omega (arith, first.book.1, batch.book.1);
      seeded = batch.seeded ∙ first.seeded ∙ so_far.seeded;
      opened = batch.kept.0 ∙ first.kept.0 ∙ so_far.opened;
      identity = batch.kept.1 ∙ first.kept.1 ∙ so_far.identity;
      number = batch.names ∙ first.names ∙ so_far.number;
      series = (
        batch.series.0 ∙ first.series.0 ∙ so_far.series.0,
        batch.series.1 ∙ first.series.1 ∙ so_far.series.1,
        batch.series.2 ∙ first.series.2 ∙ so_far.series.2,
      );
    }
