use Rattle.std.proofs.Common.{◌≡◌, length, take, arith, length-take-le}
use Rattle.opentelemetry_sdk.specs.Workers.{pending_of}
use Rattle.opentelemetry_sdk.proofs.AcceptedSteps.{done-adds}
use Rattle.opentelemetry_sdk.proofs.metrics.shared.booked.Booked.make_waiting.Goals as goal

pub invariant_of-self : goal.invariant_of-self
invariant_of-self g c =
    let was = c.args.self.now in
    let made = take c.record_waiting-made.result (pending_of c.args.worker.now) in
    let adds = done-adds _ made _ c.record_waiting-made.ensures.made in
    let many : length made ≡ c.record_waiting-made.result = length-take-le c.record_waiting-made.result (pending_of c.args.worker.now) c.record_waiting-made.ensures.within in
    let book = c.enter_each.ensures.book in
    record {
      counted = omega (arith, book.0, was.counted);
      count_kept = omega (arith, adds.0, many, book.0, was.count_kept);
      sum_kept = omega (arith, adds.1, book.1, was.sum_kept);
      record_parts = was.record_parts;
      value_parts = was.value_parts;
      no_spare_record = was.no_spare_record;
      no_spare_value = was.no_spare_value;
    }
