use Rattle.std.proofs.Common.{◌∙◌, ◌<◌, ◌∷◌, [], ℕ, List, length, take, sum_by, sym, ap, arith}
use Rattle.std.proofs.lemmas.List.Sums.{sum_by-append}
use Rattle.opentelemetry_sdk.specs.Pending.{bits_in}
use Rattle.opentelemetry_sdk.specs.Waiting.{Waits}
use Rattle.opentelemetry_sdk.specs.Workers.{pending_of}
use Rattle.opentelemetry_sdk.specs.declared.metrics.shared.pending.PendingRecord.{PendingRecord}
use Rattle.opentelemetry_sdk.proofs.Submitting.{taken-more}
use Rattle.opentelemetry_sdk.proofs.metrics.shared.booked.enter_each.Goals as goal

pub loop-preserved : goal.loop-preserved
loop-preserved g c =
    let ps : List PendingRecord = pending_of c.args.worker.now in
    let n : ℕ = c.loop.counter in
    let so_far = c.loop.invariant in
    let passed = c.pass_first-value.ensures in
    let p : PendingRecord = passed.first.0 in
    let lt : n < length ps = omega (arith, c.loop-test.true, c.requires.there) in
    let next = taken-more ps n p c.pass_first-value.new.self.records lt (sym passed.first.1 ∙ so_far.pending) in
    let kept = c.enter.ensures.kept in
    let sums = sum_by-append bits_in (take n ps) (p ∷ []) in
    let taken = ap (λ (xs : List PendingRecord). sum_by bits_in xs) next.0 in
    record {
      pending = ap (λ (w : Waits). w.records) kept.0 ∙ next.1;
      book_records = omega (arith, c.enter.ensures.book.0, so_far.book_records);
      book_values = omega (arith, c.enter.ensures.book.1, so_far.book_values, passed.first.2, taken, sums);
      share_records = omega (arith, c.enter.ensures.share.0, so_far.share_records);
      share_values = omega (arith, c.enter.ensures.share.1, so_far.share_values, passed.first.2, taken, sums);
      identity = kept.1 ∙ so_far.identity;
      number = c.enter.ensures.names ∙ so_far.number;
      series = (
        ap (λ (w : Waits). w.emptied) kept.0 ∙ (passed.kept.0 ∙ so_far.series.0),
        ap (λ (w : Waits). w.series) kept.0 ∙ (passed.kept.1 ∙ so_far.series.1),
        ap (λ (w : Waits). w.room) kept.0 ∙ (passed.kept.2 ∙ so_far.series.2),
      );
    }
