use Rattle.std.proofs.Common.{◌≡◌, ◌+◌, take, drop, sum_by}
use Rattle.opentelemetry_sdk.specs.Pending.{bits_in}
use Rattle.opentelemetry_sdk.specs.Waiting.{StaysListed}
use Rattle.opentelemetry_sdk.specs.Workers.{waits_of, pending_of, records_of, values_of, worker_identity, worker_number}
use Rattle.opentelemetry_sdk.proofs.metrics.shared.booked.enter_each.Given as goal

-- the records so far are entered
abbrev pub invariant-loop : goal.invariant-loop
invariant-loop g l = record {
  pending : pending_of l.worker ≡ drop l.counter (pending_of l.fn.worker);
  book_records : l.records.total ≡ l.fn.records.total + l.counter;
  book_values : l.values.total ≡ l.fn.values.total + sum_by bits_in (take l.counter (pending_of l.fn.worker));
  share_records : records_of l.worker ≡ records_of l.fn.worker + l.counter;
  share_values : values_of l.worker ≡ values_of l.fn.worker + sum_by bits_in (take l.counter (pending_of l.fn.worker));
  identity : worker_identity l.worker ≡ worker_identity l.fn.worker;
  number : worker_number l.worker ≡ worker_number l.fn.worker;
  series : StaysListed (waits_of l.fn.worker) (waits_of l.worker);
}
