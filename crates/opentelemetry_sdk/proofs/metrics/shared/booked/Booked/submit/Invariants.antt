use Rattle.std.proofs.Common.{◌≡◌, ◌+◌, ◌-◌, ◌≤◌, length}
use Rattle.opentelemetry_sdk.specs.Pending.{Submits}
use Rattle.opentelemetry_sdk.specs.Waiting.{StaysListed}
use Rattle.opentelemetry_sdk.specs.Workers.{waits_of, pending_of, records_of, values_of, worker_identity, worker_number}
use Rattle.opentelemetry_sdk.proofs.metrics.shared.booked.Booked.submit.Given as goal

abbrev pub invariant-loop-self : goal.invariant-loop-self
invariant-loop-self g l = record {
  count_grew : records_of l.fn.worker ≤ records_of l.worker;
  value_grew : values_of l.fn.worker ≤ values_of l.worker;
  made : Submits l.fn.self.core.state (pending_of l.fn.worker) l.self.core.state (pending_of l.worker) (records_of l.worker - records_of l.fn.worker) (values_of l.worker - values_of l.fn.worker);
  records : l.self.records.total + records_of l.fn.worker ≡ l.fn.self.records.total + records_of l.worker;
  values : l.self.values.total + values_of l.fn.worker ≡ l.fn.self.values.total + values_of l.worker;
  seeded : l.self.core.hash_seed ≡ l.fn.self.core.hash_seed;
  opened : l.self.opened ≡ l.fn.self.opened;
  identity : worker_identity l.worker ≡ worker_identity l.fn.worker;
  number : worker_number l.worker ≡ worker_number l.fn.worker;
  series : StaysListed (waits_of l.fn.worker) (waits_of l.worker);
}

abbrev pub decreases-loop-self : goal.decreases-loop-self
decreases-loop-self g l = length (pending_of l.worker)
