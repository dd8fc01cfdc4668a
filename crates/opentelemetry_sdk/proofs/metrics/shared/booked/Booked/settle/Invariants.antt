use Rattle.std.proofs.Common.{◌≡◌, ◌+◌, length, sum_by}
use Rattle.opentelemetry_sdk.specs.Workers.{records_of, values_of}
use Rattle.opentelemetry_sdk.proofs.metrics.shared.booked.Booked.settle.Given as goal

-- the shares that were merged so far
abbrev pub invariant-loop-worker : goal.invariant-loop-worker
invariant-loop-worker g l = record {
  record_parts : l.all_records.parts ≡ l.initial.all_records.parts + length l.yielded;
  value_parts : l.all_values.parts ≡ l.initial.all_values.parts + length l.yielded;
  records : l.all_records.amount ≡ sum_by records_of l.yielded;
  values : l.all_values.amount ≡ sum_by values_of l.yielded;
}
