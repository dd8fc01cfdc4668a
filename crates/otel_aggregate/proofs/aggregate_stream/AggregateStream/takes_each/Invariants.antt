use Rattle.std.proofs.Common.{◌≡◌, take, true}
use Rattle.std.specs.Bool.{beq}
use Rattle.std.specs.List.{AllByRecursion}
use Rattle.otel_data.specs.declared.numbers.NumberValue.{NumberValue}
use Rattle.otel_aggregate.specs.Any.{amount_of, is_signed_value}
use Rattle.otel_aggregate.specs.Kept.{IsWithin}
use Rattle.otel_aggregate.proofs.aggregate_stream.AggregateStream.takes_each.Given as goal

-- the values so far are within the range of the stream's type if they are of it
abbrev pub invariant-loop-value : goal.invariant-loop-value
invariant-loop-value l = AllByRecursion (λ (value : NumberValue). beq (is_signed_value value) l.self.is_signed ≡ true → IsWithin l.self.is_signed (amount_of value).wide) (take l.value-index l.values)
