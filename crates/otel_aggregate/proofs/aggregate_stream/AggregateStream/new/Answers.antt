use Rattle.std.proofs.Common.{rules}
use Rattle.otel_aggregate.specs.AnyKept.{empty_for}
use Rattle.otel_aggregate.specs.Kept.{state_of}
use Rattle.otel_aggregate.proofs.KeptLemmas.{stream-new, reported-new}
use Rattle.otel_aggregate.proofs.aggregate_stream.AggregateStream.new.Goals as goal

pub invariant_of-result : goal.invariant_of-result
invariant_of-result c = (
  search rules,
  search rules,
  search rules,
  stream-new c.args.is_signed c.args.settings c.in_ok-map.map.state (empty_for c.config.result) c.args.limit c.config.ensures c.in_ok-map.ensures.made,
  reported-new c.args.settings c.in_ok-map.map.state (empty_for c.config.result) c.new-3.result.entries c.args.limit (state_of c.in_ok-reported.reported) c.in_ok-reported.ensures.made c.config.ensures c.in_ok-map.ensures.made c.new-3.ensures,
)
