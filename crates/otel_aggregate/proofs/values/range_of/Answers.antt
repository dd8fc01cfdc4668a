use Rattle.std.proofs.Common.{arith}
use Rattle.std.proofs.lemmas.Int.{to_z-of_z}
use Rattle.std.proofs.lemmas.List.Sums.{fold_more}
use Rattle.otel_aggregate.proofs.values.range_of.Goals as goal

pub loop-value-preserved : goal.loop-value-preserved
loop-value-preserved c = (grind (arith, to_z-of_z, fold_more), grind (arith, to_z-of_z, fold_more))
