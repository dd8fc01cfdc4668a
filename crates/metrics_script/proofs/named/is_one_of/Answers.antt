use Rattle.std.proofs.Common.{◌==◌, sym}
use Rattle.std.specs.Cmp.Lexicographic.{pointwise}
use Rattle.metrics_script.proofs.Names.{list_any_passes}
use Rattle.metrics_script.proofs.named.is_one_of.Goals as goal

pub returns-then-eq : goal.returns-then-eq
returns-then-eq c = sym (list_any_passes (pointwise ◌==◌ c.args.given.now) (λ name. name.now) c.args.names.now c.loop-name.name-index _ c.loop-name-test.true (sym c.if-eq.ensures))
