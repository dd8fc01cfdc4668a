use Rattle.std.proofs.Common.{map}
use Rattle.std.specs.List.{AllZip}
use Rattle.metrics_script.specs.Keys.{IsKeyWord}
use Rattle.metrics_script.proofs.keys.keys_of.Given as goal

-- the words so far are those of the keys so far
abbrev pub invariant-loop-key : goal.invariant-loop-key
invariant-loop-key l = AllZip IsKeyWord (map (λ x. x.now) l.yielded) l.keys.items
