use Rattle.std.proofs.Common.{◌≡◌, ◌==◌, false, map, take}
use Rattle.std.specs.Cmp.Lexicographic.{pointwise}
use Rattle.std.specs.List.{list_any}
use Rattle.metrics_script.proofs.named.is_one_of.Given as goal

-- it is none of the names so far
abbrev pub invariant-loop-name : goal.invariant-loop-name
invariant-loop-name l = list_any (pointwise ◌==◌ l.given) (map (λ name. name.now) (take l.name-index l.names)) ≡ false
