use Rattle.std.proofs.Common.{◌≡◌, true, map, take}
use Rattle.std.specs.List.{list_all}
use Rattle.metrics_script.specs.Named.{has_name_of}
use Rattle.metrics_script.proofs.named.check_names.Given as goal

-- the words so far have such names
abbrev pub invariant-loop-word : goal.invariant-loop-word
invariant-loop-word l = list_all (has_name_of (map (λ name. name.now) l.names)) (map (λ word. word.now) (take l.word-index l.words)) ≡ true
