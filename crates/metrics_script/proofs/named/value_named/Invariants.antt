use Rattle.std.proofs.Common.{◌≡◌, map, take}
use Rattle.std.specs.Option.{option_map, option_to_list}
use Rattle.metrics_script.specs.Options.{values_named}
use Rattle.metrics_script.proofs.named.value_named.Given as goal

-- the value is that of the words so far
abbrev pub invariant-loop-word : goal.invariant-loop-word
invariant-loop-word l = option_to_list (option_map (λ text. text.now) l.value) ≡ values_named l.name (map (λ word. word.now) (take l.word-index l.words))
