use Rattle.std.proofs.Common.{map, take}
use Rattle.metrics_script.specs.Options.{ReadsOptions}
use Rattle.metrics_script.proofs.options.options_of.Given as goal

-- the words so far are read as the options so far
abbrev pub invariant-loop-word : goal.invariant-loop-word
invariant-loop-word l = ReadsOptions (map (λ word. word.now) (take l.word-index l.words)) l.options
