use Rattle.std.proofs.Common.{map, sym, ◌∙◌}
use Rattle.metrics_script.specs.Named.{has_name_of}
use Rattle.metrics_script.proofs.Names.{list_all_fails}
use Rattle.metrics_script.proofs.named.check_names.Goals as goal

pub returns-then-not-has_name_of-clause-named : goal.returns-then-not-has_name_of-clause-named
returns-then-not-has_name_of-clause-named c = λ all.
    let fails = list_all_fails (has_name_of (map (λ name. name.now) c.args.names.now)) (λ word. word.now) c.args.words.now c.loop-word.word-index _ c.loop-word-test.true (sym c.has_name_of.ensures ∙ c.if-not-has_name_of.true) in
    cc
