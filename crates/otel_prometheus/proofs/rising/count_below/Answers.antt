use Rattle.std.proofs.Common.{rules, sym, ◌∙◌, arith}
use Rattle.otel_prometheus.proofs.RisingLemmas.{none_more, one_more}
use Rattle.otel_prometheus.proofs.rising.count_below.Goals as goal

pub returns-then-not-is_lt : goal.returns-then-not-is_lt
returns-then-not-is_lt c =
    sym (none_more c.args.names.now c.loop-name.name-index c.loop-name.count c.name-item.result c.cmp.result c.loop-name-test.true c.name-item.is (search rules) (search rules))
    ∙ c.loop-name.invariant.counted

pub loop-name-preserved : goal.loop-name-preserved
loop-name-preserved c = record {
  counted =
      one_more c.args.names.now c.loop-name.name-index c.loop-name.count c.name-item.result c.cmp.result c.loop-name-test.true c.name-item.is (search rules) (search rules)
      ∙ c.loop-name.invariant.counted;
  within = omega arith;
}
