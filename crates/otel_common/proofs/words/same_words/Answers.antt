use Rattle.std.proofs.Common.{length, ap, drop, take, arith, ◌-◌, ℕ}
use Rattle.otel_common.proofs.EqualParts.{joined, covered}
use Rattle.otel_common.proofs.words.same_words.Goals as goal

pub loop-at-preserved : goal.loop-at-preserved
loop-at-preserved c = record {
  within = omega arith;
  same = joined c.loop-at.at 8 c.args.a.now c.args.b.now c.loop-at.invariant.same (c.same_word.ensures.0 c.if-not-same_word.false);
}

pub returns : goal.returns
returns c =
    let last : ℕ = length c.args.a.now - 8 in (
      λ t.
          covered last c.loop-at.at 8 c.args.a.now c.args.b.now (omega arith) (omega arith) c.requires.as_long c.loop-at.invariant.same
          (c.same_word-2.ensures.0 t),
      λ e. c.same_word-2.ensures.1 (ap (λ l. take 8 (drop last l)) e),
    )
