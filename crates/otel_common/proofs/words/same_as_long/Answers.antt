use Rattle.std.proofs.Common.{length, ap, drop, take, arith, ◌-◌, ℕ}
use Rattle.otel_common.proofs.EqualParts.{covered}
use Rattle.otel_common.proofs.words.same_as_long.Goals as goal

pub returns-then-same_word : goal.returns-then-same_word
returns-then-same_word c =
    let last : ℕ = length c.args.a.now - 8 in (
      λ t. covered last 8 8 c.args.a.now c.args.b.now (omega arith) (omega arith) c.requires (c.same_word.ensures.0 c.if-same_word.true) (c.same_word-then-same_word.ensures.0 t),
      λ e. c.same_word-then-same_word.ensures.1 (ap (λ l. take 8 (drop last l)) e),
    )

pub returns-then-same_half : goal.returns-then-same_half
returns-then-same_half c =
    let last : ℕ = length c.args.a.now - 4 in (
      λ t. covered last 4 4 c.args.a.now c.args.b.now (omega arith) (omega arith) c.requires (c.same_half.ensures.0 c.if-same_half.true) (c.same_half-then-same_half.ensures.0 t),
      λ e. c.same_half-then-same_half.ensures.1 (ap (λ l. take 4 (drop last l)) e),
    )
