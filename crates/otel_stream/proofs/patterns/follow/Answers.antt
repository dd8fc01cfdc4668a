use Rattle.std.proofs.Common.{◌≡◌, ◌<◌, arith, inl, inr, length}
use Rattle.otel_stream.proofs.Following.{ends_at_star, next_place, ended}
use Rattle.otel_stream.proofs.patterns.follow.Goals as goal
use Rattle.otel_stream.proofs.patterns.follow.Goals.{else-sign-ne63-via-then-sign-ne63+else-sign-text, else-sign-ne63-via-else-sign-ne63}

pub returns-then-sign-eq42-clause-ends : goal.returns-then-sign-eq42-clause-ends
returns-then-sign-eq42-clause-ends c = λ place e.
    let same : c.loop-place.place ≡ place = cc in
    ends_at_star _ _ c.loop-place.place place c.loop-place-test.true c.if-sign-eq42.true c.loop-place.invariant.1 same

pub loop-place-preserved : goal.loop-place-preserved
loop-place-preserved c = elim c.else-sign-ne63.branch [
  | else-sign-ne63-via-then-sign-ne63+else-sign-text w ↦ next_place _ _ c.loop-place.place c.loop-place-test.true c.loop-place.invariant.0 c.if-place-text.false c.if-sign-eq42.false (inr w.if-sign-text.false) c.loop-place.invariant.1
  | else-sign-ne63-via-else-sign-ne63 w ↦ next_place _ _ c.loop-place.place c.loop-place-test.true c.loop-place.invariant.0 c.if-place-text.false c.if-sign-eq42.false (inl w.if-sign-ne63.false) c.loop-place.invariant.1
]

pub returns-else-pattern-text-clause-differs : goal.returns-else-pattern-text-clause-differs
returns-else-pattern-text-clause-differs c = λ e.
    let lt : c.loop-place.place < length c.args.text.now = omega arith in
    ended _ _ c.loop-place.place c.loop-place-test.false lt c.loop-place.invariant.1
