use Rattle.otel_common.proofs.CanonLaws.{none-rising}
use Rattle.otel_common.proofs.sets.AttributeSet.empty.Goals as goal

pub invariant_of-result : goal.invariant_of-result
invariant_of-result c = rw (c.from.ensures, c.new.ensures.items) none-rising
