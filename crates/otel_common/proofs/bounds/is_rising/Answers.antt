use Rattle.std.proofs.Common.{int_lt, rules, of_calls}
use Rattle.std.proofs.lemmas.Fn.{always_returns_same}
use Rattle.otel_common.proofs.Rising.{rises-tested}
use Rattle.otel_common.proofs.bounds.is_rising.Goals as goal

pub returns : goal.returns
returns c = rises-tested _ _ (c.is_sorted_by.ensures.cases int_lt (always_returns_same _ _ _ (λ a r f k. search (rules, of_calls))))
