use Rattle.std.proofs.Common.{◌∙◌, cond, ap, sym, rules, of_calls}
use Rattle.std.proofs.lemmas.Fn.{always_returns_same}
use Rattle.otel_common.specs.Canonical.{canon}
use Rattle.otel_common.specs.Equality.{set_eq}
use Rattle.otel_aggregate.specs.sets.Keys.{is_below, shown}
use Rattle.otel_aggregate.proofs.sets.RisingKeys.{rises-referenced, rises-tested}
use Rattle.otel_aggregate.proofs.value_map.hashed_key.HashedSet.is_canonical.Goals as goal

pub returns-then-is_empty : goal.returns-then-is_empty
returns-then-is_empty c =
    rw (← c.self.view_is) (rises-tested _ _ (c.is_sorted_by.ensures.cases is_below (always_returns_same _ _ _ (λ a r f k. search (rules, of_calls))))
    ∙ ap (λ b. set_eq (canon (cond b c.self.inside.list.now (shown c.self.inside.references.now))) (cond b c.self.inside.list.now (shown c.self.inside.references.now))) (sym c.if-is_empty.true ∙ c.is_empty.ensures))

pub returns : goal.returns
returns c =
    rw (← c.self.view_is) (rises-referenced _ _ (c.is_sorted_by-2.ensures.cases (λ p q. is_below p.now q.now) (always_returns_same _ _ _ (λ a r f k. search (rules, of_calls))))
    ∙ ap (λ b. set_eq (canon (cond b c.self.inside.list.now (shown c.self.inside.references.now))) (cond b c.self.inside.list.now (shown c.self.inside.references.now))) (sym c.if-is_empty.false ∙ c.is_empty.ensures))
