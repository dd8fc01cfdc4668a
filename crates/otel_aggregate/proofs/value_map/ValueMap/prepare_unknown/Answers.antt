use Rattle.std.proofs.Common.{◌≡◌, ◌∙◌, ◌∷◌, [], ap, sym, subst, refl, nat_lt, Bool}
use Rattle.std.specs.Prelude.{IsTrue}
use Rattle.otel_common.specs.Canonical.{canon}
use Rattle.otel_model_stream.specs.Entries.{Table, number_counted}
use Rattle.otel_model_stream.specs.Maps.{MapState, bound_to}
use Rattle.otel_model_stream.specs.Sets.{AttributeSet}
use Rattle.otel_aggregate.specs.value_map.Contents.{MapContents, IsSound, pending_in, used_by}
use Rattle.otel_aggregate.specs.declared.value_map.pending.Pending.TheVariants.{New}
use Rattle.otel_aggregate.proofs.value_map.PlaceLemmas.{used-bound}
use Rattle.otel_aggregate.proofs.value_map.PlanLemmas.{sound-planned}
use Rattle.otel_aggregate.proofs.value_map.ValueMap.prepare_unknown.Goals as goal
use Rattle.otel_aggregate.proofs.value_map.ValueMap.prepare_unknown.Goals.{in-New+in_ok-make_ready, in_default}

pub invariant_of-self-2 : goal.invariant_of-self-2
invariant_of-self-2 g c =
    let t = c.self.inside.table in
    let few : Bool = nat_lt c.self.inside.count c.self.inside.limit in
    let sound = c.in_ok-plan.ensures.plan.sound in
    elim c.match-plan.branch [
      | in-New+in_ok-make_ready w ↦ rw (w.self-inside-is, w.plan-is) (
          let made = w.make_ready.ensures in (
            c.self.invariant.0 ∙ ap (λ (x : Table). number_counted x.entries) (sym made.table),
            made.empty,
            sound-planned t w.make_ready.new.table few _ (New w.in-New.field-0 w.in-New.field-1) made.table made.numbers made.aliases (λ set list e. w.in_ok-make_ready.ensures.ready) (subst (λ p. (room : Bool) → IsTrue room → IsSound t few room p) w.in-New.is sound),
          ))
      | in_default w ↦ rw (w.self-inside-is, w.plan-is) (c.self.invariant.0, c.self.invariant.1, sound-planned t t few _ c.in_ok-plan.plan refl refl refl (λ set list e. absurd (w.in_default.not-New set list e)) sound)
    ]

-- a plan uses the entry that the set uses
pub returns-clause-ready : goal.returns-clause-ready
returns-clause-ready g c =
    let s : AttributeSet = canon c.args.list.now.key in
    let t = c.self.inside.table in
    let now : MapState = record { limit = c.self.inside.limit; empty = g.A.Aggregator.empty c.self.inside.config; table = t.table } in
    let same : pending_in c.match-plan.self-inside.table.numbers c.match-plan.plan ≡ pending_in t.numbers c.in_ok-plan.plan = elim c.match-plan.branch [
      | in-New+in_ok-make_ready w ↦ rw (w.self-inside-is, w.plan-is, w.in-New.is) refl
      | in_default w ↦ rw (w.self-inside-is, w.plan-is) refl
    ] in
    same
    ∙ c.in_ok-plan.ensures.plan.pending
    ∙ ap (λ k. used_by (nat_lt k c.self.inside.limit) s t.table.entries ∷ []) c.self.invariant.0
    ∙ ap (λ k. k ∷ []) (used-bound now s)
    ∙ ap (λ (h : MapContents). bound_to s h.state ∷ []) c.self.view_is
