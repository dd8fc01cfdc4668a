use Rattle.std.proofs.Common.{◌≡◌, ◌∙◌, ◌<◌, ◌-◌, ◌^◌, ap, sym, subst, refl, None, Some, true≢false}
use Rattle.std.specs.Prelude.{IsSome}
use Rattle.otel_model_stream.specs.Sets.{AttributeSet}
use Rattle.otel_model_stream.specs.Entries.{entry_for}
use Rattle.otel_model_stream.specs.Maps.{MapState, bound_to}
use Rattle.otel_aggregate.specs.value_map.Numbers.{number_of, handles_at}
use Rattle.otel_aggregate.specs.value_map.Contents.{MapContents, next_of}
use Rattle.otel_aggregate.proofs.value_map.PlaceLemmas.{few-placed}
use Rattle.otel_aggregate.proofs.value_map.ValueMap.commit_bind.Goals as goal

pub hold-requires : goal.hold-requires
hold-requires g c =
    elim (next_of c.args.self.now.pending) as (λ o. next_of c.args.self.now.pending ≡ o → IsSome o → (x : AttributeSet) × (number_of x c.self.inside.table.numbers ≡ Some c.place-number.result) × (handles_at x c.self.inside.table.table < 2 ^ 64 - 1)) [
      | None ↦ λ none some. absurd (true≢false (sym some))
      | Some s ↦ λ is some.
          let x : AttributeSet = entry_for s c.place-number.new.self.state.table.entries in
          let was : MapState = c.args.self.now.state in
          let used : x ≡ bound_to s was = ap (λ (m : MapState). entry_for s m.table.entries) (c.place-number.ensures.state s is) in
          let before : handles_at x was.table < 2 ^ 64 - 1 = subst (λ (y : AttributeSet). handles_at y was.table < 2 ^ 64 - 1) (sym used) (c.requires.few s is) in
          let few : handles_at x c.place-number.new.self.state.table < 2 ^ 64 - 1 = subst (λ (m : MapState). handles_at x m.table < 2 ^ 64 - 1) (sym (c.place-number.ensures.state s is)) (few-placed was.limit was.empty s was.table x before) in (
            x,
            ap (λ (h : MapContents). number_of x h.numbers) c.self.view_is ∙ c.place-number.ensures.number s is,
            subst (λ (h : MapContents). handles_at x h.state.table < 2 ^ 64 - 1) (sym c.self.view_is) few,
          )
    ] refl c.requires.prepared
