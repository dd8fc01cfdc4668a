use Rattle.std.proofs.Common.{◌≡◌, ◌∙◌, ap, ℕ, Option, Some, None}
use Rattle.std.specs.Option.{option_map}
use Rattle.otel_model_stream.specs.Folds.{Fold}
use Rattle.otel_aggregate.specs.value_map.Keyed.{Slotted}
use Rattle.otel_aggregate.specs.value_map.Slots.{Kept, kept_of, look_in}
use Rattle.otel_aggregate.specs.value_map.Numbers.{number_of, handles_at}
use Rattle.otel_aggregate.specs.declared.value_map.slots.Slot.{Slot}
use Rattle.otel_aggregate.proofs.value_map.ShownLemmas.{handles-kept}
use Rattle.otel_aggregate.proofs.value_map.table.Table.handles.Goals as goal

filled : {A : Type 0} (meaning : A → Fold) (o : Option (Slot A)) (slot : Slot A) (m : ℕ) → Some slot ≡ o → option_map (λ (k : Kept). k.handles) (option_map (kept_of meaning) o) ≡ Some m → slot.handles ≡ m
filled meaning o slot m is e = let same : Some slot.handles ≡ Some m = ap (λ p. option_map (λ (k : Kept). k.handles) (option_map (kept_of meaning) p)) is ∙ e in cc

vacant : {A : Type 0} (meaning : A → Fold) (o : Option (Slot A)) (m : ℕ) {C : Type 0} → None ≡ o → option_map (λ (k : Kept). k.handles) (option_map (kept_of meaning) o) ≡ Some m → C
vacant meaning o m is e = let same : None ≡ Some m = ap (λ p. option_map (λ (k : Kept). k.handles) (option_map (kept_of meaning) p)) is ∙ e in absurd (cc)

pub returns-in-Some : goal.returns-in-Some
returns-in-Some g c = λ s e.
    let inside = c.self.inside in
    let there = handles-kept (look_in g.A.Aggregator.meaning inside.slots) inside.none inside.keys.sets inside.keys.aliases s c.args.number c.self.invariant.0 (ap (λ (t : Slotted). number_of s t.numbers) c.self.view_is ∙ e) in
    filled g.A.Aggregator.meaning _ c.in-Some.slot.now _ c.in-Some.ensures there ∙ ap (λ (t : Slotted). handles_at s t.table) c.self.view_is

pub returns-in-None : goal.returns-in-None
returns-in-None g c = λ s e.
    let inside = c.self.inside in
    let there = handles-kept (look_in g.A.Aggregator.meaning inside.slots) inside.none inside.keys.sets inside.keys.aliases s c.args.number c.self.invariant.0 (ap (λ (t : Slotted). number_of s t.numbers) c.self.view_is ∙ e) in
    vacant g.A.Aggregator.meaning _ _ c.in-None.ensures there
