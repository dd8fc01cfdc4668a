use Rattle.std.proofs.Common.{rules, of_calls, ◌≡◌, ◌∙◌, ap, sym, Some, None}
use Rattle.std.specs.Map.{lookup}
use Rattle.std.specs.Option.{option_map}
use Rattle.otel_common.specs.Equality.{set_eq}
use Rattle.otel_model_stream.specs.Sets.{none_set}
use Rattle.otel_aggregate.specs.value_map.Keyed.{Slotted}
use Rattle.otel_aggregate.specs.value_map.Slots.{Kept, look_in}
use Rattle.otel_aggregate.proofs.value_map.CanonicalSets.{is_nil, some-set}
use Rattle.otel_aggregate.proofs.value_map.ShownLemmas.{fold_in-absent, fold_in-at, shown-none, shown-some}
use Rattle.otel_aggregate.proofs.value_map.table.Table.get.Goals as goal

pub returns-then-is_empty : goal.returns-then-is_empty
returns-then-is_empty g c =
    let look = look_in g.A.Aggregator.meaning c.self.inside.slots in
    let s = c.args.set.now.key in
    rw (← c.self.view_is) (c.shown_in.ensures none_set
    ∙ sym (shown-none look c.self.inside.none c.self.inside.keys.sets c.self.inside.keys.aliases c.self.invariant.0 s (is_nil s (sym c.is_empty.ensures ∙ c.if-is_empty.true))))

pub returns-in_err-number : goal.returns-in_err-number
returns-in_err-number g c =
    let look = look_in g.A.Aggregator.meaning c.self.inside.slots in
    let s = c.args.set.now.key in
    let absent : lookup (set_eq s) c.self.inside.keys.sets ≡ None = sym (ap (λ (t : Slotted). lookup (set_eq s) t.numbers.sets) (sym c.self.view_is)) ∙ sym c.find_set.ensures.number ∙ c.in_err-number.was in
    rw (← c.self.view_is) (rw c.from_residual.ensures
    (sym (shown-some look c.self.inside.none c.self.inside.keys.sets c.self.inside.keys.aliases c.self.invariant.0 s (some-set s (sym c.is_empty.ensures ∙ c.if-is_empty.false)) ∙ fold_in-absent s look c.self.inside.keys.sets absent)))

pub returns : goal.returns
returns g c =
    let look = look_in g.A.Aggregator.meaning c.self.inside.slots in
    let s = c.args.set.now.key in
    let there : lookup (set_eq s) c.self.inside.keys.sets ≡ Some c.in_ok-number.number = ap (λ (t : Slotted). lookup (set_eq s) t.numbers.sets) c.self.view_is ∙ sym c.find_set.ensures.number ∙ c.in_ok-number.was in
    let is : option_map (λ found. g.A.Aggregator.meaning found.now) c.map.result ≡ option_map (λ (k : Kept). k.fold) (look c.in_ok-number.number) = search (rules, of_calls) in
    rw (← c.self.view_is) (is
    ∙ sym (shown-some look c.self.inside.none c.self.inside.keys.sets c.self.inside.keys.aliases c.self.invariant.0 s (some-set s (sym c.is_empty.ensures ∙ c.if-is_empty.false)) ∙ fold_in-at s look c.self.inside.keys.sets c.in_ok-number.number there c.self.invariant.0.fits))
