use Rattle.std.proofs.Common.{◌≡◌, ◌∙◌, ◌++◌, ap, sym, subst, map, ℕ, List}
use Rattle.std.specs.List.{AllByRecursion, IsDistinct}
use Rattle.std.specs.Map.{keys_of}
use Rattle.otel_common.specs.Equality.{set_eq}
use Rattle.otel_model_stream.specs.Sets.{AttributeSet}
use Rattle.otel_aggregate.specs.value_map.Hashed.{plain}
use Rattle.otel_aggregate.specs.declared.value_map.hashed_key.HashedKey.{HashedKey}
use Rattle.otel_aggregate.specs.value_map.Slots.{look_in, Keyed}
use Rattle.otel_aggregate.specs.value_map.Keyed.{Fits, IsNew}
use Rattle.otel_aggregate.specs.value_map.Numbers.{Numbers}
use Rattle.otel_aggregate.proofs.value_map.ShownLemmas.{absent-before}
use Rattle.otel_aggregate.proofs.value_map.table.copy_entries.Goals as goal

pub add-requires-clause-new : goal.add-requires-clause-new
add-requires-clause-new g c =
    let look = look_in g.A.Aggregator.meaning c.args.slots.now in
    let s : AttributeSet = c.in-Some.set.now.key in
    let made : List Keyed = c.loop-set.made.numbers.sets in
    let same : c.new-set.result ≡ s = c.new-set.ensures ∙ c.in_ok-share.ensures in
    let fit : Fits look (s, c.in-Some.number.now) = (subst (λ (es : List (HashedKey × ℕ)). AllByRecursion (Fits look) (map plain es)) c.in-Some.ensures.steps c.loop-set.invariant.0).0 in
    let whole = ap (λ (es : List (HashedKey × ℕ)). keys_of made ++ keys_of (map plain es)) (sym c.in-Some.ensures.steps) ∙ c.loop-set.invariant.3 in
    let distinct = subst (IsDistinct set_eq) (sym whole) c.requires.unique in
    let new : IsNew made s = record { absent = absent-before made s (keys_of (map plain c.next.new.self)) distinct; canonical = fit.canonical; some = fit.some } in
    subst (λ (ns : Numbers). IsNew ns.sets c.new-set.result) (sym c.make_room.ensures.numbers) (subst (IsNew made) (sym same) new)
