use Rattle.std.proofs.Common.{◌∙◌, ap, subst, map, Some}
use Rattle.std.specs.Map.{lookup}
use Rattle.otel_common.specs.Equality.{set_eq}
use Rattle.otel_model_stream.specs.Sets.{AttributeSet}
use Rattle.otel_aggregate.specs.value_map.Hashed.{Led, plain}
use Rattle.otel_aggregate.specs.value_map.Keyed.{IsSpelling}
use Rattle.otel_aggregate.proofs.All.{all-append}
use Rattle.otel_aggregate.proofs.value_map.HashedLemmas.{lookup_hashed}
use Rattle.otel_aggregate.proofs.value_map.key_table.KeyTable.add.Goals as goal

pub add_key-requires-clause-absent : goal.add_key-requires-clause-absent
add_key-requires-clause-absent c =
    let es = c.self.inside.sets.entries in
    lookup_hashed c.self.inside.hasher c.into_key.result c.into_key.ensures.hashed es c.self.invariant.0
    ∙ ap (λ (s : AttributeSet). lookup (set_eq s) (map plain es)) c.into_key.ensures.key
    ∙ ap (λ (t : Led). lookup (set_eq c.args.set) t.sets) c.self.view_is
    ∙ c.requires.new.absent

pub add_key-requires-in-Some-clause-absent : goal.add_key-requires-in-Some-clause-absent
add_key-requires-in-Some-clause-absent c =
    let es = c.self.inside.aliases.entries in
    let can : IsSpelling c.args.self.now.aliases c.args.set (Some c.in-Some.list) = subst (IsSpelling c.args.self.now.aliases c.args.set) c.in-Some.is c.requires.spelling in
    lookup_hashed c.self.inside.hasher c.into_key-in-Some.result c.into_key-in-Some.ensures.hashed es c.self.invariant.1
    ∙ ap (λ (s : AttributeSet). lookup (set_eq s) (map plain es)) c.into_key-in-Some.ensures.key
    ∙ ap (λ (t : Led). lookup (set_eq c.in-Some.list) t.aliases) c.self.view_is
    ∙ can.1

pub invariant_of-self : goal.invariant_of-self
invariant_of-self c =
    rw (c.add_key.ensures.keys, c.add_key-in-Some.ensures.keys) (all-append _ _ _ c.self.invariant.0 (c.into_key.ensures.hashed, tt), all-append _ _ _ c.self.invariant.1 (c.into_key-in-Some.ensures.hashed, tt))

pub invariant_of-self-in_default : goal.invariant_of-self-in_default
invariant_of-self-in_default c = rw c.add_key.ensures.keys (all-append _ _ _ c.self.invariant.0 (c.into_key.ensures.hashed, tt), c.self.invariant.1)
