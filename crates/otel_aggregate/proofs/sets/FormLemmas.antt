-- A set with rising keys is the canonical form of what is kept of a list exactly if its attributes are the first ones kept.
use Rattle.std.proofs.Common.{◌≡◌, ◌∙◌, ◌&&◌, ◌||◌, not, Bool, true, false, cond, List, [], ◌∷◌, None, Some, refl, sym, ap}
use Rattle.std.specs.List.{list_all}
use Rattle.otel_common.specs.Canonical.{canon}
use Rattle.otel_common.specs.Equality.{set_eq}
use Rattle.otel_common.specs.declared.attributes.KeyValue.{KeyValue}
use Rattle.otel_data.specs.Values.{has_key, is_first, is_set}
use Rattle.otel_data.proofs.CanonicalSets.{canonical_set}
use Rattle.otel_model_stream.specs.Sets.{AllowList, allowed_part}
use Rattle.otel_aggregate.specs.sets.Keys.{is_kept}
use Rattle.otel_aggregate.proofs.sets.KeptLemmas.{kept-cons}
use Rattle.otel_aggregate.proofs.value_map.KeyedLemmas.{set_eq-flip}

-- all that is kept is so exactly if each attribute is so or isn't kept
all-kept : (allow : AllowList) (f : KeyValue → Bool) (l : List KeyValue) → list_all (λ p. not (is_kept allow p.key) || f p) l ≡ list_all f (allowed_part allow l)
all-kept None f [] = refl
all-kept (Some allow) f [] = refl
all-kept allow f (p ∷ l) = by (is_kept allow p.key) (all-kept allow f l) ∙ ap (list_all f) (sym (kept-cons allow p l))
  where
    by : (b : Bool) → list_all (λ q. not (is_kept allow q.key) || f q) l ≡ list_all f (allowed_part allow l)
        → ((not b || f p) && list_all (λ q. not (is_kept allow q.key) || f q) l) ≡ list_all f (cond b (p ∷ allowed_part allow l) (allowed_part allow l))
    by true h = ap (λ t. f p && t) h
    by false h = h

pub is_form : (allow : AllowList) (l set : List KeyValue) → canon set ≡ set
    → (list_all (is_first (allowed_part allow l)) set && list_all (λ p. not (is_kept allow p.key) || has_key set p.key) l) ≡ set_eq (canon (allowed_part allow l)) set
is_form allow l set own =
    ap (λ t. list_all (is_first (allowed_part allow l)) set && t) (all-kept allow (λ p. has_key set p.key) l)
    ∙ ap (is_set (allowed_part allow l)) (sym own)
    ∙ canonical_set set (allowed_part allow l)
    ∙ ap (λ s. set_eq s (canon (allowed_part allow l))) own
    ∙ set_eq-flip set (canon (allowed_part allow l))
