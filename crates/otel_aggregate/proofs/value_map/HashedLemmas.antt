-- Keys with hashes, looked up as their sets.
use Rattle.std.proofs.Common.{ℕ, ◌≡◌, ◌==◌, Bool, true, false, cond, ◌&&◌, List, [], ◌∷◌, map, Some, refl, sym, ap, ◌∙◌}
use Rattle.std.proofs.Math.Bool.{and-false}
use Rattle.std.specs.Cmp.{unsigned_Decides}
use Rattle.std.specs.List.{AllByRecursion}
use Rattle.std.specs.Map.{lookup}
use Rattle.otel_common.specs.Equality.{set_eq, set_eq-Decides}
use Rattle.otel_aggregate.specs.value_map.Hashed.{IsHashedBy, hashed_eq, fed_set, plain}
use Rattle.otel_aggregate.specs.declared.value_map.hashed_key.HashedKey.{HashedKey}
use Rattle.otel_aggregate.specs.declared.value_map.hashing.SetHashBuilder.{SetHashBuilder}

-- keys that are hashed alike are equal exactly if their sets are
eq-hashed : (b : SetHashBuilder) (q k : HashedKey) → IsHashedBy b q → IsHashedBy b k → hashed_eq q k ≡ set_eq q.key k.key
eq-hashed b q k hq hk = by (set_eq q.key k.key) refl
  where
    by : (s : Bool) → set_eq q.key k.key ≡ s → ((q.hash == k.hash) && s) ≡ s
    by true e =
        let same : q.hash ≡ k.hash = hq ∙ ap (λ s. (fed_set b s).state) ((set_eq-Decides q.key k.key).0 e) ∙ sym hk in
        ap (λ c. c && true) ((unsigned_Decides q.hash k.hash).1 same)
    by false e = and-false (q.hash == k.hash)

module _ (b : SetHashBuilder) (q : HashedKey) (hq : IsHashedBy b q) where
  -- so a key leads where its set does
  pub lookup_hashed : (es : List (HashedKey × ℕ)) → AllByRecursion (λ (e : HashedKey × ℕ). IsHashedBy b e.0) es → lookup (hashed_eq q) es ≡ lookup (set_eq q.key) (map plain es)
  lookup_hashed [] h = refl
  lookup_hashed (e ∷ es) h =
      ap (λ c. cond c (Some e.1) (lookup (hashed_eq q) es)) (eq-hashed b q e.0 hq h.0)
      ∙ ap (λ o. cond (set_eq q.key e.0.key) (Some e.1) o) (lookup_hashed es h.1)
