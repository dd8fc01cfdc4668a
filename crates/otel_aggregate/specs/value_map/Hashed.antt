-- Keys that carry the hash of their set.
use Rattle.std.specs.Prelude.{◌≡◌, ℕ, ◌==◌, ◌&&◌, Bool, List}
use Rattle.std.proofs.Common.{ap}
use Rattle.std.specs.Bool.{Decides}
use Rattle.std.specs.Cmp.{unsigned_Decides}
use Rattle.std.specs.List.{fold, flat_map}
use Rattle.otel_common.specs.Equality.{set_eq, set_eq-Decides, both_decide}
use Rattle.otel_common.specs.Hashes.{key_value_writes}
use Rattle.otel_model_stream.specs.Sets.{AttributeSet}
use Rattle.otel_aggregate.specs.value_map.Hashing.{write}
use Rattle.otel_aggregate.specs.value_map.Slots.{Keyed}
use Rattle.otel_aggregate.specs.declared.value_map.hashed_key.HashedKey.{HashedKey}
use Rattle.otel_aggregate.specs.declared.value_map.hashing.SetHasher.{SetHasher}
use Rattle.otel_aggregate.specs.declared.value_map.hashing.SetHashBuilder.{SetHashBuilder}

-- a hasher that was fed a set
abbrev pub fed_set : SetHashBuilder → AttributeSet → SetHasher
fed_set b s = fold write (record { state = b.seed }) (flat_map key_value_writes s)

-- the key has the hash that this builder's hashers give its set
abbrev pub IsHashedBy : SetHashBuilder → HashedKey → Type 0
IsHashedBy b k = k.hash ≡ (fed_set b k.key).state

-- whether two keys have equal hashes and the same set
abbrev pub hashed_eq : HashedKey → HashedKey → Bool
hashed_eq k other = k.hash == other.hash && set_eq k.key other.key

pub hashed_eq-Decides : (k other : HashedKey) → Decides (hashed_eq k other) (k ≡ other)
hashed_eq-Decides k other =
    both_decide (k.hash == other.hash) (set_eq k.key other.key) (unsigned_Decides k.hash other.hash) (set_eq-Decides k.key other.key)
    (λ h s i. record { hash = h i; key = s i })
    (λ e. (ap (λ q. q.hash) e, ap (λ q. q.key) e))

-- a set without its hash, and its number
abbrev pub plain : HashedKey × ℕ → Keyed
plain e = (e.0.key, e.1)

-- what contracts see of a table of keys: the sets and the lists with their numbers, and whether one more of each takes no
-- memory
pub record Led : Type 0 where
  pub sets : List Keyed
  pub aliases : List Keyed
  pub room : Bool
