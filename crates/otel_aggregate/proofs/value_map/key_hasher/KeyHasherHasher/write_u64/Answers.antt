use Rattle.std.proofs.Common.{ℕ, sym, ap, rules}
use Rattle.std.proofs.lemmas.Nat.{from_le_bytes-to_le_bytes_8}
use Rattle.std.specs.Hash.{le_bytes}
use Rattle.otel_aggregate.specs.value_map.Hashing.{write_key}
use Rattle.otel_aggregate.specs.declared.value_map.key_hasher.KeyHasher.{KeyHasher}
use Rattle.otel_aggregate.proofs.value_map.key_hasher.KeyHasherHasher.write_u64.Goals as goal

pub returns : goal.returns
unfolding write_key le_bytes
returns c =
    let keep : ℕ → KeyHasher = λ n. record { state = n } in
    ap keep (sym (from_le_bytes-to_le_bytes_8 c.args.number (search rules)))
