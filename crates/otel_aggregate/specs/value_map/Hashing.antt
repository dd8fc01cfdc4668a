-- What a hasher of sets computes.
use Rattle.std.specs.Prelude.{ℕ, ◌+◌, ◌-◌, ◌*◌, ◌/◌, ◌%◌, ◌^◌, ◌==◌, List, cond, length, nat_le, nat_lt, slice_index, bit_xor}
use Rattle.std.specs.Int.{from_le_bytes, w64}
use Rattle.std.specs.Hash.FoldHasher.{folded_multiply, read_u32, read_short, mix, mix_blocks}
use Rattle.otel_aggregate.specs.declared.value_map.hashing.SetHasher.{SetHasher}
use Rattle.otel_aggregate.specs.declared.value_map.key_hasher.KeyHasher.{KeyHasher}
use Rattle.otel_aggregate.specs.declared.value_map.hashing.SetHashBuilder.{SetHashBuilder}

-- a builder that was given no seed
abbrev pub unseeded : SetHashBuilder
unseeded = record { seed = 0x243f_6a88_85a3_08d3 }

-- the state after one byte; the end of a text changes nothing, since the text's length counts already
abbrev pub after_one : ℕ → ℕ → ℕ
after_one state byte = cond (byte == 255) state ((bit_xor state byte * 0x9e37_79b9_7f4a_7c15) % 2 ^ 64)

-- the state after more bytes: blocks of sixteen, then the last sixteen, which may overlap the last block; of fewer than
-- sixteen, the first eight and the last eight
abbrev pub after_many : ℕ → List ℕ → ℕ
after_many state bytes = mix bytes (mix_blocks bytes ((state + length bytes) % 2 ^ 64) ((length bytes - 1) / 16)) (length bytes - 16) (length bytes - 8)

-- the state after these bytes: of four to eight, the first four and the last four, which may overlap; fewer are read as
-- one number
abbrev pub after : ℕ → List ℕ → ℕ
after state bytes =
    cond (nat_lt 8 (length bytes)) (after_many state bytes)
    (cond (nat_le 4 (length bytes)) (folded_multiply (bit_xor (read_u32 bytes 0) ((state + length bytes) % 2 ^ 64)) (bit_xor (read_u32 bytes (length bytes - 4)) 0x9e37_79b9_7f4a_7c15))
    (cond (length bytes == 1) (after_one state (slice_index bytes 0))
    (folded_multiply (bit_xor state (read_short bytes)) (bit_xor 0x9e37_79b9_7f4a_7c15 (2 * length bytes)))))

-- the hasher after one write
unfoldable pub write : SetHasher → List ℕ → SetHasher
write h bytes = record { state = after h.state bytes }

-- the state of a hasher of keys after these bytes: eight are the hash of a key
abbrev pub after_key : ℕ → List ℕ → ℕ
after_key state bytes = cond (length bytes == 8) (from_le_bytes w64 bytes) (after state bytes)

-- the hasher of keys after one write
unfoldable pub write_key : KeyHasher → List ℕ → KeyHasher
write_key h bytes = record { state = after_key h.state bytes }
