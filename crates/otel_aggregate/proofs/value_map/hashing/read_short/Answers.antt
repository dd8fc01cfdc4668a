use Rattle.std.specs.Prelude.{length}
use native.Mathlib.Omega.{arith}
use borrow.Author.Tests.{lt-leb, lt-ltb, le-ltb}
use Rattle.std.specs.Hash.FoldHasher.{read_short}
use Rattle.otel_aggregate.proofs.value_map.hashing.read_short.Goals as goal

pub returns-then-len-gt0 : goal.returns-then-len-gt0
unfolding read_short
returns-then-len-gt0 c = rw (lt-leb 4 (length c.args.bytes.now) (omega (arith, c.requires)), lt-ltb 0 (length c.args.bytes.now) c.if-len-gt0.true)

pub returns-else-len-gt0 : goal.returns-else-len-gt0
unfolding read_short
returns-else-len-gt0 c = rw (lt-leb 4 (length c.args.bytes.now) (omega (arith, c.requires)), le-ltb 0 (length c.args.bytes.now) c.if-len-gt0.false)
