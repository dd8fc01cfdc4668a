-- Numbers of 64 bits. Those of the code fit, and stand for themselves.
use Rattle.std.specs.Prelude.{ℕ, ◌%◌, ◌^◌, ℤ, pos}
use mir.Val.{to_z, of_z}
use mir.Syntax.{w64}

abbrev pub unsigned : ℕ → ℤ
unsigned n = pos (n % 2 ^ 64)

abbrev pub signed : ℤ → ℤ
signed z = to_z w64 (of_z w64 z)
