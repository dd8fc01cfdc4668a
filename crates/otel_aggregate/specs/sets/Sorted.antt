-- The keys of a list in byte order.
use Rattle.std.specs.Prelude.{◌≡◌, ℕ, List}
use Rattle.std.specs.List.{list_any}
use Rattle.std.specs.List.Sorted.{IsSorted}
use Rattle.otel_common.specs.Canonical.{key_cmp}
use Rattle.otel_common.specs.Equality.{bytes_eq}

-- a sorted list has the keys of another one
abbrev pub HasKeysOf : List (List ℕ) → List (List ℕ) → Type 0
HasKeysOf keys sorted = IsSorted key_cmp sorted × ((key : List ℕ) → list_any (bytes_eq key) sorted ≡ list_any (bytes_eq key) keys)
