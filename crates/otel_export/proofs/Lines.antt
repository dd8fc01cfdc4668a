-- Lines that are put together and taken apart.
use Rattle.std.proofs.Common.{◌≡◌, ℕ, ◌-◌, ◌<◌, ◌≤◌, ◌≢◌, List, [], ◌++◌, length, drop, arith, subst}
use Rattle.std.proofs.lemmas.Grind.{common_steps}
use Rattle.std.specs.List.{All}
use Rattle.otel_export.specs.Outboxes.{AreLines}

pub lines_behind : (xs ys : List ℕ) → 0 < length ys → AreLines ys → AreLines (xs ++ ys)
lines_behind xs ys some lines = grind (arith, common_steps)

pub lines_left : (xs : List ℕ) (n : ℕ) → AreLines xs → AreLines (drop n xs)
lines_left xs n lines = grind (arith, common_steps)

pub all_whole : (xs : List ℕ) (n : ℕ) → AreLines xs → n ≤ length xs → All (λ byte. byte ≢ 10) (drop n xs) → n ≡ length xs
all_whole xs n lines fits none = grind (arith, common_steps, none (length xs - 1 - n) 10)

-- if all that waits is shown and no byte of it stands behind a whole line, nothing is left
pub none_left : (xs shown : List ℕ) (n : ℕ) → AreLines xs → shown ≡ xs → n ≤ length shown → All (λ byte. byte ≢ 10) (drop n shown) → drop n xs ≡ []
none_left xs shown n lines same fits none =
    let Fits : List ℕ → Type 0 = λ s. n ≤ length s in
    let None : List ℕ → Type 0 = λ s. All (λ byte. byte ≢ 10) (drop n s) in
    let whole = all_whole xs n lines (subst Fits same fits) (subst None same none) in
    grind (arith, common_steps)
