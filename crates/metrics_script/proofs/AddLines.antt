-- Lines that are skipped, and lines whose words count.
use Rattle.std.proofs.Common.{◌≡◌, ◌≢◌, ◌<◌, ◌≤◌, ℕ, zero, suc, Bool, true, false, cond, not, List, [], ◌∷◌, length, get_or, Bor, Result, Ok, Err, refl, sym, ap, subst, ◌∙◌, lit<, eqb-true, arith}
use Rattle.std.specs.Prelude.{◌==◌, ◌||◌, filter, IfErr, OnOk}
use Rattle.std.specs.Bool.{MatchBool}
use Rattle.std.specs.List.{onto_first, slice_split}
use Rattle.std.specs.Str.{IsAscii, IsUtf8}
use Rattle.std.proofs.lemmas.Str.{IsUtf8-from_ascii}
use borrow.Author.Tests.{ne_eqb}
use Rattle.metrics_script.specs.Progress.{AddsLine, GoesOn, Progress, SetsUp}
use Rattle.metrics_script.specs.ScriptLines.{is_comment, is_skipped, is_space, words_of}
use Rattle.metrics_script.specs.declared.refusals.Refusal.{Refusal}
use Rattle.metrics_script.specs.declared.refusals.Refusal.TheVariants.{OutOfMemory}
use Rattle.metrics_script.proofs.Lines.{words}
use Rattle.metrics_script.proofs.Scripts.{Adds}

pub not_empty : (line : List ℕ) → length line < 1 → is_comment line ≡ false
not_empty [] below = refl
not_empty (b ∷ line) below = absurd (omega (arith, below))

pub not_hash : (line : List ℕ) → (get_or line 0 0 ≡ 35 → ⊥) → is_comment line ≡ false
not_hash [] other = refl
not_hash (b ∷ line) other = ne_eqb b 35 other

counted : (line : List ℕ) → is_comment line ≡ false → (length (words_of line) ≡ 0 → ⊥) → is_skipped line ≡ false
counted line no_comment some = ap (λ (b : Bool). b || (length (words_of line) == 0)) no_comment ∙ ne_eqb (length (words_of line)) 0 some

-- bytes without words are spaces
first_word : (b : ℕ) (parts : List (List ℕ)) → length (filter (λ word. not (length word == 0)) (onto_first b parts)) ≡ 0 → ⊥
first_word b [] none = let some = ne_eqb (length (b ∷ [])) 0 (λ e. omega (arith, e)) in counts (length (b ∷ []) == 0) some none
  where
    counts : (t : Bool) → t ≡ false → length (cond (not t) ((b ∷ []) ∷ []) []) ≡ 0 → ⊥
    counts true is none = cc
    counts false is none = omega (arith, none)
first_word b (part ∷ parts) none = let some = ne_eqb (length (b ∷ part)) 0 (λ e. omega (arith, e)) in counts (length (b ∷ part) == 0) some none
  where
    counts : (t : Bool) → t ≡ false → length (cond (not t) ((b ∷ part) ∷ filter (λ word. not (length word == 0)) parts) (filter (λ word. not (length word == 0)) parts)) ≡ 0 → ⊥
    counts true is none = cc
    counts false is none = omega (arith, none)

abbrev from_first : ℕ → Bool → List ℕ → List (List ℕ)
from_first b t rest = cond t ([] ∷ slice_split is_space rest) (onto_first b (slice_split is_space rest))

ascii_more : (b : ℕ) (line : List ℕ) → b < 128 → IsAscii line → IsAscii (b ∷ line)
ascii_more b line low ascii zero = low
ascii_more b line low ascii (suc i) = ascii i

first_space : (t : Bool) (b : ℕ) (line : List ℕ) → is_space b ≡ t → length (filter (λ word. not (length word == 0)) (from_first b t line)) ≡ 0 → (length (words_of line) ≡ 0 → IsAscii line) → IsAscii (b ∷ line)
first_space true b line is none rest = let space : b ≡ 32 = eqb-true b 32 is in ascii_more b line (omega (arith, space)) (rest none)
first_space false b line is none rest = absurd (first_word b (slice_split is_space line) none)

spaces : (line : List ℕ) → length (words_of line) ≡ 0 → IsAscii line
spaces [] none = λ i. lit< tt
spaces (b ∷ line) none = first_space (is_space b) b line refl none (spaces line)

-- a line that is no comment, and no text, adds nothing
pub no_text : (line : List ℕ) (old new : Progress) → is_comment line ≡ false → (IsUtf8 line → ⊥) → ¬ AddsLine line old new
no_text line old new no_comment bad adds =
    let some = counted line no_comment (λ none. bad (IsUtf8-from_ascii line (spaces line none))) in
    bad (subst (λ (b : Bool). MatchBool b (new ≡ old) (IsUtf8 line × Adds (words_of line) old new)) some adds).0

-- what the words of a line add, the line adds
pub line_adds : (line : List ℕ) (words : List (List ℕ)) (old new : Progress) → is_comment line ≡ false → IsUtf8 line → words ≡ words_of line → 1 ≤ length words → Adds words old new → AddsLine line old new
line_adds line words old new no_comment utf8 same some adds =
    let counts = counted line no_comment (λ none. omega (arith, none, some, ap length same)) in
    subst (λ (b : Bool). MatchBool b (new ≡ old) (IsUtf8 line × Adds (words_of line) old new)) (sym counts) (utf8, subst (λ (words : List (List ℕ)). Adds words old new) same adds)

pub nothing_adds : (line : List ℕ) (words : List (List ℕ)) (old new : Progress) → is_comment line ≡ false → words ≡ words_of line → 1 ≤ length words → ¬ Adds words old new → ¬ AddsLine line old new
nothing_adds line words old new no_comment same some none adds =
    let counts = counted line no_comment (λ none. omega (arith, none, some, ap length same)) in
    none (subst (λ (words : List (List ℕ)). Adds words old new) (sym same) (subst (λ (b : Bool). MatchBool b (new ≡ old) (IsUtf8 line × Adds (words_of line) old new)) counts adds).1)

pub some_words : (refs : List (Bor (List ℕ))) → 1 ≤ length refs → 1 ≤ length (words refs)
some_words [] some = absurd (omega (arith, some))
some_words (a ∷ refs) some = omega arith

pub on_ok : {A : Type 0} (result : Result A Refusal) (P Q : Type 0) → (P → Q) → OnOk result P → OnOk result Q
on_ok (Ok x) P Q f p = f p
on_ok (Err e) P Q f p = p

pub if_bad_as : {A : Type 0} (result : Result A Refusal) (P Q : Type 0) → (P → Q) → IfErr result (λ refusal. refusal ≢ OutOfMemory → P) → IfErr result (λ refusal. refusal ≢ OutOfMemory → Q)
if_bad_as (Ok x) P Q f p = p
if_bad_as (Err e) P Q f p = λ bad. f (p bad)

pub going : (started : Bool) (words : List (List ℕ)) (old new : Progress) → started ≡ true → GoesOn words old new → MatchBool started (GoesOn words old new) (SetsUp words old new)
going true words old new is goes = goes
going false words old new is goes = cc

pub not_going : (started : Bool) (words : List (List ℕ)) (old new : Progress) → started ≡ true → ¬ GoesOn words old new → ¬ MatchBool started (GoesOn words old new) (SetsUp words old new)
not_going true words old new is none adds = none adds
not_going false words old new is none adds = cc

pub not_setting_up : (started : Bool) (words : List (List ℕ)) (old new : Progress) → started ≡ false → ¬ SetsUp words old new → ¬ MatchBool started (GoesOn words old new) (SetsUp words old new)
not_setting_up true words old new is none adds = cc
not_setting_up false words old new is none adds = none adds
