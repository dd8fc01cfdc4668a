-- How an input is cut into lines.
use Rattle.std.proofs.Common.{◌≡◌, ◌<◌, ◌≤◌, ◌+◌, ◌-◌, ℕ, Bool, true, false, cond, List, [], ◌∷◌, ◌++◌, Option, Some, None, map, length, min, take, get_or, refl, sym, ap, subst, ◌∙◌, append_assoc, ⊎_elim, arith, Bor, eqb-true, length-append, length-take}
use Rattle.std.specs.Prelude.{◌==◌, MatchOption}
use Rattle.std.specs.Fn.{CalledAt, ComputesKey}
use Rattle.std.specs.Iterator.{Yields}
use Rattle.std.specs.List.{All, IsFirstMatchOrLen, onto_first}
use Rattle.std.specs.Slice.Iter.{split_inclusive_callee, split_inclusive_rest}
use Rattle.std.specs.declared.slice.SplitInclusive.{SplitInclusive}
use Rattle.std.proofs.lemmas.Bool.{cases_lt}
use Rattle.std.proofs.lemmas.Fn.{always_returns_same}
use Rattle.std.proofs.lemmas.Grind.{common_steps}
use Rattle.std.proofs.lemmas.Iterator.{YieldsList}
use Rattle.std.proofs.lemmas.Iterator.Consumers.{YieldsList-end, YieldsList-so_far, YieldsList-turn}
use Rattle.std.proofs.lemmas.Iterator.Splits.{YieldsList-from_shown_while}
use Rattle.std.proofs.lemmas.List.{append-nil, nil_from_length, take_all, take_more}
use Rattle.std.proofs.lemmas.List.Elements.{All-head, All-tail}
use denote.Param.Members.{Mut}
use Rattle.metrics_script.specs.ScriptLines.{lines_of, without_end}

abbrev pub is_end : ℕ → Bool
is_end byte = byte == 10

-- bytes up to the first end
ended : (line rest : List ℕ) → All (λ b. is_end b ≡ false) line → lines_of (line ++ 10 ∷ rest) ≡ line ∷ lines_of rest
ended [] rest none = refl
ended (b ∷ line) rest none = ap (λ (t : Bool). cond t ([] ∷ lines_of (line ++ 10 ∷ rest)) (onto_first b (lines_of (line ++ 10 ∷ rest)))) (All-head (λ b. is_end b ≡ false) b line none) ∙ ap (onto_first b) (ended line rest (All-tail (λ b. is_end b ≡ false) b line none))

-- bytes without an end
unended : (b : ℕ) (line : List ℕ) → All (λ b. is_end b ≡ false) (b ∷ line) → lines_of (b ∷ line) ≡ (b ∷ line) ∷ []
unended b [] none = ap (λ (t : Bool). cond t ([] ∷ []) (onto_first b [])) (All-head (λ b. is_end b ≡ false) b [] none)
unended b (c ∷ line) none = ap (λ (t : Bool). cond t ([] ∷ lines_of (c ∷ line)) (onto_first b (lines_of (c ∷ line)))) (All-head (λ b. is_end b ≡ false) b (c ∷ line) none) ∙ ap (onto_first b) (unended c line (All-tail (λ b. is_end b ≡ false) b (c ∷ line) none))

whole_part : (part : List ℕ) → 0 < length part → All (λ b. is_end b ≡ false) part → lines_of part ≡ part ∷ []
whole_part [] some none = absurd (omega (arith, some))
whole_part (b ∷ part) some none = unended b part none

taken_off : (part : List ℕ) (i : ℕ) → length part ≡ i + 1 → get_or part i 0 ≡ 10 → without_end part ≡ take i part
taken_off part i count ten =
    let last : length part - 1 ≡ i = omega (arith, count) in
    (λ j. cond (is_end (get_or part (last j) 0)) (take (last j) part) part) ∙ ap (λ (b : ℕ). cond (is_end b) (take i part) part) ten

nothing_off : (part : List ℕ) → 0 < length part → All (λ b. is_end b ≡ false) part → without_end part ≡ part
nothing_off part some none = ap (λ (t : Bool). cond t (take (length part - 1) part) part) (none (length part - 1) 0 (omega (arith, some)))

part_at_end : (part rest : List ℕ) (i : ℕ) → length part ≡ i + 1 → All (λ b. is_end b ≡ false) (take i part) → get_or part i 0 ≡ 10 → lines_of (part ++ rest) ≡ without_end part ∷ lines_of rest
part_at_end part rest i count none ten =
    let shape : part ≡ take i part ++ 10 ∷ [] = sym (take_all (i + 1) part (omega (arith, count))) ∙ take_more part i 0 (omega (arith, count)) ∙ ap (λ (b : ℕ). take i part ++ b ∷ []) ten in
    ap (λ (bytes : List ℕ). lines_of (bytes ++ rest)) shape ∙ ap lines_of (append_assoc (take i part) (10 ∷ []) rest) ∙ ended (take i part) rest none ∙ ap (λ (line : List ℕ). line ∷ lines_of rest) (sym (taken_off part i count ten))

part_without_end : (part rest : List ℕ) → 0 < length part → length rest ≡ 0 → All (λ b. is_end b ≡ false) part → lines_of (part ++ rest) ≡ without_end part ∷ lines_of rest
part_without_end part rest some empty none =
    let nil = nil_from_length rest empty in
    ap (λ (rest : List ℕ). lines_of (part ++ rest)) nil ∙ ap lines_of (append-nil part) ∙ whole_part part some none ∙ ap (λ (line : List ℕ). line ∷ []) (sym (nothing_off part some none)) ∙ ap (λ (rest : List ℕ). without_end part ∷ lines_of rest) (sym nil)

-- the part up to the first end, with it
first_line : (bytes part rest : List ℕ) (i : ℕ) → bytes ≡ part ++ rest → length part ≡ min (i + 1) (length bytes) → IsFirstMatchOrLen is_end bytes i → 0 < length bytes → lines_of bytes ≡ without_end part ∷ lines_of rest
first_line bytes part rest i is count first some =
    let sizes : length bytes ≡ length part + length rest = ap length is ∙ length-append part rest in
    ap lines_of is ∙ ⊎_elim
    (λ inside.
    let size : length part ≡ i + 1 = omega (arith, count, inside) in
    let front : All (λ b. is_end b ≡ false) (take i part) = λ k d l. let a = first.0 k d (omega arith) (omega (arith, length-take i part, l)) in grind (arith, common_steps) in
    let ten : get_or part i 0 ≡ 10 = let a = first.1 inside 0 in grind (arith, common_steps, eqb-true) in
    part_at_end part rest i size front ten)
    (λ past.
    let none : All (λ b. is_end b ≡ false) part = λ k d l. let a = first.0 k d (omega arith) (omega (arith, sizes, past, l)) in grind (arith, common_steps) in
    part_without_end part rest (omega (arith, count, some, past)) (omega (arith, sizes, count, past)) none)
    (cases_lt i (length bytes))

abbrev inclusive_steps : {F : Type 0} → Mut F (Bor ℕ × Unit {0}) Bool → SplitInclusive ℕ F → Option (Bor (List ℕ)) → SplitInclusive ℕ F → Type 0
inclusive_steps g s r t = MatchOption r ((length (split_inclusive_rest s) ≡ 0) × (t ≡ s)) (λ x. (split_inclusive_rest s ≡ x.now ++ split_inclusive_rest t) × ((i : ℕ) × (length x.now ≡ min (i + 1) (length (split_inclusive_rest s))) × ((p : ℕ → Bool) → ComputesKey g p (split_inclusive_callee s) → ComputesKey g p (split_inclusive_callee t) × IsFirstMatchOrLen p (split_inclusive_rest s) i)) × (0 < length (split_inclusive_rest s)))

abbrev pub line_of : Bor (List ℕ) → List ℕ
line_of part = without_end part.now

-- the parts of an input, each without its end, are its lines
pub lines_yielded : {F : Type 0} {s : SplitInclusive ℕ F} (g : Mut F (Bor ℕ × Unit {0}) Bool) {f : F} (bytes : List ℕ) → split_inclusive_rest s ≡ bytes → split_inclusive_callee s ≡ f → ((x : ℕ) (b : Bool) (q : F) → CalledAt g f x b q → (q ≡ f) × (b ≡ is_end x)) → YieldsList (inclusive_steps g) line_of s (lines_of bytes)
lines_yielded {s = s} g {f} bytes rest closure tests =
    subst (λ (v : List ℕ). YieldsList (inclusive_steps g) line_of s (lines_of v)) rest
    (YieldsList-from_shown_while (inclusive_steps g) line_of (λ t. lines_of (split_inclusive_rest t)) (λ t. ComputesKey g is_end (split_inclusive_callee t))
    (λ t u h k. ap (λ (v : List ℕ). length (lines_of v)) (nil_from_length _ k.0))
    (λ t x u h k. ((k.1.2 is_end h).0, first_line _ x.now _ k.1.0 k.0 k.1.1 (k.1.2 is_end h).1 k.2))
    s (subst (ComputesKey g is_end) (sym closure) (always_returns_same g (λ a r. r ≡ is_end a.0.now) f (λ a r q k. let m = tests a.0.now r q (record { shown = a.0; shows = refl; called = k }) in (m.1, m.0)))))

-- there are no more lines than bytes
pub few_lines : (bytes : List ℕ) → length (lines_of bytes) ≤ length bytes
few_lines [] = omega arith
few_lines (b ∷ bytes) = step (is_end b) (lines_of bytes) (few_lines bytes)
  where
    longer : (lines : List (List ℕ)) → length (onto_first b lines) ≤ length lines + 1
    longer [] = omega arith
    longer (line ∷ lines) = omega arith

    step : (t : Bool) (lines : List (List ℕ)) → length lines ≤ length bytes → length (cond t ([] ∷ lines) (onto_first b lines)) ≤ length (b ∷ bytes)
    step true lines few = omega (arith, few)
    step false lines few = omega (arith, few, longer lines)

-- one more part of an input; and its last one
pub turn_at : {S A B : Type 0} {steps : S → Option A → S → Type 0} {v : A → B} {s : S} {all : List B} (xs : List A) (t : S) (y : Yields steps s xs t) (r : Option A) (u : S) (x : A) → r ≡ Some x → steps t r u → YieldsList steps v s all → (map v xs ≡ take (length xs) all) × (length xs < length all) × (v x ≡ get_or all (length xs) (v x))
turn_at xs t y r u x is step road = let turn = YieldsList-turn road xs t y r u x is step in (YieldsList-so_far road xs t y, turn.0, turn.1)

pub end_at : {S A B : Type 0} {steps : S → Option A → S → Type 0} {v : A → B} {s : S} {all : List B} (xs : List A) (t : S) (y : Yields steps s xs t) (r : Option A) (u : S) → r ≡ None → steps t r u → YieldsList steps v s all → map v xs ≡ all
end_at xs t y r u is step road = (YieldsList-end road xs t y r u is step).0
