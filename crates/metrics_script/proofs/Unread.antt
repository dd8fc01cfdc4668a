-- Words of which no option can be read.
use Rattle.std.proofs.Common.{◌≡◌, ◌≢◌, ◌<◌, ◌≤◌, ◌+◌, ℕ, zero, suc, Bool, true, false, cond, List, [], ◌∷◌, map, length, take, get_or, Option, Some, None, Result, Ok, Err, subst, refl, arith}
use Rattle.std.proofs.lemmas.Bool.Decides.{nat_tests}
use Rattle.std.specs.Prelude.{◌&&◌, filter, IsTrue, IfErr, OkIff, OnErr}
use Rattle.std.specs.List.{AllZip, list_all, list_any, after_first, position_or_len}
use Rattle.std.specs.Option.{option_map, option_to_list}
use Rattle.metrics_script.specs.Attributes.{is_equals_sign}
use Rattle.metrics_script.specs.Named.{has_name_of, has_value, ReadsNothing}
use Rattle.metrics_script.specs.Options.{is_named, values_named}
use Rattle.metrics_script.specs.declared.refusals.Refusal.{Refusal}
use Rattle.metrics_script.specs.declared.refusals.Refusal.TheVariants.{OutOfMemory}
use Rattle.metrics_script.proofs.Names.{list_all_fails}

-- of two values none is read
pub two_values : {X : Type 0} (R : List ℕ → X → Type 0) (values : List (List ℕ)) (option : Option X) → 1 < length values → ¬ AllZip R values (option_to_list option)
two_values R [] option two all = absurd (omega (arith, two))
two_values R (v ∷ []) option two all = absurd (omega (arith, two))
two_values R (v ∷ w ∷ vs) None two all = all
two_values R (v ∷ w ∷ vs) (Some x) two all = all.1

-- one more value
one_more : (named : Bool) (word : List ℕ) (xs ys : List (List ℕ)) → length (map (after_first is_equals_sign) xs) + 1 ≤ length (map (after_first is_equals_sign) ys) → length (map (after_first is_equals_sign) (cond named (word ∷ xs) xs)) + 1 ≤ length (map (after_first is_equals_sign) (cond named (word ∷ ys) ys))
one_more true word xs ys more = omega (arith, more)
one_more false word xs ys more = more

more_values : {A : Type 0} (f : A → List ℕ) (name : List ℕ) (words : List A) (i : ℕ) (d : A) → i < length words → is_named name (f (get_or words i d)) ≡ true → length (values_named name (map f (take i words))) + 1 ≤ length (values_named name (map f words))
more_values f name [] i d inside named = absurd (omega (arith, inside))
more_values f name (w ∷ ws) zero d inside named = rw named (omega arith)
more_values f name (w ∷ ws) (suc i) d inside named = one_more (is_named name (f w)) (f w) (filter (is_named name) (map f (take i ws))) (filter (is_named name) (map f ws)) (more_values f name ws i d (omega (arith, inside)) named)

-- a word of a name that a word before it had
pub second_value : {A : Type 0} (f : A → List ℕ) (name : List ℕ) (words : List A) (i : ℕ) (d : A) (value : Option (List ℕ)) → i < length words → option_to_list value ≡ values_named name (map f (take i words)) → (value ≡ None → ⊥) → is_named name (f (get_or words i d)) ≡ true → 1 < length (values_named name (map f words))
second_value f name words i d None inside is some named = absurd (some refl)
second_value f name words i d (Some value) inside is some named =
    let one : 1 ≡ length (values_named name (map f (take i words))) = subst (λ vs. 1 ≡ length vs) is refl in
    let more = more_values f name words i d inside named in
    omega (arith, one, more)

-- of words that all have a value none lacks one
pub lacks_value : {A : Type 0} (f : A → List ℕ) (words : List A) (i : ℕ) (d : A) → i < length words → has_value (f (get_or words i d)) ≡ false → ¬ IsTrue (list_all has_value (map f words))
lacks_value f words i d inside lacks all = let none = list_all_fails has_value f words i d inside lacks in cc

-- a word whose first `=` is past its end has no value
pub no_value : (word : List ℕ) → position_or_len is_equals_sign word ≡ length word → has_value word ≡ false
no_value word past = rw past (grind (arith, nat_tests))

-- a value is there where it can't be set
pub was_set : {X Y : Type 0} (f : X → Y) (result : Result (Unit {0}) Refusal) (refusal : Refusal) (value : Option X) → OkIff result (value ≡ None) tt → result ≡ Err refusal → option_map f value ≡ None → ⊥
was_set f (Ok u) refusal value once is none = cc
was_set f (Err e) refusal None once is none = once refl
was_set f (Err e) refusal (Some x) once is none = cc

pub on_err : {A : Type 0} (result : Result A Refusal) (P : Type 0) → P → OnErr result P
on_err (Ok x) P p = tt
on_err (Err e) P p = p

pub if_bad : {A : Type 0} (result : Result A Refusal) (P : Type 0) → P → IfErr result (λ refusal. refusal ≢ OutOfMemory → P)
if_bad (Ok x) P p = tt
if_bad (Err e) P p = λ bad. p

-- no option is read of words of which a value is refused
pub no_option : {X : Type 0} (R : List ℕ → X → Type 0) (name : List ℕ) (words : List (List ℕ)) → (IsTrue (list_all has_value words) → 1 < length (values_named name words)) → ReadsNothing R name words
no_option R name words two = λ all option. two_values R (values_named name words) option (two all)

-- words that have a name have a value
both_pass : (value name rest all : Bool) → (value && name && rest) ≡ true → (rest ≡ true → all ≡ true) → (value && all) ≡ true
both_pass true true rest all pass h = h pass
both_pass true false rest all pass h = cc
both_pass false name rest all pass h = cc

pub named_have_values : (names words : List (List ℕ)) → IsTrue (list_all (has_name_of names) words) → IsTrue (list_all has_value words)
named_have_values names [] pass = refl
named_have_values names (w ∷ ws) pass = both_pass (has_value w) (list_any (λ name. is_named name w) names) (list_all (has_name_of names) ws) (list_all has_value ws) pass (named_have_values names ws)
