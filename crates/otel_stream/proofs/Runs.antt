-- A run of callbacks, one more at a time.
use Rattle.std.proofs.Common.{◌≡◌, ℕ, ◌<◌, zero, suc, List, [], ◌∷◌, ◌++◌, length, map, Result, Ok, Err, get_or, set, length-append, refl, sym, subst, arith, append_assoc}
use Rattle.std.proofs.lemmas.List.{append-nil}
use Rattle.otel_common.specs.declared.faults.Fault.{Fault}
use Rattle.otel_common.specs.declared.faults.Fault.TheVariants.{OutOfMemory}
use Rattle.otel_stream.specs.Runs.{RanTo, concat_lists, EndsWith}

-- one more runs
pub ran_more : {X A : Type 0} (S : X → X → A → Type 0) (n : ℕ) (before after : List X) (rs : List A) (d b : X) (r : A) → RanTo S n before after rs → n < length after → S (get_or after n d) b r → RanTo S (suc n) before (set after n b) (rs ++ r ∷ [])
ran_more S zero before [] [] d b r h within s = absurd (omega arith)
ran_more S zero before (x ∷ after) [] d b r h within s =
    let P : List _ → Type 0 = λ l. RanTo S 1 l (b ∷ after) (r ∷ []) in
    subst P (sym h) (s, refl)
ran_more S zero before after (q ∷ rs) d b r h within s = absurd h
ran_more S (suc n) [] after rs d b r h within s = absurd h
ran_more S (suc n) (y ∷ before) [] rs d b r h within s = absurd h
ran_more S (suc n) (y ∷ before) (x ∷ after) [] d b r h within s = absurd h
ran_more S (suc n) (y ∷ before) (x ∷ after) (q ∷ rs) d b r h within s = (h.0, ran_more S n before after rs d b r h.1 (omega arith) s)

-- the answers of those that gave lists, and one more
pub oks_more : {B : Type 0} (ls : List (List B)) (l : List B) → map {B = Result (List B) Fault} Ok (ls ++ l ∷ []) ≡ map Ok ls ++ Ok l ∷ []
oks_more [] l = refl
oks_more (k ∷ ls) l = rw (oks_more ls l) refl

-- all lists, and one more
pub joined_more : {B : Type 0} (ls : List (List B)) (l : List B) → concat_lists (ls ++ l ∷ []) ≡ concat_lists ls ++ l
joined_more [] l = append-nil l
joined_more (k ∷ ls) l = rw (joined_more ls l, append_assoc) refl

-- without a fault it ends for want of memory
pub ends_without_memory : {B : Type 0} (ls : List (List B)) → EndsWith (map Ok ls) OutOfMemory
ends_without_memory [] = refl
ends_without_memory (l ∷ ls) = ends_without_memory ls

-- the last answer is the fault
pub ends_with_fault : {B : Type 0} (ls : List (List B)) (f : Fault) → EndsWith (map Ok ls ++ Err f ∷ []) f
ends_with_fault [] f = refl
ends_with_fault (l ∷ ls) f = ends_with_fault ls f

-- a run that ended with this answer
pub ran_last : {X A : Type 0} (S : X → X → A → Type 0) (n : ℕ) (before after : List X) (rs : List A) (d b : X) (r : A) → length rs ≡ n → RanTo S n before after rs → n < length after → S (get_or after n d) b r → RanTo S (length (rs ++ r ∷ [])) before (set after n b) (rs ++ r ∷ [])
ran_last S n before after rs d b r e h within s =
    let long : length (rs ++ r ∷ []) ≡ suc n = simp length-append (omega arith) in
    rw (long) (ran_more S n before after rs d b r h within s)
