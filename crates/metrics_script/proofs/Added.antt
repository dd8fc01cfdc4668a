-- One more word of options.
use Rattle.std.proofs.Common.{◌≡◌, ◌<◌, ◌≤◌, ◌+◌, ℕ, zero, suc, codes, Bool, true, false, cond, List, [], ◌∷◌, ◌++◌, map, length, take, get_or, Option, Some, None, ap, refl, subst, arith}
use Rattle.std.specs.Prelude.{MatchOption, filter}
use Rattle.std.specs.Bool.{MatchBool}
use Rattle.std.specs.List.{All, AllZip, after_first}
use Rattle.std.specs.Option.{option_to_list}
use Rattle.std.proofs.lemmas.List.{append-nil, map-append, take_all, take_more}
use Rattle.std.proofs.lemmas.List.Elements.{All-append, filter-append}
use Rattle.std.proofs.lemmas.Slice.Zip.{all_zipped_more}
use Rattle.metrics_script.specs.Attributes.{is_equals_sign}
use Rattle.metrics_script.specs.Boundaries.{ReadsBoundaries}
use Rattle.metrics_script.specs.Options.{is_named, IsOptionWord, ReadsText, ReadsOption, ReadsOptions, AddsOption, AddsWord}
use Rattle.metrics_script.specs.declared.options.Options.{Options}

-- a word that has the name or not, behind words whose values are these
more_values : {X : Type 0} (R : List ℕ → X → Type 0) (named : Bool) (values : List (List ℕ)) (word : List ℕ) (old new : Option X) → AllZip R values (option_to_list old) → MatchBool named ((old ≡ None) × MatchOption new ⊥ (R (after_first is_equals_sign word))) (new ≡ old) → AllZip R (values ++ map (after_first is_equals_sign) (cond named (word ∷ []) [])) (option_to_list new)
more_values R true values word old None all adds = absurd adds.1
more_values R true values word old (Some x) all adds = all_zipped_more R values [] _ x (subst (λ option. AllZip R values (option_to_list option)) adds.0 all) adds.1
more_values R false values word old new all adds = rw (append-nil, adds) all

more_options : {X : Type 0} (R : List ℕ → X → Type 0) (name : List ℕ) (words : List (List ℕ)) (word : List ℕ) (old new : Option X) → ReadsOption R name words old → AddsOption R name word old new → ReadsOption R name (words ++ word ∷ []) new
more_options R name words word old new all adds = rw (filter-append, map-append) (more_values R (is_named name word) _ word old new all adds)

only_word : (word : List ℕ) → IsOptionWord word → (k : ℕ) (d : List ℕ) → k < 1 → IsOptionWord (get_or (word ∷ []) k d)
only_word word is zero d inside = is
only_word word is (suc k) d inside = absurd (omega (arith, inside))

more_read : (words : List (List ℕ)) (word : List ℕ) (old new : Options) → ReadsOptions words old → AddsWord word old new → ReadsOptions (words ++ word ∷ []) new
more_read words word old new all adds = (All-append IsOptionWord words (word ∷ []) all.0 (only_word word adds.0), more_options ReadsText _ words word _ _ all.1 adds.1, more_options ReadsText _ words word _ _ all.2 adds.2, more_options ReadsBoundaries _ words word _ _ all.3 adds.3)

-- the word at i is taken in
pub next_read : {A : Type 0} (f : A → List ℕ) (words : List A) (i : ℕ) (d : A) (old new : Options) → i < length words → ReadsOptions (map f (take i words)) old → AddsWord (f (get_or words i d)) old new → ReadsOptions (map f (take (i + 1) words)) new
next_read f words i d old new inside all adds = rw (take_more words i d inside, map-append) (more_read _ _ old new all adds)

-- no word is left
pub whole_read : {A : Type 0} (f : A → List ℕ) (words : List A) (i : ℕ) (options : Options) → length words ≤ i → ReadsOptions (map f (take i words)) options → ReadsOptions (map f words) options
whole_read {A = A} f words i options end all = subst (λ (some : List A). ReadsOptions (map f some) options) (take_all i words end) all

-- where the words are read with this word behind the first of them, there is what this word adds
added_value : {X : Type 0} (R : List ℕ → X → Type 0) (named : Bool) (values : List (List ℕ)) (word : List ℕ) (rest : List (List ℕ)) (old option : Option X) → AllZip R values (option_to_list old) → AllZip R (values ++ map (after_first is_equals_sign) (cond named (word ∷ rest) rest)) (option_to_list option) → (new : Option X) × MatchBool named ((old ≡ None) × MatchOption new ⊥ (R (after_first is_equals_sign word))) (new ≡ old)
added_value R false values word rest old option before all = (old, refl)
added_value R true [] word rest (Some x) option before all = absurd before
added_value R true [] word rest None None before all = absurd all
added_value R true [] word rest None (Some x) before all = (Some x, (refl, all.0))
added_value R true (v ∷ values) word rest None option before all = absurd before
added_value R true (v ∷ values) word rest (Some x) None before all = absurd all
added_value R true (v ∷ []) word rest (Some x) (Some y) before all = absurd all.1
added_value R true (v ∷ w ∷ values) word rest (Some x) (Some y) before all = absurd all.1

added_option : {X : Type 0} (R : List ℕ → X → Type 0) (name : List ℕ) (words : List (List ℕ)) (word : List ℕ) (rest : List (List ℕ)) (old option : Option X) → ReadsOption R name words old → ReadsOption R name (words ++ word ∷ rest) option → (new : Option X) × AddsOption R name word old new
added_option {X = X} R name words word rest old option before all =
    let whole = rw (filter-append, map-append) at all in
    added_value R (is_named name word) _ word (filter (is_named name) rest) old option before whole

parted : {A : Type 0} (f : A → List ℕ) (words : List A) (i : ℕ) (d : A) → i < length words → (rest : List (List ℕ)) × (map f words ≡ map f (take i words) ++ f (get_or words i d) ∷ rest)
parted f [] i d inside = absurd (omega (arith, inside))
parted f (w ∷ ws) zero d inside = (map f ws, refl)
parted f (w ∷ ws) (suc i) d inside = let more = parted f ws i d (omega (arith, inside)) in (more.0, ap (λ words. f w ∷ words) more.1)

-- of words with one that can't be taken in nothing is read
pub unread_word : {A : Type 0} (f : A → List ℕ) (words : List A) (i : ℕ) (d : A) (old options : Options) → i < length words → ReadsOptions (map f (take i words)) old → ((new : Options) → ¬ AddsWord (f (get_or words i d)) old new) → ¬ ReadsOptions (map f words) options
unread_word f words i d old options inside before none all =
    let parts = parted f words i d inside in
    let front = map f (take i words) in
    let word = f (get_or words i d) in
    let whole = subst (λ words. ReadsOptions words options) parts.1 all in
    let description = added_option ReadsText (codes "description") front word parts.0 old.description options.description before.1 whole.1 in
    let unit = added_option ReadsText (codes "unit") front word parts.0 old.unit options.unit before.2 whole.2 in
    let boundaries = added_option ReadsBoundaries (codes "bounds") front word parts.0 old.boundaries options.boundaries before.3 whole.3 in
    none (record { description = description.0; unit = unit.0; boundaries = boundaries.0 }) (is_option front word parts.0 whole.0, description.1, unit.1, boundaries.1)
  where
    is_option : (front : List (List ℕ)) (word : List ℕ) (rest : List (List ℕ)) → All IsOptionWord (front ++ word ∷ rest) → IsOptionWord word
    is_option [] word rest all = all 0 [] (omega arith)
    is_option (w ∷ front) word rest all = is_option front word rest (λ k d inside. all (suc k) d (omega (arith, inside)))
