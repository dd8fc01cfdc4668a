-- Lines before and behind `go`, and lines that are none.
use Rattle.std.proofs.Common.{◌≡◌, ◌<◌, ◌≤◌, ◌-◌, false, ℕ, List, [], ◌∷◌, ◌⊎◌, inl, inr, length, take, drop, get_or, codes, Bor, subst, sym, length-drop, arith}
use Rattle.std.specs.Prelude.{◌==◌}
use Rattle.std.proofs.lemmas.List.{take_all}
use Rattle.otel_stream.specs.Settings.{IsLawful}
use Rattle.otel_stream.specs.declared.selector.SelectorView.{SelectorView}
use Rattle.otel_stream.specs.declared.wants.Wants.{Wants}
use Rattle.opentelemetry_sdk.specs.declared.calls.Call.{Call}
use Rattle.otel_stream.specs.declared.observation.Observed.{Observed}
use Rattle.metrics_script.specs.CallLines.{IsCallLine}
use Rattle.metrics_script.specs.Progress.{GoesOn, Progress, SetsUp}
use Rattle.metrics_script.specs.Readers.{ReadsReader}
use Rattle.metrics_script.specs.Refusals.{StandsForNothing}
use Rattle.metrics_script.specs.Scripts.{IsNextCall, IsReaderLine}
use Rattle.metrics_script.specs.Streams.{SaysNoStream}
use Rattle.metrics_script.specs.Views.{IsSelectorWord, ReadsView}
use Rattle.metrics_script.proofs.Lines.{words}
use Rattle.metrics_script.proofs.OneStream.{one_stream}

-- the words behind the first two
pub rest_of : (refs : List (Bor (List ℕ))) → take (length refs - 2) (drop 2 refs) ≡ drop 2 refs
rest_of refs = take_all (length refs - 2) (drop 2 refs) (omega (arith, length-drop 2 refs))

pub reader_line : (refs options : List (Bor (List ℕ))) (d : Bor (List ℕ)) (reader : Wants) → 2 ≤ length refs → (get_or refs 0 d).now ≡ codes "reader" → ReadsReader (get_or refs 1 d).now (words options) reader → options ≡ drop 2 refs → IsReaderLine (words refs) reader
reader_line [] options d reader least verb reads tail = absurd (omega (arith, least))
reader_line (a ∷ []) options d reader least verb reads tail = absurd (omega (arith, least))
reader_line (a ∷ b ∷ rest) options d reader least verb reads tail = (verb, subst (λ (options : List (Bor (List ℕ))). ReadsReader b.now (words options) reader) tail reads)

-- a reader's line of which no reader is read
pub no_reader : (refs options : List (Bor (List ℕ))) (d : Bor (List ℕ)) (old new : Progress) → 2 ≤ length refs → (get_or refs 0 d).now ≡ codes "reader" → ((reader : Wants) → ¬ ReadsReader (get_or refs 1 d).now (words options) reader) → options ≡ drop 2 refs → ¬ SetsUp (words refs) old new
no_reader [] options d old new least verb none tail sets = absurd (omega (arith, least))
no_reader (a ∷ []) options d old new least verb none tail sets = absurd (omega (arith, least))
no_reader (a ∷ b ∷ rest) options d old new least verb none tail (inl sets) = none sets.0 (subst (λ (options : List (Bor (List ℕ))). ReadsReader b.now (words options) sets.0) (sym tail) sets.1.1)
no_reader (a ∷ b ∷ rest) options d old new least verb none tail (inr (inl sets)) = let other = sets.1.0 in cc
no_reader (a ∷ b ∷ rest) options d old new least verb none tail (inr (inr sets)) = let other = sets.0 in cc

unread_view : (word : List ℕ) (options : List (List ℕ)) (view : SelectorView) → StandsForNothing IsSelectorWord word ⊎ SaysNoStream options → ReadsView word options view → IsLawful view.stream → ⊥
unread_view word options view (inl none) reads lawful = none reads.0 reads.1
unread_view word options view (inr (inl none)) reads lawful = none view.stream reads.3
unread_view word options view (inr (inr bad)) reads lawful = bad.2 (subst IsLawful (one_stream options view.stream bad.0 reads.3 bad.1) lawful)

-- a view's line of which no view is read
pub no_view : (refs options : List (Bor (List ℕ))) (d : Bor (List ℕ)) (old new : Progress) → 2 ≤ length refs → (get_or refs 0 d).now ≡ codes "view" → StandsForNothing IsSelectorWord (get_or refs 1 d).now ⊎ SaysNoStream (words options) → options ≡ drop 2 refs → ¬ SetsUp (words refs) old new
no_view [] options d old new least verb none tail sets = absurd (omega (arith, least))
no_view (a ∷ []) options d old new least verb none tail sets = absurd (omega (arith, least))
no_view (a ∷ b ∷ rest) options d old new least verb none tail (inl sets) = let other = sets.1.0 in cc
no_view (a ∷ b ∷ rest) options d old new least verb none tail (inr (inl sets)) = unread_view b.now (words options) sets.0 none (subst (λ (options : List (Bor (List ℕ))). ReadsView b.now (words options) sets.0) (sym tail) sets.1.1) sets.1.2
no_view (a ∷ b ∷ rest) options d old new least verb none tail (inr (inr sets)) = let other = sets.0 in cc

-- words that are no reader, no view and not `go`
pub no_set_up : (refs : List (Bor (List ℕ))) (d : Bor (List ℕ)) (old new : Progress) → (2 ≤ length refs → (get_or refs 0 d).now ≡ codes "reader" → ⊥) → (2 ≤ length refs → (get_or refs 0 d).now ≡ codes "view" → ⊥) → (length refs < 2 → (get_or refs 0 d).now ≡ codes "go" → ⊥) → ¬ SetsUp (words refs) old new
no_set_up [] d old new reader view go (inl sets) = sets.1
no_set_up [] d old new reader view go (inr (inl sets)) = sets.1
no_set_up [] d old new reader view go (inr (inr sets)) = let other = sets.0 in cc
no_set_up (a ∷ []) d old new reader view go (inl sets) = sets.1
no_set_up (a ∷ []) d old new reader view go (inr (inl sets)) = sets.1
no_set_up (a ∷ []) d old new reader view go (inr (inr sets)) = let same = sets.0 in go (omega arith) cc
no_set_up (a ∷ b ∷ rest) d old new reader view go (inl sets) = reader (omega arith) sets.1.0
no_set_up (a ∷ b ∷ rest) d old new reader view go (inr (inl sets)) = view (omega arith) sets.1.0
no_set_up (a ∷ b ∷ rest) d old new reader view go (inr (inr sets)) = let other = sets.0 in cc

no_next : (refs : List (Bor (List ℕ))) (d : Bor (List ℕ)) (observations : List Observed) (call : Call) → (3 ≤ length refs → length refs < 4 → (get_or refs 0 d).now ≡ codes "collect" → ⊥) → (observations ≡ [] → (call : Call) → ¬ IsCallLine (words refs) call) → ¬ IsNextCall observations (words refs) call
no_next [] d observations call collect other (inl is) = is
no_next [] d observations call collect other (inr is) = other is.0 call is.1
no_next (a ∷ []) d observations call collect other (inl is) = is
no_next (a ∷ []) d observations call collect other (inr is) = other is.0 call is.1
no_next (a ∷ b ∷ []) d observations call collect other (inl is) = is
no_next (a ∷ b ∷ []) d observations call collect other (inr is) = other is.0 call is.1
no_next (a ∷ b ∷ c ∷ []) d observations call collect other (inl is) = collect (omega arith) (omega arith) is.0
no_next (a ∷ b ∷ c ∷ []) d observations call collect other (inr is) = other is.0 call is.1
no_next (a ∷ b ∷ c ∷ e ∷ rest) d observations call collect other (inl is) = is
no_next (a ∷ b ∷ c ∷ e ∷ rest) d observations call collect other (inr is) = other is.0 call is.1

-- words that are no observation, no collection and no other call that may come
pub no_step : (refs : List (Bor (List ℕ))) (d : Bor (List ℕ)) (old new : Progress) → (4 ≤ length refs → length refs < 5 → (get_or refs 0 d).now ≡ codes "observe" → ⊥) → (3 ≤ length refs → length refs < 4 → (get_or refs 0 d).now ≡ codes "collect" → ⊥) → (old.observations ≡ [] → (call : Call) → ¬ IsCallLine (words refs) call) → ¬ GoesOn (words refs) old new
no_step [] d old new observe collect other (inl goes) = goes.1
no_step [] d old new observe collect other (inr goes) = no_next [] d old.observations goes.0 collect other goes.1
no_step (a ∷ []) d old new observe collect other (inl goes) = goes.1
no_step (a ∷ []) d old new observe collect other (inr goes) = no_next (a ∷ []) d old.observations goes.0 collect other goes.1
no_step (a ∷ b ∷ []) d old new observe collect other (inl goes) = goes.1
no_step (a ∷ b ∷ []) d old new observe collect other (inr goes) = no_next (a ∷ b ∷ []) d old.observations goes.0 collect other goes.1
no_step (a ∷ b ∷ c ∷ []) d old new observe collect other (inl goes) = goes.1
no_step (a ∷ b ∷ c ∷ []) d old new observe collect other (inr goes) = no_next (a ∷ b ∷ c ∷ []) d old.observations goes.0 collect other goes.1
no_step (a ∷ b ∷ c ∷ e ∷ []) d old new observe collect other (inl goes) = observe (omega arith) (omega arith) goes.1.0
no_step (a ∷ b ∷ c ∷ e ∷ []) d old new observe collect other (inr goes) = no_next (a ∷ b ∷ c ∷ e ∷ []) d old.observations goes.0 collect other goes.1
no_step (a ∷ b ∷ c ∷ e ∷ f ∷ rest) d old new observe collect other (inl goes) = goes.1
no_step (a ∷ b ∷ c ∷ e ∷ f ∷ rest) d old new observe collect other (inr goes) = no_next (a ∷ b ∷ c ∷ e ∷ f ∷ rest) d old.observations goes.0 collect other goes.1

-- some observations are left
pub not_none : (o : List Observed) → (length o == 0) ≡ false → o ≡ [] → ⊥
not_none [] some none = cc
not_none (x ∷ o) some none = cc
