-- Lines that make a script, and lines with which none begins.
use Rattle.std.proofs.Common.{◌≡◌, ◌≢◌, ◌<◌, ◌+◌, ℕ, Bool, true, false, cond, List, [], ◌∷◌, ◌++◌, ◌⊎◌, inl, inr, map, length, take, drop, get_or, codes, refl, sym, ap, subst, ◌∙◌, append_assoc, lit<, arith}
use Rattle.std.specs.Prelude.{◌==◌, ◌||◌, not, if◌then◌else◌, Option, None, Some, IfNone, IfSome, is_some}
use Rattle.std.specs.Bool.{MatchBool}
use Rattle.std.specs.Cmp.Lexicographic.{pointwise}
use Rattle.std.specs.List.{All}
use Rattle.std.specs.Str.{IsUtf8}
use Rattle.std.proofs.lemmas.List.{append-nil, map-append}
use Rattle.std.proofs.lemmas.Grind.{common_steps}
use Rattle.std.proofs.lemmas.List.Elements.{All-head, All-nil, All-push, All-tail, filter-append}
use Rattle.otel_stream.specs.declared.observation.Observed.{Observed}
use Rattle.otel_stream.specs.declared.selector.SelectorView.{SelectorView}
use Rattle.otel_stream.specs.declared.wants.Wants.{Wants}
use Rattle.opentelemetry_sdk.specs.declared.calls.Call.{Call}
use Rattle.opentelemetry_sdk.specs.declared.calls.Call.TheVariants.{Meter, Build, Record, Bind, RecordBound, Unbind, Collect, Flush, Shutdown}
use Rattle.metrics_script.specs.CallLines.{IsCallLine}
use Rattle.metrics_script.specs.Calls.{IsIndexWord}
use Rattle.metrics_script.specs.Progress.{AddsLine, GoesOn, Progress, SetsUp}
use Rattle.metrics_script.specs.ScriptLines.{is_skipped, kept, words_of}
use Rattle.metrics_script.specs.declared.reasons.Reason.{Reason}
use Rattle.metrics_script.specs.declared.reasons.Reason.TheVariants.{NoGo, NoCollect}
use Rattle.metrics_script.specs.Scripts.{BeginsScript, IsCollectLine, IsFirstBad, IsNextCall, IsObserveLine, IsReaderLine, IsScript, IsViewLine, ReadsCalls, ReadsScript}

-- what the words of a line add
abbrev pub Adds : List (List ℕ) → Progress → Progress → Type 0
Adds words old new = MatchBool old.is_started (GoesOn words old new) (SetsUp words old new)

-- lines that, behind what has been read, end a script that says all of this
abbrev EndsBy : Bool → List Observed → List Wants → List SelectorView → List Call → List (List (List ℕ)) → List Wants → List SelectorView → List Call → Type 0
EndsBy false observed readers views calls rest R V C = (observed ≡ []) × (r : List Wants) × (v : List SelectorView) × (c : List Call) × (R ≡ readers ++ r) × (V ≡ views ++ v) × (C ≡ calls ++ c) × ReadsScript rest r v c
EndsBy true observed readers views calls rest R V C = (c : List Call) × (R ≡ readers) × (V ≡ views) × (C ≡ calls ++ c) × ReadsCalls observed rest c

abbrev pub Ends : Progress → List (List (List ℕ)) → List Wants → List SelectorView → List Call → Type 0
Ends p rest R V C = EndsBy p.is_started p.observations p.readers p.views p.calls rest R V C

abbrev pub IsSound : Progress → Type 0
IsSound p = p.is_started ≡ false → p.observations ≡ []

-- what has been read, one line earlier
before : (started : Bool) (o : List Observed) (readers : List Wants) (views : List SelectorView) (calls : List Call) (new : Progress) (words : List (List ℕ)) (rest : List (List (List ℕ))) (R : List Wants) (V : List SelectorView) (C : List Call) → (started ≡ false → o ≡ []) → MatchBool started (GoesOn words (record { readers = readers; views = views; calls = calls; is_started = started; observations = o }) new) (SetsUp words (record { readers = readers; views = views; calls = calls; is_started = started; observations = o }) new) → Ends new rest R V C → EndsBy started o readers views calls (words ∷ rest) R V C
before false o readers views calls new words rest R V C sound (inl reads) ends =
    let e = subst (λ (p : Progress). Ends p rest R V C) reads.2 ends in
    (e.0, reads.0 ∷ e.1, e.2, e.3, e.4 ∙ append_assoc readers (reads.0 ∷ []) e.1, e.5, e.6, inl (reads.0, e.1, reads.1, refl, e.7))
before false o readers views calls new words rest R V C sound (inr (inl reads)) ends =
    let e = subst (λ (p : Progress). Ends p rest R V C) reads.2 ends in
    (e.0, e.1, reads.0 ∷ e.2, e.3, e.4, e.5 ∙ append_assoc views (reads.0 ∷ []) e.2, e.6, inr (inl (reads.0, e.2, reads.1, refl, e.7)))
before false o readers views calls new words rest R V C sound (inr (inr reads)) ends =
    let e = subst (λ (p : Progress). Ends p rest R V C) reads.1 ends in
    (sound refl, [], [], e.0, e.1 ∙ sym (append-nil readers), e.2 ∙ sym (append-nil views), e.3, inr (inr (reads.0, refl, refl, subst (λ (o : List Observed). ReadsCalls o rest e.0) (sound refl) e.4)))
before true o readers views calls new words rest R V C sound (inl reads) ends =
    let e = subst (λ (p : Progress). Ends p rest R V C) reads.2 ends in
    (e.0, e.1, e.2, e.3, inl (reads.0, reads.1, e.4))
before true o readers views calls new words rest R V C sound (inr reads) ends =
    let e = subst (λ (p : Progress). Ends p rest R V C) reads.2 ends in
    (reads.0 ∷ e.0, e.1, e.2, e.3 ∙ append_assoc calls (reads.0 ∷ []) e.0, inr (reads.0, e.0, reads.1, refl, e.4))

-- what is still to be read, one line later
next_set_up : (o : List Observed) (readers : List Wants) (views : List SelectorView) (calls : List Call) (words : List (List ℕ)) (rest : List (List (List ℕ))) (R : List Wants) (V : List SelectorView) (C : List Call) (r : List Wants) (v : List SelectorView) (c : List Call) → o ≡ [] → R ≡ readers ++ r → V ≡ views ++ v → C ≡ calls ++ c → ReadsScript (words ∷ rest) r v c → (new : Progress) × SetsUp words (record { readers = readers; views = views; calls = calls; is_started = false; observations = o }) new × Ends new rest R V C
next_set_up o readers views calls words rest R V C r v c none eR eV eC (inl reads) =
    (record { readers = readers ++ reads.0 ∷ []; views = views; calls = calls; is_started = false; observations = o }, inl (reads.0, reads.2, refl), (none, reads.1, v, c, eR ∙ ap (λ (xs : List Wants). readers ++ xs) reads.3 ∙ sym (append_assoc readers (reads.0 ∷ []) reads.1), eV, eC, reads.4))
next_set_up o readers views calls words rest R V C r v c none eR eV eC (inr (inl reads)) =
    (record { readers = readers; views = views ++ reads.0 ∷ []; calls = calls; is_started = false; observations = o }, inr (inl (reads.0, reads.2, refl)), (none, r, reads.1, c, eR, eV ∙ ap (λ (xs : List SelectorView). views ++ xs) reads.3 ∙ sym (append_assoc views (reads.0 ∷ []) reads.1), eC, reads.4))
next_set_up o readers views calls words rest R V C r v c none eR eV eC (inr (inr reads)) =
    (record { readers = readers; views = views; calls = calls; is_started = true; observations = o }, inr (inr (reads.0, refl)), (c, eR ∙ ap (λ (xs : List Wants). readers ++ xs) reads.1 ∙ append-nil readers, eV ∙ ap (λ (xs : List SelectorView). views ++ xs) reads.2 ∙ append-nil views, eC, subst (λ (o : List Observed). ReadsCalls o rest c) (sym none) reads.3))

next_gone_on : (o : List Observed) (readers : List Wants) (views : List SelectorView) (calls : List Call) (words : List (List ℕ)) (rest : List (List (List ℕ))) (R : List Wants) (V : List SelectorView) (C c : List Call) → R ≡ readers → V ≡ views → C ≡ calls ++ c → ReadsCalls o (words ∷ rest) c → (new : Progress) × GoesOn words (record { readers = readers; views = views; calls = calls; is_started = true; observations = o }) new × Ends new rest R V C
next_gone_on o readers views calls words rest R V C c eR eV eC (inl reads) =
    (record { readers = readers; views = views; calls = calls; is_started = true; observations = o ++ reads.0 ∷ [] }, inl (reads.0, reads.1, refl), (c, eR, eV, eC, reads.2))
next_gone_on o readers views calls words rest R V C c eR eV eC (inr reads) =
    (record { readers = readers; views = views; calls = calls ++ reads.0 ∷ []; is_started = true; observations = [] }, inr (reads.0, reads.2, refl), (reads.1, eR, eV, eC ∙ ap (λ (xs : List Call). calls ++ xs) reads.3 ∙ sym (append_assoc calls (reads.0 ∷ []) reads.1), reads.4))

next : (started : Bool) (o : List Observed) (readers : List Wants) (views : List SelectorView) (calls : List Call) (words : List (List ℕ)) (rest : List (List (List ℕ))) (R : List Wants) (V : List SelectorView) (C : List Call) → EndsBy started o readers views calls (words ∷ rest) R V C → (new : Progress) × Adds words (record { readers = readers; views = views; calls = calls; is_started = started; observations = o }) new × Ends new rest R V C
next false o readers views calls words rest R V C e = next_set_up o readers views calls words rest R V C e.1 e.2 e.3 e.0 e.4 e.5 e.6 e.7
next true o readers views calls words rest R V C e = next_gone_on o readers views calls words rest R V C e.0 e.1 e.2 e.3 e.4

-- what may come next depends on whether `go` has been read and on whether there are observations; both follow from the
-- words of the lines alone
abbrev pub has_verb : List ℕ → List (List ℕ) → Bool
has_verb verb [] = false
has_verb verb (word ∷ words) = pointwise ◌==◌ word verb

abbrev pub are_none : List Observed → Bool
are_none [] = true
are_none (x ∷ xs) = false

abbrev pub AreAlike : Progress → Progress → Type 0
AreAlike p q = (p.is_started ≡ q.is_started) × (are_none p.observations ≡ are_none q.observations)

verb_of_reader : (words : List (List ℕ)) (reader : Wants) → IsReaderLine words reader → has_verb (codes "go") words ≡ false
verb_of_reader [] reader is = absurd is
verb_of_reader (verb ∷ []) reader is = absurd is
verb_of_reader (verb ∷ t ∷ options) reader is = ap (λ (w : List ℕ). pointwise ◌==◌ w (codes "go")) is.0

verb_of_view : (words : List (List ℕ)) (view : SelectorView) → IsViewLine words view → has_verb (codes "go") words ≡ false
verb_of_view [] view is = absurd is
verb_of_view (verb ∷ []) view is = absurd is
verb_of_view (verb ∷ s ∷ options) view is = ap (λ (w : List ℕ). pointwise ◌==◌ w (codes "go")) is.0

verb_of_observation : (words : List (List ℕ)) (observed : Observed) → IsObserveLine words observed → has_verb (codes "observe") words ≡ true
verb_of_observation (verb ∷ i ∷ n ∷ a ∷ []) observed is = ap (λ (w : List ℕ). pointwise ◌==◌ w (codes "observe")) is.0
verb_of_observation words observed is = absurd is

verb_of_collection : (o : List Observed) (words : List (List ℕ)) (call : Call) → IsCollectLine o words call → has_verb (codes "observe") words ≡ false
verb_of_collection o (verb ∷ r ∷ n ∷ []) call is = ap (λ (w : List ℕ). pointwise ◌==◌ w (codes "observe")) is.0
verb_of_collection o words call is = absurd is

verb_of_call : (words : List (List ℕ)) (call : Call) → IsCallLine words call → has_verb (codes "observe") words ≡ false
verb_of_call (verb ∷ []) Flush is = ap (λ (w : List ℕ). pointwise ◌==◌ w (codes "observe")) is
verb_of_call (verb ∷ []) Shutdown is = ap (λ (w : List ℕ). pointwise ◌==◌ w (codes "observe")) is
verb_of_call (verb ∷ b ∷ []) (Meter scope) is = ap (λ (w : List ℕ). pointwise ◌==◌ w (codes "observe")) is.0
verb_of_call (verb ∷ b ∷ []) (Unbind h) is = ap (λ (w : List ℕ). pointwise ◌==◌ w (codes "observe")) is.0
verb_of_call (verb ∷ b ∷ c ∷ []) (Meter scope) is = ap (λ (w : List ℕ). pointwise ◌==◌ w (codes "observe")) is.0
verb_of_call (verb ∷ b ∷ c ∷ []) (Bind i a) is = ap (λ (w : List ℕ). pointwise ◌==◌ w (codes "observe")) is.0
verb_of_call (verb ∷ b ∷ c ∷ []) (RecordBound h v) is = ap (λ (w : List ℕ). pointwise ◌==◌ w (codes "observe")) is.0
verb_of_call (verb ∷ b ∷ c ∷ e ∷ []) (Record i v a) is = ap (λ (w : List ℕ). pointwise ◌==◌ w (codes "observe")) is.0
verb_of_call (verb ∷ b ∷ c ∷ e ∷ f ∷ rest) (Build m s n d u bounds at) is = ap (λ (w : List ℕ). pointwise ◌==◌ w (codes "observe")) is.0
verb_of_call words call is = absurd is

pub verb_of_next : (o : List Observed) (words : List (List ℕ)) (call : Call) → IsNextCall o words call → has_verb (codes "observe") words ≡ false
verb_of_next o words call (inl is) = verb_of_collection o words call is
verb_of_next o words call (inr is) = verb_of_call words call is.1

none_push : (o : List Observed) (x : Observed) → are_none (o ++ x ∷ []) ≡ false
none_push [] x = refl
none_push (y ∷ o) x = refl

pub nil_from_none : (o : List Observed) → are_none o ≡ true → o ≡ []
nil_from_none [] none = refl
nil_from_none (x ∷ o) none = cc

-- where nothing is missing
pub none_missing : (result : Option Reason) (p : Progress) → IfNone result ((p.is_started ≡ true) × (p.observations ≡ [])) → is_some result ≡ false → (p.is_started ≡ true) × (p.observations ≡ [])
none_missing None p whole is = whole
none_missing (Some reason) p whole is = cc

some_left : (o : List Observed) → o ≢ [] → are_none o ≡ false
some_left [] some = absurd (some refl)
some_left (x ∷ o) some = refl

-- where something is
pub some_missing : (result : Option Reason) (p : Progress) → IfSome result (λ reason. ((reason ≡ NoGo) × (p.is_started ≡ false)) ⊎ ((reason ≡ NoCollect) × (p.observations ≢ []))) → is_some result ≡ true → (p.is_started ≡ false) ⊎ (are_none p.observations ≡ false)
some_missing None p why is = cc
some_missing (Some reason) p (inl why) is = inl why.1
some_missing (Some reason) p (inr why) is = inr (some_left p.observations why.1)

started_next : (started : Bool) (words : List (List ℕ)) (old new : Progress) → MatchBool started (GoesOn words old new) (SetsUp words old new) → old.is_started ≡ started → new.is_started ≡ (started || has_verb (codes "go") words)
started_next true words old new (inl adds) is = ap (λ (p : Progress). p.is_started) adds.2 ∙ is
started_next true words old new (inr adds) is = ap (λ (p : Progress). p.is_started) adds.2 ∙ is
started_next false words old new (inl adds) is = ap (λ (p : Progress). p.is_started) adds.2 ∙ is ∙ sym (verb_of_reader words adds.0 adds.1)
started_next false words old new (inr (inl adds)) is = ap (λ (p : Progress). p.is_started) adds.2 ∙ is ∙ sym (verb_of_view words adds.0 adds.1)
started_next false words old new (inr (inr adds)) is = ap (λ (p : Progress). p.is_started) adds.1 ∙ sym (ap (has_verb (codes "go")) adds.0)

none_next : (started : Bool) (words : List (List ℕ)) (old new : Progress) → MatchBool started (GoesOn words old new) (SetsUp words old new) → are_none new.observations ≡ (if started then not (has_verb (codes "observe") words) else are_none old.observations)
none_next true words old new (inl adds) = ap (λ (p : Progress). are_none p.observations) adds.2 ∙ none_push old.observations adds.0 ∙ sym (ap not (verb_of_observation words adds.0 adds.1))
none_next true words old new (inr adds) = ap (λ (p : Progress). are_none p.observations) adds.2 ∙ sym (ap not (verb_of_next old.observations words adds.0 adds.1))
none_next false words old new (inl adds) = ap (λ (p : Progress). are_none p.observations) adds.2
none_next false words old new (inr (inl adds)) = ap (λ (p : Progress). are_none p.observations) adds.2
none_next false words old new (inr (inr adds)) = ap (λ (p : Progress). are_none p.observations) adds.1

alike_next : (words : List (List ℕ)) (p p' q q' : Progress) → AreAlike p q → Adds words p p' → Adds words q q' → AreAlike p' q'
alike_next words p p' q q' alike adds adds' = (
  started_next p.is_started words p p' adds refl ∙ ap (λ (b : Bool). b || has_verb (codes "go") words) alike.0 ∙ sym (started_next q.is_started words q q' adds' refl),
  none_next p.is_started words p p' adds ∙ (λ i. if alike.0 i then not (has_verb (codes "observe") words) else alike.1 i) ∙ sym (none_next q.is_started words q q' adds'),
)

sound_next : (started : Bool) (words : List (List ℕ)) (old new : Progress) → MatchBool started (GoesOn words old new) (SetsUp words old new) → old.is_started ≡ started → IsSound old → IsSound new
sound_next true words old new adds is sound = λ not_started. let started : new.is_started ≡ true = started_next true words old new adds is in cc
sound_next false words old new (inl adds) is sound = λ not_started. ap (λ (p : Progress). p.observations) adds.2 ∙ sound is
sound_next false words old new (inr (inl adds)) is sound = λ not_started. ap (λ (p : Progress). p.observations) adds.2 ∙ sound is
sound_next false words old new (inr (inr adds)) is sound = λ not_started. ap (λ (p : Progress). p.observations) adds.1 ∙ sound is

-- a line that may come after what has been read may come after all that is alike
other_collection : (o o' : List Observed) (words : List (List ℕ)) (call : Call) → IsCollectLine o' words call → (other : Call) × IsCollectLine o words other
other_collection o o' (verb ∷ r ∷ n ∷ []) (Collect reader at observations) is = (Collect reader at o, (is.0, (is.1.0, is.1.1, refl)))
other_collection o o' (verb ∷ r ∷ n ∷ []) call is = absurd is.1
other_collection o o' words call is = absurd is

other_call : (o o' : List Observed) (words : List (List ℕ)) (call : Call) → are_none o ≡ are_none o' → IsNextCall o' words call → (other : Call) × IsNextCall o words other
other_call o o' words call alike (inl is) = let other = other_collection o o' words call is in (other.0, inl other.1)
other_call o o' words call alike (inr is) = (call, inr (nil_from_none o (alike ∙ ap are_none is.0), is.1))

may_come : (started : Bool) (words : List (List ℕ)) (p q q' : Progress) → are_none p.observations ≡ are_none q.observations → MatchBool started (GoesOn words q q') (SetsUp words q q') → (p' : Progress) × MatchBool started (GoesOn words p p') (SetsUp words p p')
may_come true words p q q' alike (inl adds) = (record p { observations = p.observations ++ adds.0 ∷ [] }, inl (adds.0, adds.1, refl))
may_come true words p q q' alike (inr adds) = let other = other_call p.observations q.observations words adds.0 alike adds.1 in (record p { calls = p.calls ++ other.0 ∷ []; observations = [] }, inr (other.0, other.1, refl))
may_come false words p q q' alike (inl adds) = (record p { readers = p.readers ++ adds.0 ∷ [] }, inl (adds.0, adds.1, refl))
may_come false words p q q' alike (inr (inl adds)) = (record p { views = p.views ++ adds.0 ∷ [] }, inr (inl (adds.0, adds.1, refl)))
may_come false words p q q' alike (inr (inr adds)) = (record p { is_started = true }, inr (inr (adds.0, refl)))

-- These lines were read, and this is what they say: with more lines, they are a script of what these add.
pub record Reads (lines : List (List ℕ)) (p : Progress) : Type 0 where
  pub utf8 : All IsUtf8 lines
  pub sound : IsSound p
  pub good : (rest : List (List (List ℕ))) (R : List Wants) (V : List SelectorView) (C : List Call) → Ends p rest R V C → ReadsScript (map words_of lines ++ rest) R V C
  pub forced : (rest : List (List (List ℕ))) (R : List Wants) (V : List SelectorView) (C : List Call) → ReadsScript (map words_of lines ++ rest) R V C → (q : Progress) × AreAlike p q × Ends q rest R V C

abbrev pub nothing : Progress
nothing = record { readers = []; views = []; calls = []; is_started = false; observations = [] }

reads_same : (rest : List (List (List ℕ))) (R r : List Wants) (V v : List SelectorView) (C c : List Call) → R ≡ r → V ≡ v → C ≡ c → ReadsScript rest r v c → ReadsScript rest R V C
reads_same rest R r V v C c eR eV eC reads = rw (eR, eV, eC) reads

pub reads_none : Reads [] nothing
reads_none = record {
  utf8 = All-nil IsUtf8;
  sound = λ is. refl;
  good = λ rest R V C ends. reads_same rest R ends.1 V ends.2 C ends.3 ends.4 ends.5 ends.6 ends.7;
  forced = λ rest R V C reads. (nothing, (refl, refl), (refl, R, V, C, refl, refl, refl, reads));
}

behind : (lines : List (List ℕ)) (line : List ℕ) (rest : List (List (List ℕ))) → map words_of (lines ++ line ∷ []) ++ rest ≡ map words_of lines ++ (words_of line ∷ rest)
behind lines line rest = ap (λ (words : List (List (List ℕ))). words ++ rest) (map-append words_of lines (line ∷ [])) ∙ append_assoc (map words_of lines) (words_of line ∷ []) rest

pub reads_more : (lines : List (List ℕ)) (line : List ℕ) (old new : Progress) → Reads lines old → IsUtf8 line → Adds (words_of line) old new → Reads (lines ++ line ∷ []) new
reads_more lines line old new reads utf8 adds = record {
  utf8 = All-push IsUtf8 lines line reads.utf8 utf8;
  sound = sound_next old.is_started (words_of line) old new adds refl reads.sound;
  good = λ rest R V C ends. subst (λ (words : List (List (List ℕ))). ReadsScript words R V C) (sym (behind lines line rest)) (reads.good (words_of line ∷ rest) R V C (before old.is_started old.observations old.readers old.views old.calls new (words_of line) rest R V C reads.sound adds ends));
  forced = λ rest R V C script.
      let here = reads.forced (words_of line ∷ rest) R V C (subst (λ (words : List (List (List ℕ))). ReadsScript words R V C) (behind lines line rest) script) in
      let q = here.0 in
      let later = next q.is_started q.observations q.readers q.views q.calls (words_of line) rest R V C here.2 in
      (later.0, alike_next (words_of line) old new q later.0 here.1 adds later.1, later.2);
}

kept_line : (done : List (List ℕ)) (line : List ℕ) (rest : List (List ℕ)) → kept (done ++ line ∷ rest) ≡ kept done ++ cond (not (is_skipped line)) (line ∷ kept rest) (kept rest)
kept_line done line rest = filter-append (λ line. not (is_skipped line)) done (line ∷ rest)

kept_whole : (done : List (List ℕ)) (line : List ℕ) (rest : List (List ℕ)) → is_skipped line ≡ false → kept (done ++ line ∷ rest) ≡ kept done ++ line ∷ kept rest
kept_whole done line rest is = kept_line done line rest ∙ ap (λ (b : Bool). kept done ++ cond (not b) (line ∷ kept rest) (kept rest)) is

added : (skipped : Bool) (lines : List (List ℕ)) (line : List ℕ) (old new : Progress) → Reads lines old → MatchBool skipped (new ≡ old) (IsUtf8 line × Adds (words_of line) old new) → Reads (lines ++ cond (not skipped) (line ∷ []) []) new
added true lines line old new reads same = subst (λ (lines : List (List ℕ)). Reads lines new) (sym (append-nil lines)) (subst (λ (p : Progress). Reads lines p) (sym same) reads)
added false lines line old new reads adds = reads_more lines line old new reads adds.0 adds.1

-- one more line was read
pub line_read : (done : List (List ℕ)) (line : List ℕ) (old new : Progress) → Reads (kept done) old → AddsLine line old new → Reads (kept (done ++ line ∷ [])) new
line_read done line old new reads adds = subst (λ (lines : List (List ℕ)). Reads lines new) (sym (kept_line done line [])) (added (is_skipped line) (kept done) line old new reads adds)

whole : (started : Bool) (o : List Observed) (r : List Wants) (v : List SelectorView) (c : List Call) → started ≡ true → o ≡ [] → EndsBy started o r v c [] r v c
whole true o r v c is none = ([], refl, refl, sym (append-nil c), (none, refl))
whole false o r v c is none = cc

-- the lines that were read are a script
pub whole_read : (done : List (List ℕ)) (p : Progress) → Reads (kept done) p → p.is_started ≡ true → p.observations ≡ [] → IsScript done p.readers p.views p.calls
whole_read done p reads is none = (reads.utf8, subst (λ (words : List (List (List ℕ))). ReadsScript words p.readers p.views p.calls) (append-nil (map words_of (kept done))) (reads.good [] p.readers p.views p.calls (whole p.is_started p.observations p.readers p.views p.calls is none)))

unended : (started : Bool) (o : List Observed) (r : List Wants) (v : List SelectorView) (c : List Call) (R : List Wants) (V : List SelectorView) (C : List Call) → (started ≡ false) ⊎ (are_none o ≡ false) → ¬ EndsBy started o r v c [] R V C
unended false o r v c R V C why ends = ends.7
unended true o r v c R V C (inl not_started) ends = cc
unended true o r v c R V C (inr some) ends = let none : are_none o ≡ true = ap are_none ends.4.0 in cc

also : (p q : Progress) → AreAlike p q → (p.is_started ≡ false) ⊎ (are_none p.observations ≡ false) → (q.is_started ≡ false) ⊎ (are_none q.observations ≡ false)
also p q alike (inl not_started) = inl (sym alike.0 ∙ not_started)
also p q alike (inr some) = inr (sym alike.1 ∙ some)

-- they are none: `go` or a collection is missing
pub none_read : (done : List (List ℕ)) (p : Progress) → Reads (kept done) p → (p.is_started ≡ false) ⊎ (are_none p.observations ≡ false) → (R : List Wants) (V : List SelectorView) (C : List Call) → ¬ IsScript done R V C
none_read done p reads why R V C script =
    let end = reads.forced [] R V C (subst (λ (words : List (List (List ℕ))). ReadsScript words R V C) (sym (append-nil (map words_of (kept done)))) script.1) in
    let q = end.0 in
    unended q.is_started q.observations q.readers q.views q.calls R V C (also p q end.1 why) end.2

zero_word : IsIndexWord (codes "0") 0
zero_word = (((lit< tt, (lit< tt, tt)), lit< tt), refl)

-- a line after which what has been read is a script
record Closes (started : Bool) (o : List Observed) (r : List Wants) (v : List SelectorView) (c : List Call) : Type 0 where
  pub line : List ℕ
  pub counts : is_skipped line ≡ false
  pub utf8 : IsUtf8 line
  pub calls : List Call
  pub ends : EndsBy started o r v c (words_of line ∷ []) r v calls

closing : (started : Bool) (o : List Observed) (r : List Wants) (v : List SelectorView) (c : List Call) → (started ≡ false → o ≡ []) → Closes started o r v c
unfolding lib.Utf8.encode
closing false o r v c sound = record {
  line = codes "go";
  counts = refl;
  utf8 = (codes "go", (refl, refl));
  calls = c;
  ends = (sound refl, [], [], [], sym (append-nil r), sym (append-nil v), sym (append-nil c), inr (inr (refl, refl, refl, (refl, refl))));
}
closing true o r v c sound = record {
  line = codes "collect 0 0";
  counts = refl;
  utf8 = (codes "collect 0 0", (refl, refl));
  calls = c ++ Collect 0 0 o ∷ [];
  ends = (Collect 0 0 o ∷ [], refl, refl, refl, inr (Collect 0 0 o, [], inl (refl, (zero_word, zero_word, refl)), refl, (refl, refl)));
}

-- a script begins with the lines that were read
pub begun : (done : List (List ℕ)) (p : Progress) → Reads (kept done) p → BeginsScript done
begun done p reads =
    let end = closing p.is_started p.observations p.readers p.views p.calls reads.sound in
    let says = subst (λ (words : List (List (List ℕ))). ReadsScript words p.readers p.views end.calls) (sym (map-append words_of (kept done) (end.line ∷ []))) (reads.good (words_of end.line ∷ []) p.readers p.views end.calls end.ends) in
    (end.line ∷ [], p.readers, p.views, end.calls, subst (λ (lines : List (List ℕ)). All IsUtf8 lines × ReadsScript (map words_of lines) p.readers p.views end.calls) (sym (kept_whole done end.line [] end.counts)) (All-push IsUtf8 (kept done) end.line reads.utf8 end.utf8, says))

among : (xs : List (List ℕ)) (y : List ℕ) (ys : List (List ℕ)) → All IsUtf8 (xs ++ y ∷ ys) → IsUtf8 y
among [] y ys all = All-head IsUtf8 y ys all
among (x ∷ xs) y ys all = among xs y ys (All-tail IsUtf8 x (xs ++ y ∷ ys) all)

bad_line : (skipped : Bool) (done : List (List ℕ)) (line : List ℕ) (p : Progress) → is_skipped line ≡ skipped → Reads (kept done) p → ((new : Progress) → ¬ MatchBool skipped (new ≡ p) (IsUtf8 line × Adds (words_of line) p new)) → ¬ BeginsScript (done ++ line ∷ [])
bad_line true done line p is reads none begins = none p refl
bad_line false done line p is reads none begins =
    let more = begins.0 in
    let R = begins.1 in
    let V = begins.2 in
    let C = begins.3 in
    let lines = ap kept (append_assoc done (line ∷ []) more) ∙ kept_whole done line more is in
    let utf8 = among (kept done) line (kept more) (subst (All IsUtf8) lines begins.4.0) in
    let words = ap (map words_of) lines ∙ map-append words_of (kept done) (line ∷ kept more) in
    let there = reads.forced (words_of line ∷ map words_of (kept more)) R V C (subst (λ (words : List (List (List ℕ))). ReadsScript words R V C) words begins.4.1) in
    let q = there.0 in
    let later = next q.is_started q.observations q.readers q.views q.calls (words_of line) (map words_of (kept more)) R V C there.2 in
    let come = may_come p.is_started (words_of line) p q later.0 there.1.1 (subst (λ (b : Bool). MatchBool b (GoesOn (words_of line) q later.0) (SetsUp (words_of line) q later.0)) (sym there.1.0) later.1) in
    none come.0 (utf8, come.1)

cut : (all done : List (List ℕ)) (k : ℕ) (line : List ℕ) → done ≡ take k all → k < length all → line ≡ get_or all k line → (rest : List (List ℕ)) × (all ≡ done ++ line ∷ rest)
cut all done k line front inside is = (drop (k + 1) all, grind (arith, common_steps))

-- with a line that adds nothing no script begins
pub bad_in_midst : (all done : List (List ℕ)) (k : ℕ) (line : List ℕ) (number : ℕ) (p : Progress) → Reads (kept done) p → done ≡ take k all → k < length all → line ≡ get_or all k line → number ≡ length done + 1 → ((new : Progress) → ¬ AddsLine line p new) → IsFirstBad all number
bad_in_midst all done k line number p reads front inside is count none =
    let parts = cut all done k line front inside is in
    (done, line ∷ parts.0, parts.1, count, begun done p reads, bad_line (is_skipped line) done line p refl reads none)

-- all lines were read, and are no script
pub bad_at_end : (all done : List (List ℕ)) (number : ℕ) (p : Progress) → Reads (kept done) p → done ≡ all → number ≡ length done + 1 → (p.is_started ≡ false) ⊎ (are_none p.observations ≡ false) → IsFirstBad all number
bad_at_end all done number p reads whole count why = (done, [], sym whole ∙ sym (append-nil done), count, begun done p reads, none_read done p reads why)
