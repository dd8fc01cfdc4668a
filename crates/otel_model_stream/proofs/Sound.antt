-- What each event preserves.
use Rattle.std.proofs.Common.{◌≡◌, inl, inr, ⊎_elim, Option, Some, None, ℕ, ◌≤◌, List, [], ◌∷◌, ◌++◌, Bool, true, false, cond, ◌||◌, refl, sym, ap, ◌∙◌, subst, arith}
use Rattle.std.specs.Prelude.{◌==◌}
use Rattle.std.proofs.lemmas.Bool.{or_parts, true≢false, cases_Bool, false_from_ne_true}
use Rattle.std.proofs.lemmas.List.{append-nil}
use Rattle.std.proofs.lemmas.List.Folds.{list_any-append}
use Rattle.otel_common.specs.Equality.{set_eq}
use Rattle.otel_model_stream.specs.Sets.{AttributeSet, none_set, over_set}
use Rattle.otel_model_stream.specs.Folds.{Amount}
use Rattle.otel_model_stream.specs.Events.{Record, Bind, RecordBound, Unbind, Handles, held_by, without}
use Rattle.otel_model_stream.specs.Windows.{Start, Window, is_in, room, by_handle, places_of, uncounted_of, is_held, more}
use Rattle.otel_model_stream.proofs.Sets.{set_eq_true}
use Rattle.otel_model_stream.proofs.Lists.{same_eq, or_true}
use Rattle.otel_model_stream.proofs.Places.{grown, open_sets, open_flag, IsLawful}
use Rattle.otel_model_stream.proofs.Build.{Pairs, target, hit_push, AreHitsPlaced, AreHandlesPlaced}
use Rattle.otel_model_stream.proofs.Steps.{IsSound, grown_keeps, grown_over, Lands, lands}
use Rattle.otel_model_stream.proofs.Moves.{Facts, facts, mention_facts, recorded_facts, bound_facts, through_facts, let_go_facts, facts_record, facts_bind, facts_through, facts_let_go}

pub record Fits (f : Facts) : Type 0 where
  pub over : f.1 ≡ true → is_in over_set f.0 ≡ true
  pub hits : AreHitsPlaced f.0 f.2
  pub helds : AreHandlesPlaced f.0 f.3

pub fits_of : (limit : ℕ) (w : Window) → IsSound limit w → Fits (facts limit w)
fits_of limit w s = record { over = s.over; hits = s.hits; helds = s.helds }

pub sound_of : (limit : ℕ) (w : Window) → IsLawful w.start → Fits (facts limit w) → IsSound limit w
sound_of limit w l f = record { lawful = l; over = f.over; hits = f.hits; helds = f.helds }

-- a set without a place had none before, and no measurement goes to it
not_before : (p p' : List AttributeSet) (x : AttributeSet) → ((x : AttributeSet) → is_in x p ≡ true → is_in x p' ≡ true) → is_in x p' ≡ false → is_in x p ≡ false
not_before p p' x keeps m = false_from_ne_true (is_in x p) (λ e. true≢false (sym (keeps x e) ∙ m))

not_landed : (p : List AttributeSet) (g x : AttributeSet) → Lands p g → set_eq x none_set ≡ false → is_in x p ≡ false → set_eq g x ≡ false
not_landed p g x l e m = false_from_ne_true (set_eq g x) (λ same.
    ⊎_elim (λ n. true≢false (sym (same_eq x none_set (sym (set_eq_true g x same) ∙ set_eq_true g none_set n)) ∙ e))
    (λ n. true≢false (sym (ap (λ z. is_in z p) (sym (set_eq_true g x same)) ∙ n) ∙ m)) l)

hits_more : (p p' : List AttributeSet) (rs : Pairs) (g : AttributeSet) (v : Amount) → ((x : AttributeSet) → is_in x p ≡ true → is_in x p' ≡ true) → Lands p' g → AreHitsPlaced p rs → AreHitsPlaced p' (rs ++ (g, v) ∷ [])
hits_more p p' rs g v keeps l h x e m = hit_push rs g v x ∙ (λ i. h x e (not_before p p' x keeps m) i || not_landed p' g x l e m i)

helds_more : (p p' : List AttributeSet) (hs : Handles) (h : ℕ) (g : AttributeSet) → ((x : AttributeSet) → is_in x p ≡ true → is_in x p' ≡ true) → Lands p' g → AreHandlesPlaced p hs → AreHandlesPlaced p' (hs ++ (h, g) ∷ [])
helds_more p p' hs h g keeps l a x e m =
    list_any-append (λ (q : ℕ × AttributeSet). set_eq q.1 x) hs ((h, g) ∷ [])
    ∙ (λ i. a x e (not_before p p' x keeps m) i || (not_landed p' g x l e m i || false))

fits_mention : (limit : ℕ) (s : AttributeSet) (f : Facts) → Fits f → Fits (mention_facts limit s f)
fits_mention limit s f a = record {
  over = grown_over limit s f.0 f.1 a.over;
  hits = λ x e m. a.hits x e (not_before f.0 (grown limit s f.0 f.1).0 x (λ y k. grown_keeps limit s f.0 f.1 y k) m);
  helds = λ x e m. a.helds x e (not_before f.0 (grown limit s f.0 f.1).0 x (λ y k. grown_keeps limit s f.0 f.1 y k) m);
}

fits_recorded : (s : AttributeSet) (v : Amount) (f : Facts) → Lands f.0 (target f.0 s) → Fits f → Fits (recorded_facts s v f)
fits_recorded s v f l a = record { over = a.over; hits = hits_more f.0 f.0 f.2 (target f.0 s) v (λ x m. m) l a.hits; helds = a.helds }

fits_bound : (h : ℕ) (s : AttributeSet) (f : Facts) → Lands f.0 (target f.0 s) → Fits f → Fits (bound_facts h s f)
fits_bound h s f l a = record { over = a.over; hits = a.hits; helds = helds_more f.0 f.0 f.3 h (target f.0 s) (λ x m. m) l a.helds }

-- a live handle's goal is held
is_held_at : (h : ℕ) (g : AttributeSet) (hs : Handles) → held_by h hs ≡ Some g → is_held hs g ≡ true
is_held_at h g [] e = absurd (cc)
is_held_at h g (q ∷ hs) e = go (q.0 == h) e (is_held_at h g hs)
  where
    some_is : Some q.1 ≡ Some g → q.1 ≡ g
    some_is e = cc

    go : (b : Bool) → cond b (Some q.1) (held_by h hs) ≡ Some g → (held_by h hs ≡ Some g → is_held hs g ≡ true) → (set_eq q.1 g || is_held hs g) ≡ true
    go true e ih = ap (λ b. b || is_held hs g) (same_eq q.1 g (some_is e))
    go false e ih = ap (λ b. set_eq q.1 g || b) (ih e) ∙ or_true (set_eq q.1 g)

landed : (p : List AttributeSet) (hs : Handles) (h : ℕ) (g : AttributeSet) → AreHandlesPlaced p hs → held_by h hs ≡ Some g → Lands p g
landed p hs h g a e = ⊎_elim inl (λ n. ⊎_elim inr (λ m. absurd (true≢false (sym (is_held_at h g hs e) ∙ a g n m))) (cases_Bool (is_in g p))) (cases_Bool (set_eq g none_set))

fits_through : (h : ℕ) (v : Amount) (f : Facts) → Fits f → Fits (through_facts h v f)
fits_through h v f a = go (held_by h f.3) refl
  where
    go : (o : Option AttributeSet) → held_by h f.3 ≡ o → Fits (f.0, f.1, f.2 ++ by_handle o v, f.3)
    go None e = record { over = a.over; hits = subst (λ l. AreHitsPlaced f.0 l) (sym (append-nil f.2)) a.hits; helds = a.helds }
    go (Some g) e = record { over = a.over; hits = hits_more f.0 f.0 f.2 g v (λ x m. m) (landed f.0 f.3 h g a.helds e) a.hits; helds = a.helds }

held_without : (h : ℕ) (x : AttributeSet) (hs : Handles) → is_held hs x ≡ false → is_held (without h hs) x ≡ false
held_without h x [] e = refl
held_without h x (q ∷ hs) e = let p = or_parts (set_eq q.1 x) (is_held hs x) e in go (q.0 == h) p.0 p.1 (held_without h x hs p.1)
  where
    go : (b : Bool) → set_eq q.1 x ≡ false → is_held hs x ≡ false → is_held (without h hs) x ≡ false → is_held (cond b hs (q ∷ without h hs)) x ≡ false
    go true e f ih = f
    go false e f ih = λ i. e i || ih i

fits_let_go : (h : ℕ) (f : Facts) → Fits f → Fits (let_go_facts h f)
fits_let_go h f a = record { over = a.over; hits = a.hits; helds = λ x e m. held_without h x f.3 (a.helds x e m) }

pub sound_record : (limit : ℕ) (w : Window) (s : AttributeSet) (v : Amount) → IsSound limit w → IsSound limit (more w (Record s v))
sound_record limit w s v a = sound_of limit (more w (Record s v)) a.lawful (subst Fits (sym (facts_record limit w s v a.lawful))
    (fits_recorded s v (mention_facts limit s (facts limit w)) (lands limit s (places_of limit w) (uncounted_of limit w)) (fits_mention limit s (facts limit w) (fits_of limit w a))))

pub sound_bind : (limit : ℕ) (w : Window) (h : ℕ) (s : AttributeSet) → IsSound limit w → IsSound limit (more w (Bind h s))
sound_bind limit w h s a = sound_of limit (more w (Bind h s)) a.lawful (subst Fits (sym (facts_bind limit w h s a.lawful))
    (fits_bound h s (mention_facts limit s (facts limit w)) (lands limit s (places_of limit w) (uncounted_of limit w)) (fits_mention limit s (facts limit w) (fits_of limit w a))))

pub sound_through : (limit : ℕ) (w : Window) (h : ℕ) (v : Amount) → IsSound limit w → IsSound limit (more w (RecordBound h v))
sound_through limit w h v a = sound_of limit (more w (RecordBound h v)) a.lawful (subst Fits (sym (facts_through limit w h v a.lawful)) (fits_through h v (facts limit w) (fits_of limit w a)))

pub sound_let_go : (limit : ℕ) (w : Window) (h : ℕ) → IsSound limit w → IsSound limit (more w (Unbind h))
sound_let_go limit w h a = sound_of limit (more w (Unbind h)) a.lawful (subst Fits (sym (facts_let_go limit w h a.lawful)) (fits_let_go h (facts limit w) (fits_of limit w a)))

-- ======== a window that begins ========
abbrev pub starting : Start → Window
starting start = record { start = start; events = [] }

pub facts_start : (limit : ℕ) (start : Start) → facts limit (starting start) ≡ (start.sets, start.uncounted, [], start.held)
facts_start limit start =
    let zero_le : 0 ≤ room limit start = omega arith in
    λ i. ((open_sets limit start [] zero_le ∙ append-nil start.sets) i, open_flag limit start [] zero_le i, [], start.held)

pub sound_start : (limit : ℕ) (start : Start) → IsLawful start → AreHandlesPlaced start.sets start.held → IsSound limit (starting start)
sound_start limit start l h = sound_of limit (starting start) l (subst Fits (sym (facts_start limit start)) (record { over = l; hits = λ x e m. refl; helds = h }))
