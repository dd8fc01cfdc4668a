-- One event on both sides: the machine's state is the summary of the window.
use Rattle.std.proofs.Common.{◌≡◌, ◌⊎◌, inl, inr, ⊎_elim, ℕ, List, [], ◌∷◌, ◌++◌, length, Bool, true, false, cond, ◌||◌, refl, sym, ap, ◌∙◌, subst}
use Rattle.std.specs.Prelude.{nat_lt}
use Rattle.std.proofs.lemmas.Bool.{cases_Bool}
use Rattle.std.proofs.lemmas.List.{append-nil}
use Rattle.otel_common.specs.Equality.{set_eq}
use Rattle.otel_model_stream.specs.Sets.{AttributeSet, none_set, over_set}
use Rattle.otel_model_stream.specs.Folds.{Aggregate}
use Rattle.otel_model_stream.specs.Events.{Event, Record, Bind, RecordBound, Unbind, Collect}
use Rattle.otel_model_stream.specs.Machine.{Machine}
use Rattle.otel_model_stream.specs.Windows.{Window, is_in, mentions, sets_that_count, goal, live_handles, records, places_of, uncounted_of, goal_of, live_of, records_of, more}
use Rattle.otel_model_stream.proofs.Sets.{set_eq_self}
use Rattle.otel_model_stream.proofs.Lists.{is_in_here, same_eq, is_in_left, is_in_right}
use Rattle.otel_model_stream.proofs.Places.{grown_by, grown, IsLawful}
use Rattle.otel_model_stream.proofs.Build.{target, built, AreHitsPlaced, AreHandlesPlaced}
use Rattle.otel_model_stream.proofs.Goals.{target_over, goal_stays, mentions-append, live-append, records-append, Agree, live_agree, records_agree}

-- the machine's state in this window
abbrev pub summary : Aggregate → ℕ → Window → Machine
summary σ limit w = built σ (places_of limit w) (uncounted_of limit w) (records_of limit w) (live_of limit w)

pub record IsSound (limit : ℕ) (w : Window) : Type 0 where
  pub lawful : IsLawful w.start
  pub over : uncounted_of limit w ≡ true → is_in over_set (places_of limit w) ≡ true
  pub hits : AreHitsPlaced (places_of limit w) (records_of limit w)
  pub helds : AreHandlesPlaced (places_of limit w) (live_of limit w)

-- ======== what a mention does to the places ========
pub grown_keeps : (limit : ℕ) (s : AttributeSet) (p : List AttributeSet) (u : Bool) (x : AttributeSet) → is_in x p ≡ true → is_in x (grown limit s p u).0 ≡ true
grown_keeps limit s p u x m = go (set_eq s none_set) (is_in s p) (nat_lt (length (sets_that_count u p)) limit) (is_in over_set p)
  where
    go : (a b c d : Bool) → is_in x (grown_by a b c d s p u).0 ≡ true
    go true b c d = m
    go false true c d = m
    go false false true d = is_in_left x p (s ∷ []) m
    go false false false true = m
    go false false false false = is_in_left x p (over_set ∷ []) m

pub grown_over : (limit : ℕ) (s : AttributeSet) (p : List AttributeSet) (u : Bool) → (u ≡ true → is_in over_set p ≡ true) → (grown limit s p u).1 ≡ true → is_in over_set (grown limit s p u).0 ≡ true
grown_over limit s p u h = go (set_eq s none_set) (is_in s p) (nat_lt (length (sets_that_count u p)) limit) (is_in over_set p)
  where
    go : (a b c d : Bool) → (grown_by a b c d s p u).1 ≡ true → is_in over_set (grown_by a b c d s p u).0 ≡ true
    go true b c d = h
    go false true c d = h
    go false false true d = λ e. is_in_left over_set p (s ∷ []) (h e)
    go false false false true = h
    go false false false false = λ e. is_in_right over_set p (over_set ∷ []) is_in_here

-- the entry that s uses is there
abbrev pub Lands : List AttributeSet → AttributeSet → Type 0
Lands p x = (set_eq x none_set ≡ true) ⊎ (is_in x p ≡ true)

here : (s : AttributeSet) (ms : List AttributeSet) → is_in s (s ∷ ms) ≡ true
here s ms = ap (λ b. b || is_in s ms) (same_eq s s refl)

target_in : (p : List AttributeSet) (s : AttributeSet) → set_eq s none_set ≡ false → is_in s p ≡ true → target p s ≡ s
target_in p s e f = ap (λ b. cond b none_set (cond (is_in s p) s over_set)) e ∙ ap (λ b. cond b s over_set) f

target_out : (p : List AttributeSet) (s : AttributeSet) → set_eq s none_set ≡ false → is_in s p ≡ false → target p s ≡ over_set
target_out p s e f = ap (λ b. cond b none_set (cond (is_in s p) s over_set)) e ∙ ap (λ b. cond b s over_set) f

pub lands : (limit : ℕ) (s : AttributeSet) (p : List AttributeSet) (u : Bool) → Lands (grown limit s p u).0 (target (grown limit s p u).0 s)
lands limit s p u = ⊎_elim at_none at_set (cases_Bool (set_eq s none_set))
  where
    at_none : set_eq s none_set ≡ true → Lands (grown limit s p u).0 (target (grown limit s p u).0 s)
    at_none e = inl (ap (λ b. set_eq (cond b none_set (cond (is_in s (grown limit s p u).0) s over_set)) none_set) e ∙ set_eq_self none_set)

    go : (b c d : Bool) → set_eq s none_set ≡ false → is_in s p ≡ b → is_in over_set p ≡ d
        → Lands (grown_by false b c d s p u).0 (target (grown_by false b c d s p u).0 s)
    go true c d e f g = inr (ap (λ x. is_in x p) (target_in p s e f) ∙ f)
    go false true d e f g = let m = is_in_right s p (s ∷ []) (here s []) in inr (ap (λ x. is_in x (p ++ s ∷ [])) (target_in (p ++ s ∷ []) s e m) ∙ m)
    go false false true e f g = inr (ap (λ x. is_in x p) (target_out p s e f) ∙ g)
    go false false false e f g = inr (ap (λ x. is_in x (p ++ over_set ∷ [])) (target_over p s ∙ target_out p s e f) ∙ is_in_right over_set p (over_set ∷ []) is_in_here)

    at_set : set_eq s none_set ≡ false → Lands (grown limit s p u).0 (target (grown limit s p u).0 s)
    at_set e =
        let free : Bool = nat_lt (length (sets_that_count u p)) limit in
        subst (λ a. Lands (grown_by a (is_in s p) free (is_in over_set p) s p u).0 (target (grown_by a (is_in s p) free (is_in over_set p) s p u).0 s)) (sym e)
        (go (is_in s p) free (is_in over_set p) e refl refl)

-- ======== records and handles, one event more ========
agrees : (limit : ℕ) (w : Window) (e : Event) → IsLawful w.start → Agree (goal_of limit (more w e)) (goal_of limit w) w.events
agrees limit w e lawful s m = ap (λ ms. goal limit w.start ms s) (mentions-append w.events (e ∷ [])) ∙ go e
  where
    quiet : goal limit w.start (mentions w.events ++ []) s ≡ goal limit w.start (mentions w.events) s
    quiet = ap (λ ms. goal limit w.start ms s) (append-nil (mentions w.events))

    go : (e : Event) → goal limit w.start (mentions w.events ++ mentions (e ∷ [])) s ≡ goal limit w.start (mentions w.events) s
    go (Record t v) = goal_stays limit w.start (mentions w.events) t s lawful m
    go (Bind h t) = goal_stays limit w.start (mentions w.events) t s lawful m
    go (RecordBound h v) = quiet
    go (Unbind h) = quiet
    go Collect = quiet

pub live_more : (limit : ℕ) (w : Window) (e : Event) → IsLawful w.start → live_of limit (more w e) ≡ live_handles (goal_of limit (more w e)) (live_of limit w) (e ∷ [])
live_more limit w e lawful =
    live-append (goal_of limit (more w e)) w.start.held w.events (e ∷ [])
    ∙ ap (λ hs. live_handles (goal_of limit (more w e)) hs (e ∷ [])) (live_agree (goal_of limit (more w e)) (goal_of limit w) w.start.held w.events (agrees limit w e lawful))

pub records_more : (limit : ℕ) (w : Window) (e : Event) → IsLawful w.start → records_of limit (more w e) ≡ records_of limit w ++ records (goal_of limit (more w e)) (live_of limit w) (e ∷ [])
records_more limit w e lawful =
    records-append (goal_of limit (more w e)) w.start.held w.events (e ∷ [])
    ∙ (λ i. records_agree (goal_of limit (more w e)) (goal_of limit w) w.start.held w.events (agrees limit w e lawful) i
    ++ records (goal_of limit (more w e)) (live_agree (goal_of limit (more w e)) (goal_of limit w) w.start.held w.events (agrees limit w e lawful) i) (e ∷ []))
