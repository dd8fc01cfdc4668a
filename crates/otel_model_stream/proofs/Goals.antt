-- Goals stay as the window goes on, and so do the records and the live handles.
use Rattle.std.proofs.Common.{◌≡◌, ◌⊎◌, ⊎_elim, ℕ, ◌<◌, ◌≤◌, List, [], ◌∷◌, ◌++◌, length, Bool, true, false, cond, ◌||◌, refl, sym, ap, ◌∙◌, arith, append_assoc}
use Rattle.std.specs.Prelude.{nat_lt}
use Rattle.std.proofs.lemmas.Bool.{false≢true, true≢false, cases_Bool, cases_lt, ltb-true, or_cases}
use Rattle.std.proofs.lemmas.List.{append-nil}
use Rattle.otel_common.specs.Equality.{set_eq}
use Rattle.otel_model_stream.specs.Sets.{AttributeSet, none_set, over_set}
use Rattle.otel_model_stream.specs.Events.{Event, Record, Bind, RecordBound, Unbind, Collect, Handles, held_by, without}
use Rattle.otel_model_stream.specs.Windows.{Start, is_in, mentions, newcomers, sets_that_count, room, admitted_sets, overflows, places, uncounted_now, goal, live_handles, records, by_handle}
use Rattle.otel_model_stream.proofs.Sets.{set_eq_true}
use Rattle.otel_model_stream.proofs.Lists.{same_eq, is_in-append, is_in_left, is_in_right, is_in_same, or_true}
use Rattle.otel_model_stream.proofs.Places.{grown_by, grown, full, open_sets, places_push, IsLawful, no_newcomer}
use Rattle.otel_model_stream.proofs.Build.{target}

-- an overflow place changes no target
pub target_over : (p : List AttributeSet) (s : AttributeSet) → target (p ++ over_set ∷ []) s ≡ target p s
target_over p s = ap (λ b. cond (set_eq s none_set) none_set (cond b s over_set)) (is_in-append s p (over_set ∷ [])) ∙ ap (λ t. cond (set_eq s none_set) none_set t) (go (is_in s p) (set_eq over_set s) (λ e. sym (set_eq_true over_set s e)))
  where
    go : (a b : Bool) → (b ≡ true → s ≡ over_set) → cond (a || (b || false)) s over_set ≡ cond a s over_set
    go true b f = refl
    go false true f = f refl
    go false false f = refl

pub goal_is_target : (limit : ℕ) (start : Start) (ms : List AttributeSet) (s : AttributeSet) → goal limit start ms s ≡ target (places limit start ms) s
goal_is_target limit start ms s = go (overflows limit start ms)
  where
    go : (b : Bool) → target (start.sets ++ admitted_sets limit start ms) s ≡ target ((start.sets ++ admitted_sets limit start ms) ++ cond b (over_set ∷ []) []) s
    go true = sym (target_over (start.sets ++ admitted_sets limit start ms) s)
    go false = ap (λ p. target p s) (sym (append-nil (start.sets ++ admitted_sets limit start ms)))

-- a set that was mentioned was there or is a newcomer
pub newcomers_has : (s : AttributeSet) (seen ms : List AttributeSet) → is_in s ms ≡ true → set_eq s none_set ≡ false → is_in s (seen ++ newcomers seen ms) ≡ true
newcomers_has s seen [] m e = absurd (false≢true m)
newcomers_has s seen (t ∷ ms) m e =
    go (set_eq t none_set) (is_in t seen)
    (λ a d. true≢false (sym (same_eq s none_set (sym (set_eq_true t s d) ∙ set_eq_true t none_set a)) ∙ e))
    (λ b d. sym (is_in_same t s seen d) ∙ b)
    (or_cases (set_eq t s) (is_in s ms) m)
    (λ h. newcomers_has s seen ms h e)
    (λ h. newcomers_has s (seen ++ t ∷ []) ms h e)
  where
    go : (a b : Bool) → (a ≡ true → set_eq t s ≡ true → ⊥) → (b ≡ true → set_eq t s ≡ true → is_in s seen ≡ true) → (set_eq t s ≡ true) ⊎ (is_in s ms ≡ true)
        → (is_in s ms ≡ true → is_in s (seen ++ newcomers seen ms) ≡ true)
        → (is_in s ms ≡ true → is_in s ((seen ++ t ∷ []) ++ newcomers (seen ++ t ∷ []) ms) ≡ true)
        → is_in s (seen ++ cond (a || b) (newcomers seen ms) (t ∷ newcomers (seen ++ t ∷ []) ms)) ≡ true
    go true b f g w ih ih' = ⊎_elim (λ d. absurd (f refl d)) ih w
    go false true f g w ih ih' = ⊎_elim (λ d. is_in_left s seen (newcomers seen ms) (g refl d)) ih w
    go false false f g w ih ih' = ⊎_elim
        (λ d. is_in_right s seen (t ∷ newcomers (seen ++ t ∷ []) ms) (ap (λ b. b || is_in s (newcomers (seen ++ t ∷ []) ms)) d))
        (λ h. ap (is_in s) (sym (append_assoc seen (t ∷ []) (newcomers (seen ++ t ∷ []) ms))) ∙ ih' h)
        w

pub stable : (limit : ℕ) (t : AttributeSet) (p : List AttributeSet) (u : Bool) (s : AttributeSet) → (set_eq s none_set ≡ false → is_in s p ≡ false → limit ≤ length (sets_that_count u p)) → target (grown limit t p u).0 s ≡ target p s
stable limit t p u s settled = go (set_eq t none_set) (is_in t p) (nat_lt (length (sets_that_count u p)) limit) (is_in over_set p) (λ e. kept (ltb-true (length (sets_that_count u p)) limit e))
  where
    kept : length (sets_that_count u p) < limit → target (p ++ t ∷ []) s ≡ target p s
    kept l = ⊎_elim (λ e. rw e refl) (λ e. ⊎_elim (λ f. rw (is_in_left s p (t ∷ []) f, f) refl) (λ f. absurd (omega (arith, settled e f))) (cases_Bool (is_in s p))) (cases_Bool (set_eq s none_set))

    go : (a b c d : Bool) → (c ≡ true → target (p ++ t ∷ []) s ≡ target p s) → target (grown_by a b c d t p u).0 s ≡ target p s
    go true b c d f = refl
    go false true c d f = refl
    go false false true d f = f refl
    go false false false true f = refl
    go false false false false f = target_over p s

-- the goal of a set that was mentioned stays
pub goal_stays : (limit : ℕ) (start : Start) (ms : List AttributeSet) (t s : AttributeSet) → IsLawful start → is_in s ms ≡ true → goal limit start (ms ++ t ∷ []) s ≡ goal limit start ms s
goal_stays limit start ms t s lawful m =
    goal_is_target limit start (ms ++ t ∷ []) s
    ∙ (ap (λ q. target q.0 s) (places_push limit start ms t lawful)
    ∙ (stable limit t (places limit start ms) (uncounted_now limit start ms) s settled
    ∙ sym (goal_is_target limit start ms s)))
  where
    n : List AttributeSet
    n = newcomers start.sets ms

    settled : set_eq s none_set ≡ false → is_in s (places limit start ms) ≡ false → limit ≤ length (sets_that_count (uncounted_now limit start ms) (places limit start ms))
    settled e f = ⊎_elim
        (λ h. (full limit start (newcomers start.sets ms) h (λ u. no_newcomer over_set start.sets ms (lawful u))).1)
        (λ h. absurd (true≢false (sym (newcomers_has s start.sets ms m e) ∙ (ap (is_in s) (sym (open_sets limit start (newcomers start.sets ms) h)) ∙ f))))
        (cases_lt (room limit start) (length (newcomers start.sets ms)))

-- ======== records and live handles, one event more, and at other goals ========
pub mentions-append : (es fs : List Event) → mentions (es ++ fs) ≡ mentions es ++ mentions fs
mentions-append [] fs = refl
mentions-append (Record s v ∷ es) fs = ap (λ l. s ∷ l) (mentions-append es fs)
mentions-append (Bind h s ∷ es) fs = ap (λ l. s ∷ l) (mentions-append es fs)
mentions-append (RecordBound h v ∷ es) fs = mentions-append es fs
mentions-append (Unbind h ∷ es) fs = mentions-append es fs
mentions-append (Collect ∷ es) fs = mentions-append es fs

pub live-append : (g : AttributeSet → AttributeSet) (hs : Handles) (es fs : List Event) → live_handles g hs (es ++ fs) ≡ live_handles g (live_handles g hs es) fs
live-append g hs [] fs = refl
live-append g hs (Record s v ∷ es) fs = live-append g hs es fs
live-append g hs (Bind h s ∷ es) fs = live-append g (hs ++ (h, g s) ∷ []) es fs
live-append g hs (RecordBound h v ∷ es) fs = live-append g hs es fs
live-append g hs (Unbind h ∷ es) fs = live-append g (without h hs) es fs
live-append g hs (Collect ∷ es) fs = live-append g hs es fs

pub records-append : (g : AttributeSet → AttributeSet) (hs : Handles) (es fs : List Event) → records g hs (es ++ fs) ≡ records g hs es ++ records g (live_handles g hs es) fs
records-append g hs [] fs = refl
records-append g hs (Record s v ∷ es) fs = ap (λ l. (g s, v) ∷ l) (records-append g hs es fs)
records-append g hs (Bind h s ∷ es) fs = records-append g (hs ++ (h, g s) ∷ []) es fs
records-append g hs (RecordBound h v ∷ es) fs =
    ap (λ l. by_handle (held_by h hs) v ++ l) (records-append g hs es fs)
    ∙ sym (append_assoc (by_handle (held_by h hs) v) (records g hs es) (records g (live_handles g hs es) fs))
records-append g hs (Unbind h ∷ es) fs = records-append g (without h hs) es fs
records-append g hs (Collect ∷ es) fs = records-append g hs es fs

-- two goals that agree at what the events mention
abbrev pub Agree : (AttributeSet → AttributeSet) → (AttributeSet → AttributeSet) → List Event → Type 0
Agree g g' es = (s : AttributeSet) → is_in s (mentions es) ≡ true → g s ≡ g' s

here : (s : AttributeSet) (ms : List AttributeSet) → is_in s (s ∷ ms) ≡ true
here s ms = ap (λ b. b || is_in s ms) (same_eq s s refl)

later : (g g' : AttributeSet → AttributeSet) (t : AttributeSet) (es : List Event) → ((s : AttributeSet) → is_in s (t ∷ mentions es) ≡ true → g s ≡ g' s) → Agree g g' es
later g g' t es a s m = a s (ap (λ b. set_eq t s || b) m ∙ or_true (set_eq t s))

pub live_agree : (g g' : AttributeSet → AttributeSet) (hs : Handles) (es : List Event) → Agree g g' es → live_handles g hs es ≡ live_handles g' hs es
live_agree g g' hs [] a = refl
live_agree g g' hs (Record s v ∷ es) a = live_agree g g' hs es (later g g' s es a)
live_agree g g' hs (Bind h s ∷ es) a =
    ap (λ x. live_handles g (hs ++ (h, x) ∷ []) es) (a s (here s (mentions es))) ∙ live_agree g g' (hs ++ (h, g' s) ∷ []) es (later g g' s es a)
live_agree g g' hs (RecordBound h v ∷ es) a = live_agree g g' hs es a
live_agree g g' hs (Unbind h ∷ es) a = live_agree g g' (without h hs) es a
live_agree g g' hs (Collect ∷ es) a = live_agree g g' hs es a

pub records_agree : (g g' : AttributeSet → AttributeSet) (hs : Handles) (es : List Event) → Agree g g' es → records g hs es ≡ records g' hs es
records_agree g g' hs [] a = refl
records_agree g g' hs (Record s v ∷ es) a = λ i. (a s (here s (mentions es)) i, v) ∷ records_agree g g' hs es (later g g' s es a) i
records_agree g g' hs (Bind h s ∷ es) a =
    ap (λ x. records g (hs ++ (h, x) ∷ []) es) (a s (here s (mentions es))) ∙ records_agree g g' (hs ++ (h, g' s) ∷ []) es (later g g' s es a)
records_agree g g' hs (RecordBound h v ∷ es) a = ap (λ l. by_handle (held_by h hs) v ++ l) (records_agree g g' hs es a)
records_agree g g' hs (Unbind h ∷ es) a = records_agree g g' (without h hs) es a
records_agree g g' hs (Collect ∷ es) a = records_agree g g' hs es a
