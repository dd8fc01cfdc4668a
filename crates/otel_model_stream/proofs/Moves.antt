-- The machine moves as its window does, event by event.
use Rattle.std.proofs.Common.{◌≡◌, Option, Some, None, ℕ, List, [], ◌∷◌, ◌++◌, Bool, true, false, cond, refl, sym, ap, ◌∙◌}
use Rattle.std.specs.Prelude.{◌==◌}
use Rattle.std.proofs.lemmas.List.{append-nil}
use Rattle.otel_model_stream.specs.Sets.{AttributeSet, none_set, over_set}
use Rattle.otel_model_stream.specs.Folds.{Aggregate, Amount, empty_of, sample_of}
use Rattle.otel_model_stream.specs.Events.{Event, Record, Bind, RecordBound, Unbind, Handles, held_by, without}
use Rattle.otel_model_stream.specs.Entries.{write, at_entry, place, recorded_at}
use Rattle.otel_model_stream.specs.Machine.{Machine, hold, bind_handle, through, let_go}
use Rattle.otel_model_stream.specs.Windows.{Window, is_in, mentions, newcomers, by_handle, places_of, uncounted_of, goal_of, live_of, records_of, more}
use Rattle.otel_model_stream.proofs.Places.{Grown, grown, both, places_push, IsLawful}
use Rattle.otel_model_stream.proofs.Build.{Pairs, target, item, table_of, built, goal_built, writes, holds, lets_go, AreHitsPlaced, AreHandlesPlaced, places_one}
use Rattle.otel_model_stream.proofs.Goals.{goal_is_target, mentions-append}
use Rattle.otel_model_stream.proofs.Steps.{summary, IsSound, live_more, records_more}

-- what a summary is made of: places, flag, records and live handles
abbrev pub Facts : Type 0
Facts = List AttributeSet × Bool × Pairs × Handles

abbrev pub facts : ℕ → Window → Facts
facts limit w = (places_of limit w, uncounted_of limit w, records_of limit w, live_of limit w)

abbrev pub made_of : Aggregate → Facts → Machine
made_of σ f = built σ f.0 f.1 f.2 f.3

abbrev pub mention_facts : ℕ → AttributeSet → Facts → Facts
mention_facts limit s f = ((grown limit s f.0 f.1).0, (grown limit s f.0 f.1).1, f.2, f.3)

abbrev pub recorded_facts : AttributeSet → Amount → Facts → Facts
recorded_facts s v f = (f.0, f.1, f.2 ++ (target f.0 s, v) ∷ [], f.3)

abbrev pub bound_facts : ℕ → AttributeSet → Facts → Facts
bound_facts h s f = (f.0, f.1, f.2, f.3 ++ (h, target f.0 s) ∷ [])

abbrev pub through_facts : ℕ → Amount → Facts → Facts
through_facts h v f = (f.0, f.1, f.2 ++ by_handle (held_by h f.3) v, f.3)

abbrev pub let_go_facts : ℕ → Facts → Facts
let_go_facts h f = (f.0, f.1, f.2, without h f.3)

-- ======== the machine ========
-- a mention places its set
places_mention : (σ : Aggregate) (limit : ℕ) (s : AttributeSet) (p : List AttributeSet) (u : Bool) (rs : Pairs) (hs : Handles) → (u ≡ true → is_in over_set p ≡ true) → AreHitsPlaced p rs → AreHandlesPlaced p hs
    → place limit (empty_of σ) s (table_of σ p u rs hs) ≡ table_of σ (grown limit s p u).0 (grown limit s p u).1 rs hs
places_mention σ limit s p u rs hs over hits helds = λ i. record { none = item σ false rs hs none_set; entries = places_one σ limit s p u rs hs over hits helds i }

moves_record : (σ : Aggregate) (limit : ℕ) (s : AttributeSet) (v : Amount) (p : List AttributeSet) (u : Bool) (rs : Pairs) (hs : Handles) → (u ≡ true → is_in over_set p ≡ true) → AreHitsPlaced p rs → AreHandlesPlaced p hs
    → recorded_at s (sample_of σ v) (place limit (empty_of σ) s (table_of σ p u rs hs)) ≡ table_of σ (grown limit s p u).0 (grown limit s p u).1 (rs ++ (target (grown limit s p u).0 s, v) ∷ []) hs
moves_record σ limit s v p u rs hs over hits helds =
    let q : Grown = grown limit s p u in
    ap (recorded_at s (sample_of σ v)) (places_mention σ limit s p u rs hs over hits helds)
    ∙ (ap (λ g. at_entry g (write (sample_of σ v)) (table_of σ q.0 q.1 rs hs)) (goal_built σ q.0 q.1 rs hs s)
    ∙ writes σ q.0 q.1 rs hs (target q.0 s) v)

moves_bind : (σ : Aggregate) (limit h : ℕ) (s : AttributeSet) (p : List AttributeSet) (u : Bool) (rs : Pairs) (hs : Handles) → (u ≡ true → is_in over_set p ≡ true) → AreHitsPlaced p rs → AreHandlesPlaced p hs
    → bind_handle h s (record { table = place limit (empty_of σ) s (table_of σ p u rs hs); live = hs }) ≡ built σ (grown limit s p u).0 (grown limit s p u).1 rs (hs ++ (h, target (grown limit s p u).0 s) ∷ [])
moves_bind σ limit h s p u rs hs over hits helds =
    let q : Grown = grown limit s p u in
    ap (λ t. bind_handle h s (record { table = t; live = hs })) (places_mention σ limit s p u rs hs over hits helds)
    ∙ (ap (λ g. hold h g (built σ q.0 q.1 rs hs)) (goal_built σ q.0 q.1 rs hs s)
    ∙ holds σ q.0 q.1 rs hs h (target q.0 s))

moves_through : (σ : Aggregate) (o : Option AttributeSet) (v : Amount) (p : List AttributeSet) (u : Bool) (rs : Pairs) (hs : Handles) → through o (sample_of σ v) (built σ p u rs hs) ≡ built σ p u (rs ++ by_handle o v) hs
moves_through σ None v p u rs hs = ap (λ l. built σ p u l hs) (sym (append-nil rs))
moves_through σ (Some g) v p u rs hs = ap (λ t. record { table = t; live = hs }) (writes σ p u rs hs g v)

without_none : (h : ℕ) (hs : Handles) → held_by h hs ≡ None → without h hs ≡ hs
without_none h [] e = refl
without_none h (q ∷ hs) e = go (q.0 == h) e (without_none h hs)
  where
    go : (b : Bool) → cond b (Some q.1) (held_by h hs) ≡ None → (held_by h hs ≡ None → without h hs ≡ hs) → cond b hs (q ∷ without h hs) ≡ q ∷ hs
    go true e ih = absurd (cc)
    go false e ih = ap (λ l. q ∷ l) (ih e)

moves_let_go : (σ : Aggregate) (o : Option AttributeSet) (h : ℕ) (p : List AttributeSet) (u : Bool) (rs : Pairs) (hs : Handles) → held_by h hs ≡ o → let_go o h (built σ p u rs hs) ≡ built σ p u rs (without h hs)
moves_let_go σ None h p u rs hs e = ap (λ l. built σ p u rs l) (sym (without_none h hs e))
moves_let_go σ (Some g) h p u rs hs e = lets_go σ p u rs hs h g e

-- ======== the window ========
-- the places after an event
abbrev pub now : ℕ → Window → Event → List AttributeSet × Bool
now limit w e = (places_of limit (more w e), uncounted_of limit (more w e))

now_mention : (limit : ℕ) (w : Window) (e : Event) (s : AttributeSet) → mentions (e ∷ []) ≡ s ∷ [] → IsLawful w.start → now limit w e ≡ grown limit s (places_of limit w) (uncounted_of limit w)
now_mention limit w e s m lawful =
    ap (λ ms. both limit w.start (newcomers w.start.sets ms)) (mentions-append w.events (e ∷ []) ∙ ap (λ l. mentions w.events ++ l) m)
    ∙ places_push limit w.start (mentions w.events) s lawful

now_quiet : (limit : ℕ) (w : Window) (e : Event) → mentions (e ∷ []) ≡ [] → now limit w e ≡ (places_of limit w, uncounted_of limit w)
now_quiet limit w e m =
    ap (λ ms. both limit w.start (newcomers w.start.sets ms)) (mentions-append w.events (e ∷ []) ∙ (ap (λ l. mentions w.events ++ l) m ∙ append-nil (mentions w.events)))

-- the goal of what is mentioned now
goal_now : (limit : ℕ) (w : Window) (e : Event) (s : AttributeSet) → mentions (e ∷ []) ≡ s ∷ [] → IsLawful w.start → goal_of limit (more w e) s ≡ target (grown limit s (places_of limit w) (uncounted_of limit w)).0 s
goal_now limit w e s m lawful = goal_is_target limit w.start (mentions (w.events ++ e ∷ [])) s ∙ ap (λ (q : Grown). target q.0 s) (now_mention limit w e s m lawful)

-- what the summary is made of, after each event
pub facts_record : (limit : ℕ) (w : Window) (s : AttributeSet) (v : Amount) → IsLawful w.start → facts limit (more w (Record s v)) ≡ recorded_facts s v (mention_facts limit s (facts limit w))
facts_record limit w s v lawful =
    let q = now_mention limit w (Record s v) s refl lawful in
    let rs : records_of limit (more w (Record s v)) ≡ records_of limit w ++ (target (grown limit s (places_of limit w) (uncounted_of limit w)).0 s, v) ∷ []
    = records_more limit w (Record s v) lawful ∙ ap (λ g. records_of limit w ++ (g, v) ∷ []) (goal_now limit w (Record s v) s refl lawful) in
    let hs : live_of limit (more w (Record s v)) ≡ live_of limit w = live_more limit w (Record s v) lawful in
    λ i. ((q i).0, (q i).1, rs i, hs i)

pub facts_bind : (limit : ℕ) (w : Window) (h : ℕ) (s : AttributeSet) → IsLawful w.start → facts limit (more w (Bind h s)) ≡ bound_facts h s (mention_facts limit s (facts limit w))
facts_bind limit w h s lawful =
    let q = now_mention limit w (Bind h s) s refl lawful in
    let rs : records_of limit (more w (Bind h s)) ≡ records_of limit w = records_more limit w (Bind h s) lawful ∙ append-nil (records_of limit w) in
    let hs : live_of limit (more w (Bind h s)) ≡ live_of limit w ++ (h, target (grown limit s (places_of limit w) (uncounted_of limit w)).0 s) ∷ []
    = live_more limit w (Bind h s) lawful ∙ ap (λ g. live_of limit w ++ (h, g) ∷ []) (goal_now limit w (Bind h s) s refl lawful) in
    λ i. ((q i).0, (q i).1, rs i, hs i)

pub facts_through : (limit : ℕ) (w : Window) (h : ℕ) (v : Amount) → IsLawful w.start → facts limit (more w (RecordBound h v)) ≡ through_facts h v (facts limit w)
facts_through limit w h v lawful =
    let q = now_quiet limit w (RecordBound h v) refl in
    let rs : records_of limit (more w (RecordBound h v)) ≡ records_of limit w ++ by_handle (held_by h (live_of limit w)) v
    = records_more limit w (RecordBound h v) lawful ∙ ap (λ l. records_of limit w ++ l) (append-nil (by_handle (held_by h (live_of limit w)) v)) in
    let hs : live_of limit (more w (RecordBound h v)) ≡ live_of limit w = live_more limit w (RecordBound h v) lawful in
    λ i. ((q i).0, (q i).1, rs i, hs i)

pub facts_let_go : (limit : ℕ) (w : Window) (h : ℕ) → IsLawful w.start → facts limit (more w (Unbind h)) ≡ let_go_facts h (facts limit w)
facts_let_go limit w h lawful =
    let q = now_quiet limit w (Unbind h) refl in
    let rs : records_of limit (more w (Unbind h)) ≡ records_of limit w = records_more limit w (Unbind h) lawful ∙ append-nil (records_of limit w) in
    let hs : live_of limit (more w (Unbind h)) ≡ without h (live_of limit w) = live_more limit w (Unbind h) lawful in
    λ i. ((q i).0, (q i).1, rs i, hs i)

-- ======== both ========
pub step_record : (σ : Aggregate) (limit : ℕ) (w : Window) (s : AttributeSet) (v : Amount) → IsSound limit w
    → record (summary σ limit w) { table = recorded_at s (sample_of σ v) (place limit (empty_of σ) s (summary σ limit w).table) } ≡ summary σ limit (more w (Record s v))
step_record σ limit w s v sound =
    ap (λ t. record { table = t; live = live_of limit w }) (moves_record σ limit s v (places_of limit w) (uncounted_of limit w) (records_of limit w) (live_of limit w) sound.over sound.hits sound.helds)
    ∙ ap (made_of σ) (sym (facts_record limit w s v sound.lawful))

pub step_bind : (σ : Aggregate) (limit : ℕ) (w : Window) (h : ℕ) (s : AttributeSet) → IsSound limit w
    → bind_handle h s (record (summary σ limit w) { table = place limit (empty_of σ) s (summary σ limit w).table }) ≡ summary σ limit (more w (Bind h s))
step_bind σ limit w h s sound =
    moves_bind σ limit h s (places_of limit w) (uncounted_of limit w) (records_of limit w) (live_of limit w) sound.over sound.hits sound.helds
    ∙ ap (made_of σ) (sym (facts_bind limit w h s sound.lawful))

pub step_through : (σ : Aggregate) (limit : ℕ) (w : Window) (h : ℕ) (v : Amount) → IsSound limit w → through (held_by h (live_of limit w)) (sample_of σ v) (summary σ limit w) ≡ summary σ limit (more w (RecordBound h v))
step_through σ limit w h v sound = moves_through σ (held_by h (live_of limit w)) v (places_of limit w) (uncounted_of limit w) (records_of limit w) (live_of limit w) ∙ ap (made_of σ) (sym (facts_through limit w h v sound.lawful))

pub step_let_go : (σ : Aggregate) (limit : ℕ) (w : Window) (h : ℕ) → IsSound limit w → let_go (held_by h (live_of limit w)) h (summary σ limit w) ≡ summary σ limit (more w (Unbind h))
step_let_go σ limit w h sound = moves_let_go σ (held_by h (live_of limit w)) h (places_of limit w) (uncounted_of limit w) (records_of limit w) (live_of limit w) refl ∙ ap (made_of σ) (sym (facts_let_go limit w h sound.lawful))
