-- What a map's steps leave of what is known of its handles.
use Rattle.std.proofs.Common.{◌≡◌, ℕ, Bool, true, false, cond, not, ◌&&◌, ◌||◌, ◌+◌, List, [], ◌∷◌, ◌++◌, drop, fold, Option, Some, None, Result, Ok, Err, ◌⊎◌, inl, inr, is_some, refl, sym, ap, subst, ◌∙◌, nat_eq, true≢false, slice_get}
use Rattle.std.specs.Prelude.{IsSome, OnOk, OnErr, is_none, ◌==◌}
use Rattle.std.proofs.Math.Bool.{and-false}
use Rattle.std.specs.Bool.{beq}
use Rattle.std.specs.List.{AllByRecursion, list_all}
use Rattle.std.specs.Map.{lookup}
use Rattle.std.specs.Option.{option_map}
use Rattle.std.proofs.lemmas.Bool.{and_parts}
use Rattle.std.proofs.lemmas.List.{map-append}
use Rattle.otel_common.specs.Canonical.{canon}
use Rattle.otel_common.specs.Equality.{set_eq}
use Rattle.otel_common.specs.declared.attributes.KeyValue.{KeyValue}
use Rattle.otel_data.specs.declared.numbers.NumberValue.{NumberValue}
use Rattle.otel_model_stream.specs.Sets.{AttributeSet, AllowList, none_set, set_of}
use Rattle.otel_model_stream.specs.Folds.{Amount, Sample, sample_of, wrap}
use Rattle.otel_model_stream.specs.Events.{Handles, held_by, without}
use Rattle.otel_model_stream.specs.Entries.{Table, entry_for, place, points, take_handle}
use Rattle.otel_model_stream.specs.Maps.{MapState, KnownMap, measured_map, measured_list, bound_map, bound_to, drained_map, updated_bound, unbound_map, evicted_map}
use Rattle.otel_model_stream.specs.Totals.{size, points_total}
use Rattle.otel_aggregate.specs.value_map.Contents.{MapContents, known_of, next_of}
use Rattle.otel_aggregate.specs.value_map.Numbers.{Numbers, number_of, set_named, is_placed, KeepNumbers, AreNamed, AreNumbered}
use Rattle.otel_aggregate.specs.Links.{Link, Linked, handle_of, handles_of, IsLinked, AreHeld}
use Rattle.otel_aggregate.specs.Any.{amount_of, any_after_collection, any_after_commits, any_with_commits, form_of, is_signed_value, observed_in, samples_of, with_observed, HaveOneType}
use Rattle.otel_aggregate.specs.Kept.{IsKeptMap, IsKeptStream, IsWithin}
use Rattle.otel_aggregate.specs.Observed.{drained_at}
use Rattle.otel_aggregate.specs.Streams.{AggregateContents, points_now, recorded_set, recorded_attributes, taken_from, stream_after_commit, bind_of, stream_after_bind, update_at, stream_after_update, unbind_at, stream_after_unbind}
use Rattle.otel_aggregate.proofs.All.{all-append}
use Rattle.otel_aggregate.proofs.KeptLemmas.{kept-placed, kept-updated, reported-same}
use Rattle.otel_aggregate.proofs.ObservedLemmas.{drained-updated}
use Rattle.otel_aggregate.proofs.LinkLemmas.{LeadStill, lead-kept, lead-same, held-linked}
use Rattle.otel_aggregate.proofs.value_map.TableLemmas.{is_some-map}
use Rattle.otel_aggregate.proofs.HandleLemmas.{has-on, held-written, held-taken, held-placed}

-- ======== a record ========
-- a record of this sample is made, under some set or of some set's entry, or none is made
abbrev pub IsRecordOf : Sample → MapState → MapState → Type 0
IsRecordOf v old new = (new ≡ old) ⊎ ((s : AttributeSet) × ((new ≡ measured_map s v old) ⊎ (new ≡ updated_bound s v old)))

pub of-prepared : (old new : MapState) (pending : Option AttributeSet) (v : Sample) → IsSome pending → ((s : AttributeSet) → pending ≡ Some s → new ≡ measured_map s v old) → IsRecordOf v old new
of-prepared old new None v some is = absurd (true≢false (sym some))
of-prepared old new (Some s) v some is = inr (s, inl (is s refl))

pub of-listed : {T E : Type 0} (old new : MapContents) (l : List KeyValue) (v : Sample) (r : Result T E) → OnOk r (known_of new ≡ measured_list l v (known_of old)) → OnErr r (known_of new ≡ known_of old) → IsRecordOf v old.state new.state
of-listed old new l v (Ok t) is same = inr (canon l, inl (ap (λ (k : KnownMap). k.map_state) is))
of-listed old new l v (Err e) is same = inl (ap (λ (k : KnownMap). k.map_state) same)

-- the parts of a stream go together still if its handles lead where they led
pub stream-recorded : {s now : AggregateContents} → s ≡ now → (value : NumberValue) (v : Sample) (was new : MapContents) (live : Linked) (reported : Option MapState) → IsWithin now.is_signed (amount_of value).wide → v ≡ sample_of s.state.aggregate (amount_of value)
    → IsRecordOf v was.state new.state → LeadStill was.numbers new.numbers live.entries → IsKeptStream s.is_signed (form_of s.state.aggregate) was live s.room reported → IsKeptStream s.is_signed (form_of s.state.aggregate) new live s.room reported
stream-recorded {s} {now} seen value v was new live reported within sampled made lead h =
    let is = by made in
    (lead.0, subst (AreHeld new.state.table) (sym lead.1) is.0, h.2, is.1, reported-same (form_of s.state.aggregate) was.state new.state live.entries s.room reported is.2 h.4)
  where
    Kept : MapState → Type 0
    Kept m = AreHeld m.table (handles_of was.numbers live.entries) × IsKeptMap s.is_signed (form_of s.state.aggregate) m × (drained_map m ≡ drained_map was.state)

    wide : IsWithin s.is_signed v.wide
    wide = subst (λ (x : Sample). IsWithin s.is_signed x.wide) (sym sampled) (subst (λ (a : AggregateContents). IsWithin a.is_signed (amount_of value).wide) (sym seen) within)

    updated : (g : AttributeSet) (m : MapState) → Kept m → Kept (updated_bound g v m)
    updated g m x = (held-written m.table (handles_of was.numbers live.entries) g v x.0, kept-updated s.is_signed (form_of s.state.aggregate) g v m wide x.1, drained-updated g v m ∙ x.2)

    by : IsRecordOf v was.state new.state → Kept new.state
    by (inl e) = subst Kept (sym e) (h.1, h.3, refl)
    by (inr w) = elim w.1 [
      | inl e ↦
          let m : MapState = was.state in
          let placed : MapState = record m { table = place m.limit m.empty w.0 m.table } in
          subst Kept (sym e) (updated (entry_for w.0 placed.table.entries) placed (held-placed m.limit m.empty w.0 m.table (handles_of was.numbers live.entries) h.1, kept-placed s.is_signed (form_of s.state.aggregate) w.0 m h.3, refl))
      | inr e ↦ subst Kept (sym e) (updated w.0 was.state (h.1, h.3, refl))
    ]

-- ======== in a stream that takes the value ========
-- what is done to a stream of the value's number type
pub if-typed : {X : Type 0} {b : Bool} {new x : X} (old : X) → b ≡ true → new ≡ x → new ≡ cond b x old
if-typed {X} {b} {new} {x} old e is = is ∙ sym (ap (λ t. cond t x old) e)

-- what is done to a stream that no collection empties
pub if-undrained : {X : Type 0} {b : Bool} {new x : X} (old : X) → b ≡ false → new ≡ x → new ≡ cond b old x
if-undrained {X} {b} {new} {x} old e is = is ∙ sym (ap (λ t. cond t old x) e)

-- once the record that was prepared is made
pub taken-made : {s old : AggregateContents} → s ≡ old → (v : Amount) (w : Sample) (after : MapState) (live : Handles) (pending : List AttributeSet) (total : ℕ) → IsSome (next_of s.pending) → w ≡ sample_of s.state.aggregate v
    → ((x : AttributeSet) → next_of s.pending ≡ Some x → after ≡ measured_map x w s.state.map_state) → live ≡ s.live → pending ≡ [] → total ≡ wrap (s.state.recorded + size s.state.aggregate v)
    → record s { state = record s.state { map_state = after; recorded = total }; live = live; pending = pending } ≡ stream_after_commit v old
taken-made {s} {old} was v w after live pending total some sampled is same spent counted = by (next_of s.pending) refl some ∙ ap (stream_after_commit v) was
  where
    by : (o : Option AttributeSet) → next_of s.pending ≡ o → IsSome o → record s { state = record s.state { map_state = after; recorded = total }; live = live; pending = pending } ≡ stream_after_commit v s
    by None e t = absurd (true≢false (sym t))
    by (Some x) e t =
        (λ i. record s { state = record s.state { map_state = (is x e ∙ ap (λ z. measured_map x z s.state.map_state) sampled) i; recorded = counted i }; live = same i; pending = spent i })
        ∙ sym (ap (λ o. taken_from o v s) e)

-- once a record of attributes is made where there is no allow-list
pub listed-made : {s old : AggregateContents} → s ≡ old → (v : Amount) (w : Sample) (l : List KeyValue) (before after : MapContents) (live : Handles) (pending : List AttributeSet) (total : ℕ) → is_some s.state.allow ≡ false → before.state ≡ s.state.map_state
    → w ≡ sample_of s.state.aggregate v → known_of after ≡ measured_list l w (known_of before) → live ≡ s.live → pending ≡ [] → total ≡ wrap (s.state.recorded + size s.state.aggregate v)
    → record s { state = record s.state { map_state = after.state; recorded = total }; live = live; pending = pending } ≡ record old { state = recorded_attributes l v old.state; pending = [] }
listed-made {s} {old} was v w l before after live pending total whole at sampled is same spent counted =
    (λ i. record s { state = record s.state { map_state = map_is i; recorded = counted i }; live = same i; pending = spent i })
    ∙ by s.state.allow whole
    ∙ ap (λ (x : AggregateContents). record x { state = recorded_attributes l v x.state; pending = [] }) was
  where
    map_is : after.state ≡ measured_map (canon l) (sample_of s.state.aggregate v) s.state.map_state
    map_is = ap (λ (k : KnownMap). k.map_state) is ∙ λ i. measured_map (canon l) (sampled i) (at i)

    by : (allow : AllowList) → is_some allow ≡ false → record s { state = recorded_set (canon l) v s.state; pending = [] } ≡ record s { state = recorded_set (set_of allow l) v s.state; pending = [] }
    by None e = refl
    by (Some keys) e = absurd (true≢false e)

-- and one that is refused
pub listed-refused : {s old : AggregateContents} → s ≡ old → (before after : MapContents) (live : Handles) (pending : List AttributeSet) → before.state ≡ s.state.map_state → known_of after ≡ known_of before → live ≡ s.live → pending ≡ []
    → record s { state = record s.state { map_state = after.state }; live = live; pending = pending } ≡ record old { pending = [] }
listed-refused {s} {old} was before after live pending at is same spent =
    (λ i. record s { state = record s.state { map_state = (ap (λ (k : KnownMap). k.map_state) is ∙ at) i }; live = same i; pending = spent i })
    ∙ ap (λ (x : AggregateContents). record x { pending = [] }) was

-- once a stream that resets has ended a collection
pub collected-made : {s old : AggregateContents} → s ≡ old → (now : ℕ) (after : MapState) (live : Handles) (pending : List AttributeSet) (total : ℕ) → s.drains ≡ false → s.state.resets ≡ true → after ≡ evicted_map s.state.map_state → live ≡ s.live → pending ≡ []
    → total ≡ wrap (s.state.exported + points_total (points false s.state.map_state.table)) → record s { state = record s.state { map_state = after; start = now; exported = total }; live = live; pending = pending } ≡ any_after_collection now old
collected-made {s} {old} was now after live pending total undrained resets is same spent counted =
    (λ i. record s { state = record s.state { map_state = is i; start = now; exported = (counted ∙ ap (λ b. wrap (s.state.exported + points_total (points (not b) s.state.map_state.table))) (sym resets)) i }; live = same i; pending = spent i })
    ∙ sym (λ i. record (by_drains (undrained i) (resets i)) { pending = cond (undrained i || resets i) [] s.pending })
    ∙ ap (any_after_collection now) was
  where
    by_drains : Bool → Bool → AggregateContents
    by_drains b c = cond b (with_observed s (drained_at now (observed_in s))) (record s { state = cond c (record s.state { map_state = evicted_map s.state.map_state; start = now; exported = wrap (s.state.exported + points_total (points_now s.state)) }) s.state })

-- ======== a handle that is looked up ========
pub held-found : (ns : Numbers) (h : ℕ) (ps : List Link) (o : Option ℕ) → o ≡ lookup (nat_eq h) ps → held_by h (handles_of ns ps) ≡ option_map (λ n. set_named n ns) o
held-found ns h ps o e = held-linked ns h ps ∙ ap (option_map (λ n. set_named n ns)) (sym e)

-- whether it is live
pub held-some : (ns : Numbers) (h : ℕ) (ps : List Link) (o : Option ℕ) → o ≡ lookup (nat_eq h) ps → is_some (held_by h (handles_of ns ps)) ≡ is_some o
held-some ns h ps o e = ap is_some (held-found ns h ps o e) ∙ is_some-map (λ n. set_named n ns) o

pub held-none : (ns : Numbers) (h : ℕ) (ps : List Link) (o : Option ℕ) → o ≡ lookup (nat_eq h) ps → is_some o ≡ false → held_by h (handles_of ns ps) ≡ None
held-none ns h ps None e n = held-found ns h ps None e
held-none ns h ps (Some m) e n = absurd (true≢false n)

-- ======== a bind ========
-- what is known once a handle of the set that was prepared is made
pub record IsBound (before after : MapState) (pending : Option AttributeSet) (live : Handles) (new : Numbers) (links : List Link) (h : ℕ) : Type 0 where
  pub set : AttributeSet
  pub prepared : pending ≡ Some set
  pub state : after ≡ bound_map set before
  pub linked : AllByRecursion (IsLinked new) links
  pub held : AreHeld after.table (handles_of new links)
  pub handles : handles_of new links ≡ live ++ (h, bound_to set before) ∷ []

module _ (old new : Numbers) (before after : MapState) (ps : List Link) (h n : ℕ) (linked : AllByRecursion (IsLinked old) ps) (held : AreHeld before.table (handles_of old ps))
    (keep : KeepNumbers old new) (named : AreNamed new) (numbered : AreNumbered after.table.entries new) where
  bound-set : (s : AttributeSet) → after ≡ bound_map s before → number_of (bound_to s before) new ≡ Some n → IsBound before after (Some s) (handles_of old ps) new (ps ++ (h, n) ∷ []) h
  bound-set s is number = record {
    set = s;
    prepared = refl;
    state = is;
    linked = all-append (IsLinked new) ps ((h, n) ∷ []) lead.0 (ap (λ (x : AttributeSet). number_of x new) name ∙ number, tt);
    held = subst (AreHeld after.table) (sym handles)
        (subst (λ (m : MapState). AreHeld m.table (handles_of old ps ++ (h, bound_to s before) ∷ [])) (sym is)
        (held-taken placed (handles_of old ps) h (bound_to s before) there (held-placed before.limit before.empty s before.table (handles_of old ps) held)));
    handles = handles;
  }
    where
      placed : Table
      placed = place before.limit before.empty s before.table

      lead : LeadStill old new ps
      lead = lead-kept old new keep named ps linked

      name : set_named n new ≡ bound_to s before
      name = named (bound_to s before) n number

      handles : handles_of new (ps ++ (h, n) ∷ []) ≡ handles_of old ps ++ (h, bound_to s before) ∷ []
      handles = map-append (handle_of new) ps ((h, n) ∷ []) ∙ (λ i. lead.1 i ++ (h, name i) ∷ [])

      there : is_placed (bound_to s before) placed.entries ≡ true
      there =
          ap (λ b. set_eq (bound_to s before) none_set || b) (sym (has-on take_handle (λ e. refl) (bound_to s before) (bound_to s before) placed.entries))
          ∙ (ap (λ (m : MapState). is_placed (bound_to s before) m.table.entries) (sym is) ∙ (sym (numbered (bound_to s before)) ∙ ap is_some number))

  pub bound-prepared : (pending : Option AttributeSet) (qs : List Link) → IsSome pending → ((s : AttributeSet) → pending ≡ Some s → after ≡ bound_map s before)
      → ((s : AttributeSet) → pending ≡ Some s → number_of (bound_to s before) new ≡ Some n) → qs ≡ ps ++ (h, n) ∷ [] → IsBound before after pending (handles_of old ps) new qs h
  bound-prepared None qs some is number added = absurd (true≢false (sym some))
  bound-prepared (Some s) qs some is number added = subst (λ (rs : List Link). IsBound before after (Some s) (handles_of old ps) new rs h) (sym added) (bound-set s (is s refl) (number s refl))

pub bind-made : {s old : AggregateContents} → s ≡ old → (h : ℕ) (after : MapState) (new : Numbers) (links : List Link) (pending : List AttributeSet) → s.room ≡ true → held_by h s.live ≡ None → pending ≡ []
    → IsBound s.state.map_state after (next_of s.pending) s.live new links h → record s { state = record s.state { map_state = after }; live = handles_of new links; pending = pending; room = false } ≡ stream_after_bind h old
bind-made {s} {old} was h after new links pending room away spent made =
    (λ i. record s { state = record s.state { map_state = made.state i }; live = made.handles i; pending = spent i; room = false })
    ∙ sym (λ i. cond (room i && is_none (away i)) (bind_of (made.prepared i) h s) s)
    ∙ ap (stream_after_bind h) was

-- a bind that isn't made
pub no_bind-room : (s : AggregateContents) (h : ℕ) → s.room ≡ false → s ≡ stream_after_bind h s
no_bind-room s h e = ap (λ b. cond (b && is_none (held_by h s.live)) (bind_of (next_of s.pending) h s) s) (sym e)

pub no_bind-prepared : (s : AggregateContents) (h : ℕ) → is_some (next_of s.pending) ≡ false → s ≡ stream_after_bind h s
no_bind-prepared s h e = by (s.room && is_none (held_by h s.live)) (next_of s.pending) e
  where
    by : (b : Bool) (o : Option AttributeSet) → is_some o ≡ false → s ≡ cond b (bind_of o h s) s
    by true None e = refl
    by true (Some g) e = absurd (true≢false e)
    by false o e = refl

pub no_bind-live : (s : AggregateContents) (h : ℕ) → is_some (held_by h s.live) ≡ true → s ≡ stream_after_bind h s
no_bind-live s h e = ap (λ b. cond b (bind_of (next_of s.pending) h s) s) (sym (ap (λ b. s.room && not b) e ∙ and-false s.room))

-- ======== a record through a handle, and its end ========
-- a handle that isn't live
pub without-none : (h : ℕ) (hs : Handles) → held_by h hs ≡ None → without h hs ≡ hs
without-none h [] e = refl
without-none h (p ∷ hs) e = by (p.0 == h) e (without-none h hs)
  where
    by : (b : Bool) → cond b (Some p.1) (held_by h hs) ≡ None → (held_by h hs ≡ None → without h hs ≡ hs) → cond b hs (p ∷ without h hs) ≡ p ∷ hs
    by true e ih = absurd (cc)
    by false e ih = ap (λ (rs : Handles). p ∷ rs) (ih e)

pub update-made : {s old : AggregateContents} → s ≡ old → (h : ℕ) (g : AttributeSet) (v : Amount) (w : Sample) (after : MapState) (live : Handles) (pending : List AttributeSet) (total : ℕ) → held_by h s.live ≡ Some g → w ≡ sample_of s.state.aggregate v
    → after ≡ updated_bound g w s.state.map_state → live ≡ s.live → pending ≡ [] → total ≡ wrap (s.state.recorded + size s.state.aggregate v)
    → record s { state = record s.state { map_state = after; recorded = total }; live = live; pending = pending } ≡ stream_after_update h v old
update-made {s} {old} was h g v w after live pending total found sampled is same spent counted =
    (λ i. record s { state = record s.state { map_state = (is ∙ ap (λ x. updated_bound g x s.state.map_state) sampled) i; recorded = counted i }; live = same i; pending = spent i })
    ∙ sym (λ i. record s { state = update_at (found i) v s.state; pending = [] })
    ∙ ap (stream_after_update h v) was

pub update-none : {s old : AggregateContents} → s ≡ old → (h : ℕ) (v : Amount) (after : MapState) (live : Handles) (pending : List AttributeSet) → held_by h s.live ≡ None → after ≡ s.state.map_state → live ≡ s.live → pending ≡ []
    → record s { state = record s.state { map_state = after }; live = live; pending = pending } ≡ stream_after_update h v old
update-none {s} {old} was h v after live pending found is same spent =
    (λ i. record s { state = record s.state { map_state = is i }; live = same i; pending = spent i })
    ∙ sym (λ i. record s { state = update_at (found i) v s.state; pending = [] })
    ∙ ap (stream_after_update h v) was

pub unbind-made : {s old : AggregateContents} → s ≡ old → (h : ℕ) (g : AttributeSet) (after : MapState) (live : Handles) (pending : List AttributeSet) → held_by h s.live ≡ Some g → after ≡ unbound_map g s.state.map_state → live ≡ without h s.live → pending ≡ []
    → record s { state = record s.state { map_state = after }; live = live; pending = pending } ≡ stream_after_unbind h old
unbind-made {s} {old} was h g after live pending found is same spent =
    (λ i. record s { state = record s.state { map_state = is i }; live = same i; pending = spent i })
    ∙ sym (λ i. record s { state = unbind_at (found i) s.state; live = without h s.live; pending = [] })
    ∙ ap (stream_after_unbind h) was

pub unbind-none : {s old : AggregateContents} → s ≡ old → (h : ℕ) (after : MapState) (live : Handles) (pending : List AttributeSet) → held_by h s.live ≡ None → after ≡ s.state.map_state → live ≡ s.live → pending ≡ []
    → record s { state = record s.state { map_state = after }; live = live; pending = pending } ≡ stream_after_unbind h old
unbind-none {s} {old} was h after live pending found is same spent =
    (λ i. record s { state = record s.state { map_state = is i }; live = (same ∙ sym (without-none h s.live found)) i; pending = spent i })
    ∙ sym (λ i. record s { state = unbind_at (found i) s.state; live = without h s.live; pending = [] })
    ∙ ap (stream_after_unbind h) was

-- ======== records of several values ========
-- the parts of a stream go together still if its handles have their numbers still
pub stream-commits : {s now : AggregateContents} → s ≡ now → (x : AttributeSet) (values : List NumberValue) (was new : MapContents) (live : Linked) (reported : Option MapState) → AllByRecursion (λ value. IsWithin now.is_signed (amount_of value).wide) values
    → new.state ≡ fold (λ (m : MapState) (v : Sample). measured_map x v m) was.state (samples_of s.state.aggregate values) → new.numbers ≡ was.numbers
    → IsKeptStream s.is_signed (form_of s.state.aggregate) was live s.room reported → IsKeptStream s.is_signed (form_of s.state.aggregate) new live s.room reported
stream-commits {s} {now} seen x values was new live reported within made numbers h =
    subst (λ (ns : Numbers). IsKeptStream s.is_signed (form_of s.state.aggregate) (record was { state = new.state; numbers = ns }) live s.room reported) (sym numbers)
    (subst Kept (sym made) (each values was.state within h))
  where
    Kept : MapState → Type 0
    Kept m = IsKeptStream s.is_signed (form_of s.state.aggregate) (record was { state = m }) live s.room reported

    each : (vs : List NumberValue) (m : MapState) → AllByRecursion (λ value. IsWithin now.is_signed (amount_of value).wide) vs → Kept m → Kept (fold (λ (m : MapState) (v : Sample). measured_map x v m) m (samples_of s.state.aggregate vs))
    each [] m all kept = kept
    each (v ∷ vs) m all kept =
        let w : Sample = sample_of s.state.aggregate (amount_of v) in
        each vs (measured_map x w m) all.1
        (stream-recorded seen v w (record was { state = m }) (record was { state = measured_map x w m }) live reported all.0 refl (inr (x, inl refl)) (lead-same was.numbers was.numbers refl live.entries kept.0) kept)

-- values of one number type have the stream's if the first one has it
pub typed-first : (s : Bool) (values : List NumberValue) (v : NumberValue) → HaveOneType values → Some v ≡ slice_get values 0 → beq (is_signed_value v) s ≡ list_all (λ value. beq (is_signed_value value) s) values
typed-first s [] v one e = absurd (cc)
typed-first s (w ∷ ws) v one e = let same : v ≡ w = cc in ap (λ b. beq b s) (ap is_signed_value same ∙ one.1.0) ∙ by (beq one.0 s) refl
  where
    all : (vs : List NumberValue) → AllByRecursion (λ value. is_signed_value value ≡ one.0) vs → beq one.0 s ≡ true → list_all (λ value. beq (is_signed_value value) s) vs ≡ true
    all [] h q = refl
    all (u ∷ us) h q = λ i. (ap (λ b. beq b s) h.0 ∙ q) i && all us h.1 q i

    by : (b : Bool) → beq one.0 s ≡ b → beq one.0 s ≡ list_all (λ value. beq (is_signed_value value) s) (w ∷ ws)
    by true q = q ∙ sym (all (w ∷ ws) one.1 q)
    by false q = q ∙ sym (λ i. (ap (λ b. beq b s) one.1.0 ∙ q) i && list_all (λ value. beq (is_signed_value value) s) ws)

-- a stream of the other number type doesn't change
pub commits-none : (values : List NumberValue) (a : AggregateContents) → HaveOneType values → list_all (λ value. beq (is_signed_value value) a.is_signed) values ≡ false → a ≡ any_with_commits values a
commits-none values a one e = by (beq one.0 a.is_signed) refl
  where
    all : (vs : List NumberValue) → AllByRecursion (λ value. is_signed_value value ≡ one.0) vs → beq one.0 a.is_signed ≡ true → list_all (λ value. beq (is_signed_value value) a.is_signed) vs ≡ true
    all [] h q = refl
    all (v ∷ vs) h q = λ i. (ap (λ b. beq b a.is_signed) h.0 ∙ q) i && all vs h.1 q i

    none : (vs : List NumberValue) → AllByRecursion (λ value. is_signed_value value ≡ one.0) vs → beq one.0 a.is_signed ≡ false → a ≡ any_with_commits vs a
    none [] h q = refl
    none (v ∷ vs) h q =
        none vs h.1 q
        ∙ ap (any_with_commits vs) (sym (ap (λ b. record (cond b (stream_after_commit (amount_of v) a) a) { pending = a.pending }) (ap (λ b. beq b a.is_signed) h.0 ∙ q)))

    by : (b : Bool) → beq one.0 a.is_signed ≡ b → a ≡ any_with_commits values a
    by true q = absurd (true≢false (sym (all values one.1 q) ∙ e))
    by false q = none values one.1 q

-- and one of theirs takes them in
commits-made : (x : AttributeSet) (values : List NumberValue) (a : AggregateContents) → next_of a.pending ≡ Some x → list_all (λ value. beq (is_signed_value value) a.is_signed) values ≡ true
    → record a {
      state = record a.state {
        map_state = fold (λ (m : MapState) (v : Sample). measured_map x v m) a.state.map_state (samples_of a.state.aggregate values);
        recorded = fold (λ (n : ℕ) (value : NumberValue). wrap (n + size a.state.aggregate (amount_of value))) a.state.recorded values;
      };
    } ≡ any_with_commits values a
commits-made x [] a e all = refl
commits-made x (v ∷ vs) a e all =
    let parts = and_parts (beq (is_signed_value v) a.is_signed) (list_all (λ value. beq (is_signed_value value) a.is_signed) vs) all in
    commits-made x vs (record a { state = recorded_set x (amount_of v) a.state }) e parts.1
    ∙ ap (any_with_commits vs) (sym ((λ i. record (cond (parts.0 i) (taken_from (e i) (amount_of v) a) a) { pending = a.pending })))

pub commits-taken : {s old : AggregateContents} → s ≡ old → (x : AttributeSet) (values : List NumberValue) (after : MapState) (live : Handles) (pending : List AttributeSet) (total : ℕ) → next_of s.pending ≡ Some x
    → list_all (λ value. beq (is_signed_value value) old.is_signed) values ≡ true → after ≡ fold (λ (m : MapState) (v : Sample). measured_map x v m) s.state.map_state (samples_of s.state.aggregate values) → live ≡ s.live → pending ≡ drop 1 s.pending
    → total ≡ fold (λ (n : ℕ) (value : NumberValue). wrap (n + size s.state.aggregate (amount_of value))) s.state.recorded values
    → record s { state = record s.state { map_state = after; recorded = total }; live = live; pending = pending } ≡ any_after_commits values old
commits-taken {s} {old} was x values after live pending total prepared typed is same kept counted =
    (λ i. record s { state = record s.state { map_state = is i; recorded = counted i }; live = same i; pending = kept i })
    ∙ ap (λ (a : AggregateContents). record a { pending = drop 1 s.pending }) (commits-made x values s prepared (ap (λ (a : AggregateContents). list_all (λ value. beq (is_signed_value value) a.is_signed) values) was ∙ typed))
    ∙ ap (any_after_commits values) was
