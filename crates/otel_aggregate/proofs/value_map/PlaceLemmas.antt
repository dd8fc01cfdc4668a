-- Where a record's entry is, once its set has a place.
use Rattle.std.proofs.Common.{ℕ, suc, ◌-◌, ◌^◌, ◌<◌, ◌≡◌, List, [], ◌∷◌, ◌++◌, nat_lt, Bool, true, false, cond, ◌||◌, Option, Some, None, append-nil, length, map, reverse, true≢false, ne_eqb, take, get_or, slice_get, refl, ap, arith, subst, sym, ◌∙◌}
use Rattle.std.specs.List.{AllByRecursion}
use Rattle.std.specs.Map.{lookup, keys_of}
use Rattle.std.specs.Global.{Vec}
use Rattle.std.specs.Option.{option_to_list}
use Rattle.std.specs.Prelude.{IfSome, not, ◌==◌}
use Rattle.std.proofs.lemmas.List.{map-append, reverse-append}
use Rattle.std.proofs.Math.Bool.{or-false}
use Rattle.std.proofs.lemmas.Option.{slice_get-get_or}
use Rattle.std.proofs.lemmas.Bool.{cond_both, or_left, or_right, or_parts}
use Rattle.std.proofs.lemmas.List.Folds.{list_any-append}
use Rattle.otel_common.specs.Canonical.{canon}
use Rattle.otel_common.specs.Equality.{set_eq}
use Rattle.otel_common.specs.declared.attributes.KeyValue.{KeyValue}
use Rattle.otel_model_stream.specs.Folds.{Fold, Sample}
use Rattle.otel_model_stream.specs.Sets.{AttributeSet, none_set, over_set}
use Rattle.otel_model_stream.specs.Entries.{Entry, Table, new_entry, is_of, has, number_counted, entries_with_place, entry_for, place, at_entry, write, take_handle}
use Rattle.otel_model_stream.specs.Maps.{MapState, with_place, measured_map, measured_list, bound_map, bound_to}
use Rattle.otel_aggregate.specs.value_map.Keyed.{Slotted, IsNew}
use Rattle.otel_aggregate.specs.value_map.Numbers.{Numbers, number_of, KeepNumbers, is_placed, set_named, handles_in, handles_at}
use Rattle.otel_aggregate.specs.value_map.Contents.{IsPlan, IsPlanAt, IsSound, IsReady, NamesEntry, is_new, is_next_placed, next_of, pending_in, sets_named, used_by}
use Rattle.otel_aggregate.specs.declared.value_map.pending.Pending.{Pending}
use Rattle.otel_aggregate.specs.declared.value_map.pending.Pending.TheVariants.{Nothing, At, New, Several}
use Rattle.otel_aggregate.proofs.HandleLemmas.{has-on}
use Rattle.otel_aggregate.proofs.value_map.KeyedLemmas.{same_set, set_eq-self, set_eq-flip}
use Rattle.otel_aggregate.proofs.value_map.AddLemmas.{lookup-pushed, numbers-pushed}

-- what a place does: the entries, and which of them the set uses
pub record Placing (limit : ℕ) (empty : Fold) (s : AttributeSet) (entries after : List Entry) (used : AttributeSet) : Type 0 where
  pub state : after ≡ entries_with_place limit empty s entries
  pub goal : entry_for s after ≡ used

has-last : (s : AttributeSet) (entries : List Entry) (e : Entry) → set_eq e.set s ≡ true → has s (entries ++ e ∷ []) ≡ true
has-last s entries e q = list_any-append (is_of s) entries (e ∷ []) ∙ or_right (has s entries) _ (or_left _ false q)

module _ (limit : ℕ) (empty : Fold) (s : AttributeSet) (entries : List Entry) where
  -- the set has an entry, or is empty
  pub place-there : is_placed s entries ≡ true → Placing limit empty s entries entries s
  place-there h = by (set_eq s none_set) refl h
    where
      by : (b : Bool) → set_eq s none_set ≡ b → (b || has s entries) ≡ true → Placing limit empty s entries entries s
      by true q h = record { state = rw q refl; goal = rw q (sym (same_set s none_set q)) }
      by false q h = record { state = rw (q, h) refl; goal = rw (q, h) refl }

  module _ (some : set_eq s none_set ≡ false) (away : has s entries ≡ false) where
    pub place-admitted : nat_lt (number_counted entries) limit ≡ true → Placing limit empty s entries (entries ++ new_entry empty s true ∷ []) s
    place-admitted few =
        let there : has s (entries ++ new_entry empty s true ∷ []) ≡ true = has-last s entries (new_entry empty s true) (set_eq-self s) in
        record { state = rw (some, away, few) refl; goal = rw (some, there) refl }

    pub place-over : nat_lt (number_counted entries) limit ≡ false → has over_set entries ≡ true → Placing limit empty s entries entries over_set
    place-over full there = record { state = rw (some, away, full, there) refl; goal = rw (some, away) refl }

    pub place-over_made : nat_lt (number_counted entries) limit ≡ false → has over_set entries ≡ false → Placing limit empty s entries (entries ++ new_entry empty over_set false ∷ []) over_set
    place-over_made full gone = record { state = rw (some, away, full, gone) refl; goal = ap (λ b. cond b none_set (cond (has s (entries ++ new_entry empty over_set false ∷ [])) s over_set)) some ∙ to (has s (entries ++ new_entry empty over_set false ∷ [])) refl }
      where
        to : (b : Bool) → has s (entries ++ new_entry empty over_set false ∷ []) ≡ b → cond b s over_set ≡ over_set
        to false h = refl
        to true h =
            let one : (set_eq over_set s || false) ≡ true = ap (λ b. b || (set_eq over_set s || false)) (sym away) ∙ sym (list_any-append (is_of s) entries (new_entry empty over_set false ∷ [])) ∙ h in
            sym (same_set over_set s (sym (or-false (set_eq over_set s)) ∙ one))

-- a record of a set that uses an entry that is there
pub measured-by : (m : MapState) (s : AttributeSet) (v : Sample) (used : AttributeSet) → Placing m.limit m.empty s m.table.entries m.table.entries used → measured_map s v m ≡ record m { table = at_entry used (write v) m.table }
measured-by m s v used p =
    ap (λ (es : List Entry). record m { table = at_entry (entry_for s es) (write v) (record { none = m.table.none; entries = es }) }) (sym p.state)
    ∙ ap (λ (u : AttributeSet). record m { table = at_entry u (write v) m.table }) p.goal

-- one of a list that leads to an entry writes there, and no list more is known
pub measured-at : (t after : Slotted) (limit : ℕ) (empty : Fold) (l : List KeyValue) (n : ℕ) (v : Sample) → IsPlanAt t l n
    → ((s : AttributeSet) → number_of s t.numbers ≡ Some n → after.table ≡ at_entry s (write v) t.table) → after.aliases ≡ t.aliases
    → record { map_state = record { limit = limit; empty = empty; table = after.table }; given = keys_of after.aliases }
    ≡ measured_list l v (record { map_state = record { limit = limit; empty = empty; table = t.table }; given = keys_of t.aliases })
measured-at t after limit empty l n v plan written aliases =
    let m : MapState = record { limit = limit; empty = empty; table = t.table } in
    let p : IsPlan t (nat_lt (number_counted t.table.entries) limit) l (At n) = plan (nat_lt (number_counted t.table.entries) limit) in
    let named : set_named n t.numbers ∷ [] ≡ canon l ∷ [] = (plan true).pending ∙ ap (λ b. cond b (canon l) over_set ∷ []) (or_right (is_placed (canon l) t.table.entries) true refl) in
    let same : set_named n t.numbers ≡ canon l = cc in
    let there = p.sound true refl in
    let number : number_of (canon l) t.numbers ≡ Some n = subst (λ s. number_of s t.numbers ≡ Some n) same there.0 in
    let placed : is_placed (canon l) t.table.entries ≡ true = subst (λ s. is_placed s t.table.entries ≡ true) same there.1 in
    let state : measured_map (canon l) v m ≡ record m { table = after.table } =
    measured-by m (canon l) v (canon l) (place-there limit empty (canon l) t.table.entries placed) ∙ ap (λ (x : Table). record m { table = x }) (sym (written (canon l) number)) in
    let given = ap keys_of aliases ∙ sym (append-nil (keys_of t.aliases)) ∙ ap (λ (ls : List (List KeyValue)). keys_of t.aliases ++ ls) p.spelling in
    λ i. record { map_state = sym state i; given = given i }

-- ======== the set of the entry that is used ========
-- a place for it is one for the set itself, and it is its own
pub record Using (limit : ℕ) (empty : Fold) (s : AttributeSet) (entries : List Entry) (u : AttributeSet) : Type 0 where
  pub used : used_by (nat_lt (number_counted entries) limit) s entries ≡ u
  pub place : entries_with_place limit empty u entries ≡ entries_with_place limit empty s entries
  pub goal : entry_for u (entries_with_place limit empty s entries) ≡ u

using : (limit : ℕ) (empty : Fold) (s : AttributeSet) (entries : List Entry) → Using limit empty s entries (entry_for s (entries_with_place limit empty s entries))
using limit empty s entries = by (is_placed s entries) (nat_lt (number_counted entries) limit) (has over_set entries) refl refl refl
  where
    to : (after : List Entry) (u : AttributeSet) → Placing limit empty s entries after u → Placing limit empty u entries after u → used_by (nat_lt (number_counted entries) limit) s entries ≡ u → Using limit empty s entries (entry_for s (entries_with_place limit empty s entries))
    to after u p q e =
        let is : entry_for s (entries_with_place limit empty s entries) ≡ u = ap (entry_for s) (sym p.state) ∙ p.goal in
        subst (Using limit empty s entries) (sym is) (record { used = e; place = sym q.state ∙ p.state; goal = ap (entry_for u) (sym p.state) ∙ q.goal })

    by : (placed few over : Bool) → is_placed s entries ≡ placed → nat_lt (number_counted entries) limit ≡ few → has over_set entries ≡ over → Using limit empty s entries (entry_for s (entries_with_place limit empty s entries))
    by true few over p f o = to entries s (place-there limit empty s entries p) (place-there limit empty s entries p) (ap (λ b. cond (b || nat_lt (number_counted entries) limit) s over_set) p)
    by false true over p f o =
        let q = or_parts (set_eq s none_set) (has s entries) p in
        let new = place-admitted limit empty s entries q.0 q.1 f in
        to _ s new new (λ i. cond (p i || f i) s over_set)
    by false false true p f o =
        let q = or_parts (set_eq s none_set) (has s entries) p in
        to entries over_set (place-over limit empty s entries q.0 q.1 f o) (place-there limit empty over_set entries o) (λ i. cond (p i || f i) s over_set)
    by false false false p f o =
        let q = or_parts (set_eq s none_set) (has s entries) p in
        to _ over_set (place-over_made limit empty s entries q.0 q.1 f o) (place-over_made limit empty over_set entries refl o f o) (λ i. cond (p i || f i) s over_set)

pub used-bound : (m : MapState) (s : AttributeSet) → used_by (nat_lt (number_counted m.table.entries) m.limit) s m.table.entries ≡ bound_to s m
used-bound m s = (using m.limit m.empty s m.table.entries).used

pub used-placed : (m : MapState) (s : AttributeSet) → with_place (bound_to s m) m ≡ with_place s m
used-placed m s = ap (λ (es : List Entry). record m { table = record m.table { entries = es } }) (using m.limit m.empty s m.table.entries).place

pub used-own : (m : MapState) (s : AttributeSet) → bound_to (bound_to s m) m ≡ bound_to s m
used-own m s = ap (λ (x : MapState). entry_for (bound_to s m) x.table.entries) (used-placed m s) ∙ (using m.limit m.empty s m.table.entries).goal

-- so a record or a bind of it is one of the set
pub used-measured : (m : MapState) (s : AttributeSet) (v : Sample) → measured_map (bound_to s m) v m ≡ measured_map s v m
used-measured m s v = λ i. record (used-placed m s i) { table = at_entry (used-own m s i) (write v) (used-placed m s i).table }

pub used-held : (m : MapState) (s : AttributeSet) → bound_map (bound_to s m) m ≡ bound_map s m
used-held m s = λ i. record (used-placed m s i) { table = at_entry (used-own m s i) take_handle (used-placed m s i).table }

-- ======== what is prepared ========
-- and the one that is new
pub new-prepared : (t : Slotted) (few room : Bool) (p : Pending) (set : AttributeSet) (list : Option (List KeyValue)) → IsSound t few room p → New set list ≡ p → IsReady t few room set list
new-prepared t few room p set list sound is = subst (IsSound t few room) (sym is) sound

pub new-set : (ns : Numbers) (p : Pending) (set s : AttributeSet) (list : Option (List KeyValue)) → New set list ≡ p → next_of (pending_in ns p) ≡ Some s → set ≡ s
new-set ns p set s list is e = let both : Some set ≡ Some s = ap (λ q. next_of (pending_in ns q)) is ∙ e in cc

-- what uses entries that are there can be carried out still once one of these changed
module _ (t after : Slotted) (x : AttributeSet) (f : Entry → Entry) (keeps : (e : Entry) → (f e).set ≡ e.set) (written : after.table ≡ at_entry x f t.table) (numbers : after.numbers ≡ t.numbers) where
  still-named : (n : ℕ) → NamesEntry t n → NamesEntry after n
  still-named n there =
      let g : AttributeSet = set_named n t.numbers in
      let placed : is_placed g after.table.entries ≡ true = ap (λ (y : Table). is_placed g y.entries) written ∙ ap (λ b. set_eq g none_set || b) (has-on f keeps x g t.table.entries) ∙ there.1 in
      subst (λ (ns : Numbers). (number_of (set_named n ns) ns ≡ Some n) × (is_placed (set_named n ns) after.table.entries ≡ true)) (sym numbers) (there.0, placed)

  all-named : (ns : List ℕ) → AllByRecursion (NamesEntry t) ns → AllByRecursion (NamesEntry after) ns
  all-named [] all = tt
  all-named (n ∷ ns) all = (still-named n all.0, all-named ns all.1)

  pub sound-changed : (few room now_few now_room : Bool) (p : Pending) → is_new p ≡ false → IsSound t few room p → IsSound after now_few now_room p
  sound-changed few room now_few now_room Nothing old sound = tt
  sound-changed few room now_few now_room (At n) old sound = still-named n sound
  sound-changed few room now_few now_room (New set list) old sound = absurd (true≢false old)
  sound-changed few room now_few now_room (Several ns) old sound = all-named ns.items sound

-- with one more entry the others keep their numbers, and its set uses it
pub number-added : (t after : Slotted) (n : ℕ) (s : AttributeSet) (e : Entry) → IsNew t.numbers.sets s → after.table ≡ record t.table { entries = t.table.entries ++ e ∷ [] } → e.set ≡ s → after.numbers.none ≡ t.numbers.none → after.numbers.sets ≡ t.numbers.sets ++ (s, n) ∷ []
    → KeepNumbers t.numbers after.numbers × (number_of (entry_for s after.table.entries) after.numbers ≡ Some n)
number-added t after n s e new table same none sets =
    let is : after.numbers ≡ record { none = t.numbers.none; sets = t.numbers.sets ++ (s, n) ∷ [] } = λ i. record { none = none i; sets = sets i } in
    let there : has s after.table.entries ≡ true = ap (λ (x : Table). has s x.entries) table ∙ has-last s t.table.entries e (ap (λ (x : AttributeSet). set_eq x s) same ∙ set_eq-self s) in
    let used : entry_for s after.table.entries ≡ s = rw (new.some, there) refl in (
      subst (KeepNumbers t.numbers) (sym is) (numbers-pushed t.numbers.none t.numbers.sets (s, n)),
      ap (λ (x : AttributeSet). number_of x after.numbers) used
          ∙ ap (number_of s) is
          ∙ ap (λ b. cond b (Some t.numbers.none) (lookup (set_eq s) (t.numbers.sets ++ (s, n) ∷ []))) new.some
          ∙ lookup-pushed s t.numbers.sets n new.absent,
    )

-- ======== several records ========
-- the last of these numbers stands apart
pub last-apart : (ks : List ℕ) → ks ≡ take (length ks - 1) ks ++ option_to_list (slice_get ks (length ks - 1))
last-apart [] = refl
last-apart (k ∷ []) = refl
last-apart (k ∷ j ∷ js) =
    let one : suc (length (j ∷ js) - 1) ≡ length (k ∷ j ∷ js) - 1 = omega arith in
    ap (λ ls. k ∷ ls) (last-apart (j ∷ js)) ∙ ap (λ i. take i (k ∷ j ∷ js) ++ option_to_list (slice_get (k ∷ j ∷ js) i)) one

module _ (t : Slotted) where
  all-last : (ks : List ℕ) (k : ℕ) → AllByRecursion (NamesEntry t) (ks ++ k ∷ []) → NamesEntry t k
  all-last [] k all = all.0
  all-last (j ∷ js) k all = all-last js k all.1

  -- it names the next set
  next-last : (ks rest : List ℕ) (n : ℕ) → ks ≡ rest ++ n ∷ [] → AllByRecursion (NamesEntry t) ks → NamesEntry t n × (sets_named t.numbers ks ≡ set_named n t.numbers ∷ sets_named t.numbers rest)
  next-last ks rest n e all = (
    all-last rest n (subst (AllByRecursion (NamesEntry t)) e all),
    ap (sets_named t.numbers) e ∙ ap reverse (map-append (λ (m : ℕ). set_named m t.numbers) rest (n ∷ [])) ∙ reverse-append (map (λ (m : ℕ). set_named m t.numbers) rest) (set_named n t.numbers ∷ []),
  )

  -- as does the one that is taken out
  pub next-taken : (ks rest : List ℕ) (r : Option ℕ) → ks ≡ rest ++ option_to_list r → AllByRecursion (NamesEntry t) ks → IfSome r (λ n. NamesEntry t n × (next_of (sets_named t.numbers ks) ≡ Some (set_named n t.numbers)))
  next-taken ks rest None e all = tt
  next-taken ks rest (Some n) e all = let one = next-last ks rest n e all in (one.0, ap next_of one.1)

  -- there is a next set exactly if there is a number
  pub entry-there : (ks : List ℕ) (n : ℕ) → n ≡ length ks → AllByRecursion (NamesEntry t) ks → not (n == 0) ≡ is_next_placed (sets_named t.numbers ks) t.table.entries
  entry-there [] n e all = ap (λ m. not (m == 0)) e
  entry-there (k ∷ ks) n e all =
      let i : ℕ = length (k ∷ ks) - 1 in
      let one = next-last (k ∷ ks) (take i (k ∷ ks)) (get_or (k ∷ ks) i k) (last-apart (k ∷ ks) ∙ ap (λ o. take i (k ∷ ks) ++ option_to_list o) (slice_get-get_or (k ∷ ks) i k (omega arith))) all in
      ap not (ne_eqb n 0 (λ q. omega (arith, e, q))) ∙ sym (ap (λ ss. is_next_placed ss t.table.entries) one.1 ∙ one.0.1)

-- ======== handles ========
few-push : (x : AttributeSet) (es : List Entry) (e : Entry) (n : ℕ) → 0 < n → e.handles ≡ 0 → handles_in x es < n → handles_in x (es ++ e ∷ []) < n
few-push x [] e n some none h = cond_both (is_of x e) e.handles 0 (λ m. m < n) (λ q. omega (arith, none)) (λ q. some)
few-push x (r ∷ rs) e n some none h = by (is_of x r) h (few-push x rs e n some none)
  where
    by : (b : Bool) → cond b r.handles (handles_in x rs) < n → (handles_in x rs < n → handles_in x (rs ++ e ∷ []) < n) → cond b r.handles (handles_in x (rs ++ e ∷ [])) < n
    by true h ih = h
    by false h ih = ih h

-- a place for a set adds no handle
pub few-placed : (limit : ℕ) (empty : Fold) (s : AttributeSet) (t : Table) (x : AttributeSet) → handles_at x t < 2 ^ 64 - 1 → handles_at x (place limit empty s t) < 2 ^ 64 - 1
few-placed limit empty s t x few = first x (is_of x t.none) few
  where
    pushed : (x : AttributeSet) (k : AttributeSet) (b : Bool) → handles_in x t.entries < 2 ^ 64 - 1 → handles_in x (t.entries ++ new_entry empty k b ∷ []) < 2 ^ 64 - 1
    pushed x k b h = few-push x t.entries (new_entry empty k b) (2 ^ 64 - 1) (omega arith) refl h

    rest : (x : AttributeSet) (a b c d : Bool) → handles_in x t.entries < 2 ^ 64 - 1
        → handles_in x (cond a t.entries (cond b t.entries (cond c (t.entries ++ new_entry empty s true ∷ []) (cond d t.entries (t.entries ++ new_entry empty over_set false ∷ []))))) < 2 ^ 64 - 1
    rest x true b c d h = h
    rest x false true c d h = h
    rest x false false true d h = pushed x s true h
    rest x false false false true h = h
    rest x false false false false h = pushed x over_set false h

    first : (x : AttributeSet) (b : Bool) → cond b t.none.handles (handles_in x t.entries) < 2 ^ 64 - 1 → cond b t.none.handles (handles_in x (entries_with_place limit empty s t.entries)) < 2 ^ 64 - 1
    first x true h = h
    first x false h = rest x (set_eq s none_set) (has s t.entries) (nat_lt (number_counted t.entries) limit) (has over_set t.entries) h

-- a set without an entry has no handles
handles-away : (x : AttributeSet) (es : List Entry) → has x es ≡ false → handles_in x es ≡ 0
handles-away x [] e = refl
handles-away x (r ∷ rs) e = let q = or_parts (is_of x r) (has x rs) e in (λ i. cond (q.0 i) r.handles (handles_in x rs)) ∙ handles-away x rs q.1

-- nor has the entry that is still to be made for what is prepared
pub unheld : (t : Slotted) (few room : Bool) (p : Pending) (s : AttributeSet) → IsSound t few room p → ((n : ℕ) → p ≡ At n → ⊥) → ((ks : Vec ℕ) → p ≡ Several ks → ⊥) → t.table.none.set ≡ none_set → next_of (pending_in t.numbers p) ≡ Some s → 0 ≡ handles_at s t.table
unheld t few room Nothing s sound other one is e = absurd (cc)
unheld t few room (At n) s sound other one is e = absurd (other n refl)
unheld t few room (Several ns) s sound other one is e = absurd (one ns refl)
unheld t few room (New set list) s sound other one is e =
    let same : set ≡ s = cc in
    subst (λ x. 0 ≡ handles_at x t.table) same
    (sym (ap (λ (k : AttributeSet). cond (set_eq k set) t.table.none.handles (handles_in set t.table.entries)) is
    ∙ ap (λ b. cond b t.table.none.handles (handles_in set t.table.entries)) (set_eq-flip none_set set ∙ sound.new.some)
    ∙ handles-away set t.table.entries sound.absent))
