-- What a map knows, call by call.
use Rattle.std.proofs.Common.{◌≡◌, ℕ, ◌+◌, ◌*◌, ◌≤◌, List, [], ◌∷◌, ◌++◌, map, filter, length, Bool, true, false, not, cond, ◌||◌, ◌&&◌, refl, sym, ap, ◌∙◌, subst, arith, length-append}
use Rattle.std.specs.Prelude.{nat_lt}
use Rattle.std.specs.List.{AllByRecursion, IsDistinct}
use Rattle.std.specs.Set.{is_member}
use Rattle.std.proofs.lemmas.Bool.{false≢true, and_parts}
use Rattle.std.proofs.lemmas.Cmp.{lists_equiv}
use Rattle.std.proofs.lemmas.List.{append-nil, length-map, map-append}
use Rattle.std.proofs.lemmas.List.Elements.{filter-append}
use Rattle.std.proofs.lemmas.List.Folds.{list_any-append}
use Rattle.std.proofs.lemmas.Map.Keys.{IsDistinct-push}
use Rattle.std.proofs.lemmas.Map.Made.{length-le_from_is_member}
use Rattle.otel_common.specs.Canonical.{canon}
use Rattle.otel_common.specs.Equality.{set_eq, key_value_eq_equiv}
use Rattle.otel_common.specs.declared.attributes.KeyValue.{KeyValue}
use Rattle.otel_model_stream.specs.Sets.{AttributeSet, none_set, over_set}
use Rattle.otel_model_stream.specs.Folds.{Fold, Sample}
use Rattle.otel_model_stream.specs.Entries.{Entry, new_entry, is_of, has, AreCanonical, number_counted, entries_with_place, place, entry_for, on, at_entry, write, take_handle, drop_handle, stays, reset}
use Rattle.otel_model_stream.specs.Maps.{MapState, KnownMap, knows, keys, is_admitted, given_with, measured_list, bound_list, collected_known, evicted_known, drained_known, updated_bound, unbound_map, AreListed}
use Rattle.otel_model_stream.proofs.Sets.{set_eq_true, set_eq_self}
use Rattle.otel_model_stream.proofs.Lists.{or_false, same_sym}

-- ======== tests ========
left : (a b : Bool) → a ≡ true → (a || b) ≡ true
left true b e = refl
left false b e = absurd (false≢true e)

right : (a b : Bool) → b ≡ true → (a || b) ≡ true
right true b e = refl
right false b e = e

both : (a b c d : Bool) → (a || b) ≡ true → (a ≡ true → c ≡ true) → (b ≡ true → d ≡ true) → (c || d) ≡ true
both true b c d h f g = left c d (f refl)
both false b c d h f g = right c d (g h)

-- ======== the entries of sets ========
-- a change that leaves the set
abbrev KeepsSet : (Entry → Entry) → Type 0
KeepsSet f = (e : Entry) → (f e).set ≡ e.set

has-on : (s g : AttributeSet) (f : Entry → Entry) → KeepsSet f → (es : List Entry) → has s (map (on g f) es) ≡ has s es
has-on s g f same [] = refl
has-on s g f same (e ∷ es) = λ i. set_eq (one (is_of g e) i) s || has-on s g f same es i
  where
    one : (b : Bool) → (cond b (f e) e).set ≡ e.set
    one true = same e
    one false = refl

has-append : (s : AttributeSet) (es : List Entry) (e : Entry) → has s (es ++ e ∷ []) ≡ (has s es || (is_of s e || false))
has-append s es e = list_any-append (is_of s) es (e ∷ [])

-- a set that has an entry keeps it when another gets a place
has-placed : (limit : ℕ) (empty : Fold) (t s : AttributeSet) (es : List Entry) → has s es ≡ true → has s (entries_with_place limit empty t es) ≡ true
has-placed limit empty t s es h = go (set_eq t none_set) (has t es) (nat_lt (number_counted es) limit) (has over_set es)
  where
    more : (e : Entry) → has s (es ++ e ∷ []) ≡ true
    more e = has-append s es e ∙ left (has s es) (is_of s e || false) h

    go : (a b c d : Bool) → has s (cond a es (cond b es (cond c (es ++ new_entry empty t true ∷ []) (cond d es (es ++ new_entry empty over_set false ∷ []))))) ≡ true
    go true b c d = h
    go false true c d = h
    go false false true d = more (new_entry empty t true)
    go false false false true = h
    go false false false false = more (new_entry empty over_set false)

-- an admitted set has an entry then
has-admitted : (s : AttributeSet) (m : MapState) → is_admitted s m ≡ true → has s (entries_with_place m.limit m.empty s m.table.entries) ≡ true
has-admitted s m a = go (set_eq s none_set) (has s es) (nat_lt (number_counted es) m.limit) (has over_set es) a
  where
    es : List Entry
    es = m.table.entries

    go : (a b c d : Bool) → (not a && (not b && c)) ≡ true → has s (cond a es (cond b es (cond c (es ++ new_entry m.empty s true ∷ []) (cond d es (es ++ new_entry m.empty over_set false ∷ []))))) ≡ true
    go true b c d e = absurd (false≢true e)
    go false true c d e = absurd (false≢true e)
    go false false false d e = absurd (false≢true e)
    go false false true d e = has-append s es (new_entry m.empty s true) ∙ right (has s es) (set_eq s s || false) (left (set_eq s s) false (set_eq_self s))

-- and the limit counts it, and counts no other
pub counted_admitted : (s : AttributeSet) (m : MapState) → number_counted (entries_with_place m.limit m.empty s m.table.entries) ≡ number_counted m.table.entries + cond (is_admitted s m) 1 0
counted_admitted s m = go (set_eq s none_set) (has s es) (nat_lt (number_counted es) m.limit) (has over_set es)
  where
    es : List Entry
    es = m.table.entries

    more : (e : Entry) → number_counted (es ++ e ∷ []) ≡ number_counted es + number_counted (e ∷ [])
    more e = ap length (filter-append (λ (x : Entry). x.counted) es (e ∷ [])) ∙ length-append (filter (λ (x : Entry). x.counted) es) (filter (λ (x : Entry). x.counted) (e ∷ []))

    go : (a b c d : Bool) → number_counted (cond a es (cond b es (cond c (es ++ new_entry m.empty s true ∷ []) (cond d es (es ++ new_entry m.empty over_set false ∷ []))))) ≡ number_counted es + cond (not a && (not b && c)) 1 0
    go true b c d = omega arith
    go false true c d = omega arith
    go false false true d = more (new_entry m.empty s true)
    go false false false true = omega arith
    go false false false false = more (new_entry m.empty over_set false)

-- and had none before
absent : (s : AttributeSet) (m : MapState) → is_admitted s m ≡ true → has s m.table.entries ≡ false
absent s m a = go (set_eq s none_set) (has s m.table.entries) (nat_lt (number_counted m.table.entries) m.limit) a
  where
    go : (a b c : Bool) → (not a && (not b && c)) ≡ true → b ≡ false
    go true b c e = absurd (false≢true e)
    go false true c e = absurd (false≢true e)
    go false false c e = refl

has-evicted : (p : AttributeSet) (es : List Entry) → has p (map reset (filter stays es)) ≡ true → has p es ≡ true
has-evicted p [] h = h
has-evicted p (e ∷ es) h = go (stays e) h (has-evicted p es)
  where
    rest : List Entry
    rest = filter stays es

    go : (b : Bool) → has p (map reset (cond b (e ∷ rest) rest)) ≡ true → (has p (map reset rest) ≡ true → has p es ≡ true) → (is_of p e || has p es) ≡ true
    go true h ih = both (is_of p e) (has p (map reset rest)) (is_of p e) (has p es) h (λ t. t) ih
    go false h ih = right (is_of p e) (has p es) (ih h)

-- ======== lists ========
member-filter : (test : List KeyValue → Bool) (p : List KeyValue) (ls : List (List KeyValue)) → is_member set_eq (filter test ls) p ≡ true → is_member set_eq ls p ≡ true
member-filter test p [] h = h
member-filter test p (l ∷ ls) h = go (test l) h (member-filter test p ls)
  where
    rest : List (List KeyValue)
    rest = filter test ls

    go : (b : Bool) → is_member set_eq (cond b (l ∷ rest) rest) p ≡ true → (is_member set_eq rest p ≡ true → is_member set_eq ls p ≡ true) → (set_eq p l || is_member set_eq ls p) ≡ true
    go true h ih = both (set_eq p l) (is_member set_eq rest p) (set_eq p l) (is_member set_eq ls p) h (λ t. t) ih
    go false h ih = right (set_eq p l) (is_member set_eq ls p) (ih h)

none_left : (ls : List (List KeyValue)) → filter (λ l. false) ls ≡ []
none_left [] = refl
none_left (l ∷ ls) = none_left ls

member-passes : (test : List KeyValue → Bool) (p : List KeyValue) (ls : List (List KeyValue)) → test p ≡ true → is_member set_eq ls p ≡ true → is_member set_eq (filter test ls) p ≡ true
member-passes test p [] t h = h
member-passes test p (l ∷ ls) t h = go (test l) (set_eq p l) refl refl h (member-passes test p ls t)
  where
    rest : List (List KeyValue)
    rest = filter test ls

    go : (b c : Bool) → test l ≡ b → set_eq p l ≡ c → (c || is_member set_eq ls p) ≡ true → (is_member set_eq ls p ≡ true → is_member set_eq rest p ≡ true) → is_member set_eq (cond b (l ∷ rest) rest) p ≡ true
    go true c e f h ih = both c (is_member set_eq ls p) (set_eq p l) (is_member set_eq rest p) h (λ i. f ∙ i) ih
    go false true e f h ih = absurd (false≢true (sym e ∙ ap test (sym (set_eq_true p l f)) ∙ t))
    go false false e f h ih = ih h

-- a list that is the set of an entry is canonical
canonical : (p : List KeyValue) (es : List Entry) → AreCanonical es → has p es ≡ true → canon p ≡ p
canonical p [] all h = absurd (false≢true h)
canonical p (e ∷ es) all h = go (is_of p e) refl h (canonical p es all.1)
  where
    go : (b : Bool) → is_of p e ≡ b → (b || has p es) ≡ true → (has p es ≡ true → canon p ≡ p) → canon p ≡ p
    go true t h ih = subst (λ s. canon s ≡ s) (set_eq_true e.set p t) all.0
    go false t h ih = ih h

-- ======== a record or a bind of a list ========
-- the set gets a place, and an entry is changed
module _ (l : List KeyValue) (k : KnownMap) (g : AttributeSet) (f : Entry → Entry) (same : KeepsSet f) where
  abbrev at_place : List Entry
  at_place = entries_with_place k.map_state.limit k.map_state.empty (canon l) k.map_state.table.entries

  abbrev after : KnownMap
  after = record {
    map_state = record k.map_state { table = at_entry g f (place k.map_state.limit k.map_state.empty (canon l) k.map_state.table) };
    given = given_with l k;
  }

  known_set : is_admitted (canon l) k.map_state ≡ true → knows (canon l) after ≡ true
  known_set a =
      right (set_eq (canon l) none_set) (is_member set_eq (given_with l k) (canon l) || has (canon l) (map (on g f) at_place))
      (right (is_member set_eq (given_with l k) (canon l)) (has (canon l) (map (on g f) at_place)) (has-on (canon l) g f same at_place ∙ has-admitted (canon l) k.map_state a))

  known_list : is_admitted (canon l) k.map_state ≡ true → knows l after ≡ true
  known_list a = go (set_eq (canon l) l) refl
    where
      listed : set_eq (canon l) l ≡ false → is_member set_eq (given_with l k) l ≡ true
      listed e =
          ap (λ b. is_member set_eq (k.given ++ cond b (l ∷ []) []) l) (λ i. a i && not (e i))
          ∙ (list_any-append (set_eq l) k.given (l ∷ []) ∙ right (is_member set_eq k.given l) (set_eq l l || false) (left (set_eq l l) false (set_eq_self l)))

      go : (b : Bool) → set_eq (canon l) l ≡ b → knows l after ≡ true
      go true e = subst (λ p. knows p after ≡ true) (set_eq_true (canon l) l e) (known_set a)
      go false e =
          right (set_eq l none_set) (is_member set_eq (given_with l k) l || has l (map (on g f) at_place))
          (left (is_member set_eq (given_with l k) l) (has l (map (on g f) at_place)) (listed e))

  still : (p : List KeyValue) → knows p k ≡ true → knows p after ≡ true
  still p h =
      both (set_eq p none_set) (is_member set_eq k.given p || has p k.map_state.table.entries) (set_eq p none_set) (is_member set_eq (given_with l k) p || has p (map (on g f) at_place)) h (λ t. t)
      (λ t.
      both (is_member set_eq k.given p) (has p k.map_state.table.entries) (is_member set_eq (given_with l k) p) (has p (map (on g f) at_place)) t
      (λ i. list_any-append (set_eq p) k.given added ∙ left (is_member set_eq k.given p) (is_member set_eq added p) i)
      (λ i. has-on p g f same at_place ∙ has-placed k.map_state.limit k.map_state.empty (canon l) p k.map_state.table.entries i))
    where
      added : List (List KeyValue)
      added = cond (is_admitted (canon l) k.map_state && not (set_eq (canon l) l)) (l ∷ []) []

pub known_measured : (l : List KeyValue) (v : Sample) (k : KnownMap) → is_admitted (canon l) k.map_state ≡ true → (knows l (measured_list l v k) ≡ true) × (knows (canon l) (measured_list l v k) ≡ true)
known_measured l v k a =
    let g : AttributeSet = entry_for (canon l) (at_place l k none_set (write v) (λ e. refl)) in (known_list l k g (write v) (λ e. refl) a, known_set l k g (write v) (λ e. refl) a)

pub known_bound : (l : List KeyValue) (k : KnownMap) → is_admitted (canon l) k.map_state ≡ true → (knows l (bound_list l k) ≡ true) × (knows (canon l) (bound_list l k) ≡ true)
known_bound l k a =
    let g : AttributeSet = entry_for (canon l) (at_place l k none_set take_handle (λ e. refl)) in (known_list l k g take_handle (λ e. refl) a, known_set l k g take_handle (λ e. refl) a)

pub known_still : (p l : List KeyValue) (v : Sample) (k : KnownMap) → knows p k ≡ true → (knows p (measured_list l v k) ≡ true) × (knows p (bound_list l k) ≡ true)
known_still p l v k h =
    let g : AttributeSet = entry_for (canon l) (at_place l k none_set take_handle (λ e. refl)) in (still l k g (write v) (λ e. refl) p h, still l k g take_handle (λ e. refl) p h)

-- ======== collections ========
pub known_before : (p : List KeyValue) (k : KnownMap) → knows p (evicted_known k) ≡ true → knows p k ≡ true
known_before p k h =
    both (set_eq p none_set) (is_member set_eq left_lists p || has p left_entries) (set_eq p none_set) (is_member set_eq k.given p || has p k.map_state.table.entries) h (λ t. t)
    (λ t.
    both (is_member set_eq left_lists p) (has p left_entries) (is_member set_eq k.given p) (has p k.map_state.table.entries) t
    (member-filter (λ l. has (canon l) left_entries) p k.given) (has-evicted p k.map_state.table.entries))
  where
    left_entries : List Entry
    left_entries = (evicted_known k).map_state.table.entries

    left_lists : List (List KeyValue)
    left_lists = (evicted_known k).given

pub known_placed : (p : List KeyValue) (k : KnownMap) → AreCanonical k.map_state.table.entries → knows p k ≡ true → has (canon p) (evicted_known k).map_state.table.entries ≡ true → knows p (evicted_known k) ≡ true
known_placed p k all h there =
    both (set_eq p none_set) (is_member set_eq k.given p || has p k.map_state.table.entries) (set_eq p none_set) (is_member set_eq left_lists p || has p left_entries) h (λ t. t)
    (λ t.
    both (is_member set_eq k.given p) (has p k.map_state.table.entries) (is_member set_eq left_lists p) (has p left_entries) t
    (member-passes (λ l. has (canon l) left_entries) p k.given there) (λ i. ap (λ s. has s left_entries) (sym (canonical p k.map_state.table.entries all i)) ∙ there))
  where
    left_entries : List Entry
    left_entries = (evicted_known k).map_state.table.entries

    left_lists : List (List KeyValue)
    left_lists = (evicted_known k).given

pub known_drained : (p : List KeyValue) (k : KnownMap) → knows p (drained_known k) ≡ set_eq p none_set
known_drained p k = ap (λ ls. set_eq p none_set || (is_member set_eq ls p || false)) (none_left k.given) ∙ or_false (set_eq p none_set)

-- ======== how many keys ========
members : (q : AttributeSet) (es : List Entry) → is_member set_eq (map (λ (e : Entry). e.set) es) q ≡ has q es
members q [] = refl
members q (e ∷ es) = λ i. same_sym q e.set i || members q es i

-- a set of one of the lists has an entry
listed-has : (q : AttributeSet) (es : List Entry) (ls : List (List KeyValue)) → AllByRecursion (λ l. has (canon l) es ≡ true) ls → is_member set_eq (map canon ls) q ≡ true → has q es ≡ true
listed-has q es [] all h = absurd (false≢true h)
listed-has q es (l ∷ ls) all h = go (set_eq q (canon l)) refl h (listed-has q es ls all.1)
  where
    go : (b : Bool) → set_eq q (canon l) ≡ b → (b || is_member set_eq (map canon ls) q) ≡ true → (is_member set_eq (map canon ls) q ≡ true → has q es ≡ true) → has q es ≡ true
    go true e h ih = ap (λ s. has s es) (set_eq_true q (canon l) e) ∙ all.0
    go false e h ih = ih h

pub keys_few : (k : KnownMap) → AreListed k → keys k ≤ 2 * length k.map_state.table.entries
keys_few k listed = omega (arith, few, length-map k.given canon, length-map es (λ (e : Entry). e.set))
  where
    es : List Entry
    es = k.map_state.table.entries

    few : length (map canon k.given) ≤ length (map (λ (e : Entry). e.set) es)
    few = length-le_from_is_member (lists_equiv key_value_eq_equiv) (map canon k.given) (map (λ (e : Entry). e.set) es) listed.apart (λ q h. members q es ∙ listed-has q es k.given listed.placed h)

-- ======== the lists are of entries, and apart ========
-- what holds of each list, turned one by one into something else
all-turn : (P Q : List KeyValue → Type 0) → ((l : List KeyValue) → P l → Q l) → (ls : List (List KeyValue)) → AllByRecursion P ls → AllByRecursion Q ls
all-turn P Q f [] all = tt
all-turn P Q f (l ∷ ls) all = (f l all.0, all-turn P Q f ls all.1)

all-push : (P : List KeyValue → Type 0) (ls : List (List KeyValue)) (l : List KeyValue) → AllByRecursion P ls → P l → AllByRecursion P (ls ++ l ∷ [])
all-push P [] l all p = (p, tt)
all-push P (x ∷ ls) l all p = (all.0, all-push P ls l all.1 p)

all-filter : (test : List KeyValue → Bool) (ls : List (List KeyValue)) → AllByRecursion (λ l. test l ≡ true) (filter test ls)
all-filter test [] = tt
all-filter test (l ∷ ls) = go (test l) refl (all-filter test ls)
  where
    go : (b : Bool) → test l ≡ b → AllByRecursion (λ x. test x ≡ true) (filter test ls) → AllByRecursion (λ x. test x ≡ true) (cond b (l ∷ filter test ls) (filter test ls))
    go true e ih = (e, ih)
    go false e ih = ih

-- what holds of the sets of all lists holds of the sets of those that pass a test
all-sets : (P : AttributeSet → Type 0) (test : List KeyValue → Bool) (ls : List (List KeyValue)) → AllByRecursion P (map canon ls) → AllByRecursion P (map canon (filter test ls))
all-sets P test [] all = tt
all-sets P test (l ∷ ls) all = go (test l) (all-sets P test ls all.1)
  where
    go : (b : Bool) → AllByRecursion P (map canon (filter test ls)) → AllByRecursion P (map canon (cond b (l ∷ filter test ls) (filter test ls)))
    go true ih = (all.0, ih)
    go false ih = ih

apart-filter : (test : List KeyValue → Bool) (ls : List (List KeyValue)) → IsDistinct set_eq (map canon ls) → IsDistinct set_eq (map canon (filter test ls))
unfolding IsDistinct
apart-filter test [] d = tt
apart-filter test (l ∷ ls) d = go (test l) (all-sets (λ s. set_eq (canon l) s ≡ false) test ls d.0) (apart-filter test ls d.1)
  where
    go : (b : Bool) → AllByRecursion (λ s. set_eq (canon l) s ≡ false) (map canon (filter test ls)) → IsDistinct set_eq (map canon (filter test ls)) → IsDistinct set_eq (map canon (cond b (l ∷ filter test ls) (filter test ls)))
    go true h ih = (h, ih)
    go false h ih = ih

apart-none : IsDistinct set_eq (map canon [])
unfolding IsDistinct
apart-none = tt

pub listed_none : (m : MapState) → AreListed (record { map_state = m; given = [] })
listed_none m = record { placed = tt; apart = apart-none }

pub listed_left : (m : MapState) (k : KnownMap) → AreListed k → AreListed (collected_known m k)
listed_left m k listed = record {
  placed = all-filter (λ l. has (canon l) m.table.entries) k.given;
  apart = apart-filter (λ l. has (canon l) m.table.entries) k.given listed.apart;
}

-- an entry is changed
listed_on : (g : AttributeSet) (f : Entry → Entry) → KeepsSet f → (k : KnownMap) → AreListed k → AreListed (record k { map_state = record k.map_state { table = at_entry g f k.map_state.table } })
listed_on g f same k listed = record {
  placed = all-turn _ _ (λ p h. has-on (canon p) g f same k.map_state.table.entries ∙ h) k.given listed.placed;
  apart = listed.apart;
}

pub listed_updated : (g : AttributeSet) (v : Sample) (k : KnownMap) → AreListed k → AreListed (record k { map_state = updated_bound g v k.map_state })
listed_updated g v k listed = let l = listed_on g (write v) (λ e. refl) k listed in record { placed = l.placed; apart = l.apart }

pub listed_unbound : (g : AttributeSet) (k : KnownMap) → AreListed k → AreListed (record k { map_state = unbound_map g k.map_state })
listed_unbound g k listed = let l = listed_on g drop_handle (λ e. refl) k listed in record { placed = l.placed; apart = l.apart }

-- the set of a list gets a place
listed_place : (l : List KeyValue) (k : KnownMap) (es : List Entry) → AreListed k
    → ((s : AttributeSet) → has s (entries_with_place k.map_state.limit k.map_state.empty (canon l) k.map_state.table.entries) ≡ true → has s es ≡ true)
    → AllByRecursion (λ p. has (canon p) es ≡ true) (given_with l k) × IsDistinct set_eq (map canon (given_with l k))
listed_place l k es listed grows = go (is_admitted (canon l) k.map_state && not (set_eq (canon l) l)) refl
  where
    old : List Entry
    old = k.map_state.table.entries

    there : AllByRecursion (λ p. has (canon p) es ≡ true) k.given
    there = all-turn _ _ (λ p h. grows (canon p) (has-placed k.map_state.limit k.map_state.empty (canon l) (canon p) old h)) k.given listed.placed

    new : has (canon l) old ≡ false → (b : Bool) → is_member set_eq (map canon k.given) (canon l) ≡ b → b ≡ false
    new away true h = absurd (false≢true (sym away ∙ listed-has (canon l) old k.given listed.placed h))
    new away false h = refl

    go : (b : Bool) → (is_admitted (canon l) k.map_state && not (set_eq (canon l) l)) ≡ b
        → AllByRecursion (λ p. has (canon p) es ≡ true) (k.given ++ cond b (l ∷ []) []) × IsDistinct set_eq (map canon (k.given ++ cond b (l ∷ []) []))
    go true e =
        let a : is_admitted (canon l) k.map_state ≡ true = (and_parts (is_admitted (canon l) k.map_state) (not (set_eq (canon l) l)) e).0 in
        let unlisted : is_member set_eq (map canon k.given) (canon l) ≡ false = new (absent (canon l) k.map_state a) (is_member set_eq (map canon k.given) (canon l)) refl in (
          all-push (λ p. has (canon p) es ≡ true) k.given l there (grows (canon l) (has-admitted (canon l) k.map_state a)),
          subst (IsDistinct set_eq) (sym (map-append canon k.given (l ∷ []))) (IsDistinct-push (lists_equiv key_value_eq_equiv) (map canon k.given) (canon l) listed.apart unlisted),
        )
    go false e = (subst (AllByRecursion (λ p. has (canon p) es ≡ true)) (sym (append-nil k.given)) there, subst (λ ls. IsDistinct set_eq (map canon ls)) (sym (append-nil k.given)) listed.apart)

pub listed_measured : (l : List KeyValue) (v : Sample) (k : KnownMap) → AreListed k → AreListed (measured_list l v k)
listed_measured l v k listed =
    let es : List Entry = entries_with_place k.map_state.limit k.map_state.empty (canon l) k.map_state.table.entries in
    let q = listed_place l k (measured_list l v k).map_state.table.entries listed (λ s h. has-on s (entry_for (canon l) es) (write v) (λ e. refl) es ∙ h) in
    record { placed = q.0; apart = q.1 }

pub listed_bound : (l : List KeyValue) (k : KnownMap) → AreListed k → AreListed (bound_list l k)
listed_bound l k listed =
    let es : List Entry = entries_with_place k.map_state.limit k.map_state.empty (canon l) k.map_state.table.entries in
    let q = listed_place l k (bound_list l k).map_state.table.entries listed (λ s h. has-on s (entry_for (canon l) es) take_handle (λ e. refl) es ∙ h) in
    record { placed = q.0; apart = q.1 }
