-- Two builds that agree in what makes a stream the same feed the same streams.
use Rattle.std.proofs.Common.{◌≡◌, ℕ, zero, suc, Bool, true, false, List, [], ◌∷◌, ◌++◌, map, refl, sym, ◌∙◌, ap, Option, Some, None, subst, cond, ◌||◌, append_assoc}
use Rattle.std.specs.Prelude.{◌&&◌, not, filter, slice_get, ℤ}
use Rattle.std.specs.List.{list_any}
use Rattle.std.proofs.lemmas.Bool.{false≢true}
use Rattle.std.proofs.lemmas.List.{append-nil, map-append}
use Rattle.otel_common.specs.declared.scopes.InstrumentationScope.{InstrumentationScope}
use Rattle.otel_model.specs.Calls.{Text, ascii_lowercase, or_else, About, InstrumentKind, Counter, UpDownCounter, Histogram, ObservableCounter, ObservableUpDownCounter, Gauge, ObservableGauge}
use Rattle.otel_model.specs.Demands.{Identity, identity_eq, Demand, Views, View, ReaderAnswers, StreamSpec, nothing_said, Aggregation, Drop, Default, Sum, LastValue, ExplicitBucketHistogram, fits, with_bounds, with_own, reader_default, resolved_aggregation, instrument_of, demand_of, own_demand, add_answer, view_demands, is_compatible, fate_of, is_drop_fate, is_dropped, is_known, is_empty, needs_own, demands_with, demands_on, is_good, has_identity, each_once, fed_identities}
use Rattle.otel_model.specs.History.{Built, demands_after, feeds_of, builds_in, made_calls}
use Rattle.otel_model.specs.Builds.{AreAlike, AlikeFeedTheSame}
use Rattle.otel_model.proofs.Gather.{known_here}
use Rattle.otel_model.proofs.Runs.{feeds_law}
use Rattle.otel_model.proofs.Single.{some_is}

-- ======== what a demand is for needs_own: its identity, and whether it is compatible ========
abbrev Mark : Type 0
Mark = Identity × Bool

abbrev mark : Demand → Mark
mark d = (d.identity, is_compatible d)

abbrev marks : List Demand → List Mark
marks ds = map mark ds

abbrev pub ids : List Demand → List Identity
ids ds = map (λ (d : Demand). d.identity) ds

abbrev compatible_ids : List Mark → List Identity
compatible_ids ms = map (λ (m : Mark). m.0) (filter (λ (m : Mark). m.1) ms)

ids_compatible : (ds : List Demand) → ids (filter is_compatible ds) ≡ compatible_ids (marks ds)
ids_compatible [] = refl
ids_compatible (d ∷ ds) = go (is_compatible d) (ids_compatible ds)
  where
    go : (b : Bool) → ids (filter is_compatible ds) ≡ compatible_ids (marks ds)
        → ids (cond b (d ∷ filter is_compatible ds) (filter is_compatible ds)) ≡ map (λ (m : Mark). m.0) (cond b (mark d ∷ filter (λ (m : Mark). m.1) (marks ds)) (filter (λ (m : Mark). m.1) (marks ds)))
    go true e = ap (λ l. d.identity ∷ l) e
    go false e = e

abbrev no_marks : List Mark → Bool
no_marks [] = true
no_marks (m ∷ ms) = false

abbrev kept_any : (Identity → Bool) → List Identity → Bool
kept_any dropped xs = list_any (λ x. not (dropped x)) xs

abbrev needs_by : (Identity → Bool) → List Mark → Bool
needs_by dropped ms = no_marks ms || (list_any (λ (m : Mark). not m.1) ms && not (kept_any dropped (compatible_ids ms)))

empty_is : (ds : List Demand) → is_empty ds ≡ no_marks (marks ds)
empty_is [] = refl
empty_is (d ∷ ds) = refl

incompatible_is : (ds : List Demand) → list_any (λ d. not (is_compatible d)) ds ≡ list_any (λ (m : Mark). not m.1) (marks ds)
incompatible_is [] = refl
incompatible_is (d ∷ ds) = ap (λ b. not (is_compatible d) || b) (incompatible_is ds)

any_ids : (dropped : Identity → Bool) (ds : List Demand) → list_any (λ (d : Demand). not (dropped d.identity)) ds ≡ kept_any dropped (ids ds)
any_ids dropped [] = refl
any_ids dropped (d ∷ ds) = ap (λ b. not (dropped d.identity) || b) (any_ids dropped ds)

needs_is : (dropped : Identity → Bool) (ds : List Demand) → needs_own dropped ds ≡ needs_by dropped (marks ds)
needs_is dropped ds = λ i. empty_is ds i || (incompatible_is ds i && not ((any_ids dropped (filter is_compatible ds) ∙ ap (kept_any dropped) (ids_compatible ds)) i))

-- ======== what views answer ========
module _ (answers : ReaderAnswers) (scope : InstrumentationScope) where
  abbrev from_answers : About → List (Option StreamSpec) → List Demand
  from_answers about [] = []
  from_answers about (o ∷ os) = add_answer answers scope about o (from_answers about os)

  views_answer : (views : Views) (about : About) → view_demands views answers scope about ≡ from_answers about (map (λ (view : View). view (instrument_of scope about)) views)
  views_answer [] about = refl
  views_answer (view ∷ views) about = ap (add_answer answers scope about (view (instrument_of scope about))) (views_answer views about)

-- own bounds make no aggregation fit or not fit
fits_bounds : (k : InstrumentKind) (own : Option (List ℤ)) (a : Aggregation) → fits k (with_bounds own a) ≡ fits k a
fits_bounds k None a = refl
fits_bounds k (Some own) Drop = refl
fits_bounds k (Some own) Default = refl
fits_bounds k (Some own) Sum = refl
fits_bounds k (Some own) LastValue = refl
fits_bounds k (Some own) (ExplicitBucketHistogram bounds m) = refl

fits_own : (k kind : InstrumentKind) (own : Option (List ℤ)) (a : Aggregation) → fits k (with_own kind own a) ≡ fits k a
fits_own k Counter own a = refl
fits_own k UpDownCounter own a = refl
fits_own k Histogram own a = fits_bounds k own a
fits_own k ObservableCounter own a = refl
fits_own k ObservableUpDownCounter own a = refl
fits_own k Gauge own a = refl
fits_own k ObservableGauge own a = refl

abbrev plainly : ReaderAnswers → InstrumentKind → Option Aggregation → Aggregation
plainly answers kind None = reader_default answers kind
plainly answers kind (Some Default) = reader_default answers kind
plainly answers kind (Some a) = a

fits_plainly : (answers : ReaderAnswers) (about : About) (o : Option Aggregation) → fits about.kind (resolved_aggregation answers about o) ≡ fits about.kind (plainly answers about.kind o)
fits_plainly answers about None = fits_own about.kind about.kind about.bounds (reader_default answers about.kind)
fits_plainly answers about (Some Default) = refl
fits_plainly answers about (Some Drop) = refl
fits_plainly answers about (Some Sum) = refl
fits_plainly answers about (Some LastValue) = refl
fits_plainly answers about (Some (ExplicitBucketHistogram bounds m)) = refl

same_name : (o : Option Text) (s t : Text) → ascii_lowercase s ≡ ascii_lowercase t → ascii_lowercase (or_else o s) ≡ ascii_lowercase (or_else o t)
same_name None s t e = e
same_name (Some n) s t e = refl

-- ======== fates after more demands ========
abbrev AllIds : (Identity → Type 0) → List Identity → Type 0
AllIds P [] = Unit {0}
AllIds P (x ∷ xs) = P x × AllIds P xs

all_weaker : (P Q : Identity → Type 0) (xs : List Identity) → ((x : Identity) → P x → Q x) → AllIds P xs → AllIds Q xs
all_weaker P Q [] h a = tt
all_weaker P Q (x ∷ xs) h a = (h x a.0, all_weaker P Q xs h a.1)

known_all : (before ds : List Demand) → AllIds (λ x. is_known (before ++ ds) x ≡ true) (ids ds)
known_all before [] = tt
known_all before (d ∷ ds) =
    let P : List Demand → Type 0 = λ l. AllIds (λ x. is_known l x ≡ true) (ids ds) in
    (known_here before d ds, subst P (append_assoc before (d ∷ []) ds) (known_all (before ++ d ∷ []) ds))

pub fate_stays : (ds more : List Demand) (x : Identity) → is_known ds x ≡ true → fate_of (ds ++ more) x ≡ fate_of ds x
fate_stays [] more x e = absurd (false≢true e)
fate_stays (d ∷ ds) more x e = go (identity_eq d.identity x) e (fate_stays ds more x)
  where
    go : (b : Bool) → (b || is_known ds x) ≡ true → (is_known ds x ≡ true → fate_of (ds ++ more) x ≡ fate_of ds x) → cond b (Some d) (fate_of (ds ++ more) x) ≡ cond b (Some d) (fate_of ds x)
    go true e ih = refl
    go false e ih = ih e

dropped_stays : (ds more : List Demand) (x : Identity) → is_known ds x ≡ true → is_dropped (ds ++ more) x ≡ is_dropped ds x
dropped_stays ds more x e = ap is_drop_fate (fate_stays ds more x e)

any_alike : (p q : Identity → Bool) (xs : List Identity) → AllIds (λ x. p x ≡ q x) xs → kept_any p xs ≡ kept_any q xs
any_alike p q [] a = refl
any_alike p q (x ∷ xs) a = λ i. not (a.0 i) || any_alike p q xs a.1 i

once_alike : (p q : Identity → Bool) (seen xs : List Identity) → AllIds (λ x. p x ≡ q x) xs → filter (λ x. not (p x)) (each_once seen xs) ≡ filter (λ x. not (q x)) (each_once seen xs)
once_alike p q seen [] a = refl
once_alike p q seen (x ∷ xs) a = go (has_identity seen x) (once_alike p q seen xs a.1) (once_alike p q (x ∷ seen) xs a.1)
  where
    go : (b : Bool) → filter (λ x. not (p x)) (each_once seen xs) ≡ filter (λ x. not (q x)) (each_once seen xs)
        → filter (λ x. not (p x)) (each_once (x ∷ seen) xs) ≡ filter (λ x. not (q x)) (each_once (x ∷ seen) xs)
        → filter (λ x. not (p x)) (cond b (each_once seen xs) (x ∷ each_once (x ∷ seen) xs)) ≡ filter (λ x. not (q x)) (cond b (each_once seen xs) (x ∷ each_once (x ∷ seen) xs))
    go true e f = e
    go false e f = λ i. cond (not (a.0 i)) (x ∷ f i) (f i)

-- ======== two builds ========
module _ (views : Views) (answers : ReaderAnswers) where
  -- the demands of a good build on a scope
  abbrev of_views : InstrumentationScope → About → List Demand
  of_views scope about = filter is_compatible (view_demands views answers scope about)

  abbrev with_own_demand : List Demand → InstrumentationScope → About → List Demand
  with_own_demand earlier scope about = demands_with (λ ds. is_dropped (earlier ++ ds)) views answers scope about

  good_demands : (earlier : List Demand) (i : Built) (scope : InstrumentationScope) → i.scope ≡ Some scope → is_good i.about ≡ true → demands_after views answers earlier i ≡ with_own_demand earlier scope i.about
  good_demands earlier i scope e g =
      ap (λ s. demands_on (λ ds. is_dropped (earlier ++ ds)) views answers s i.about) e
      ∙ ap (λ b. cond b (with_own_demand earlier scope i.about) []) g

  abbrev own_needed : List Demand → InstrumentationScope → About → Bool
  own_needed earlier scope about = needs_own (is_dropped (earlier ++ of_views scope about)) (view_demands views answers scope about)

  if_own : (b : Bool) (d : Demand) → ids (cond b (d ∷ []) []) ≡ cond b (d.identity ∷ []) []
  if_own true d = refl
  if_own false d = refl

  ids_are : (earlier : List Demand) (scope : InstrumentationScope) (about : About)
      → ids (with_own_demand earlier scope about) ≡ ids (of_views scope about) ++ cond (own_needed earlier scope about) ((own_demand answers scope about).identity ∷ []) []
  ids_are earlier scope about =
      map-append (λ (d : Demand). d.identity) (of_views scope about) (cond (own_needed earlier scope about) (own_demand answers scope about ∷ []) [])
      ∙ ap (λ l. ids (of_views scope about) ++ l) (if_own (own_needed earlier scope about) (own_demand answers scope about))

  module _ (i j : Built) (h : AreAlike views i j) where
    same_mark : (s : StreamSpec) → mark (demand_of answers h.scope i.about s) ≡ mark (demand_of answers h.scope j.about s)
    same_mark s = λ k. (
      record { scope = h.scope; kind = h.kind k; signed = h.signed k; description = or_else s.description (h.description k); unit = or_else s.unit (h.unit k); name = same_name s.name i.about.name j.about.name h.name k },
      (fits_plainly answers i.about s.aggregation ∙ (ap (λ kind. fits kind (plainly answers kind s.aggregation)) h.kind ∙ sym (fits_plainly answers j.about s.aggregation))) k,
    )

    same_answers : (os : List (Option StreamSpec)) → marks (from_answers answers h.scope i.about os) ≡ marks (from_answers answers h.scope j.about os)
    same_answers [] = refl
    same_answers (None ∷ os) = same_answers os
    same_answers (Some s ∷ os) = λ k. same_mark s k ∷ same_answers os k

    same_marks : marks (view_demands views answers h.scope i.about) ≡ marks (view_demands views answers h.scope j.about)
    same_marks =
        ap marks (views_answer answers h.scope views i.about)
        ∙ (ap (λ os. marks (from_answers answers h.scope i.about os)) h.answers
        ∙ (same_answers (map (λ (view : View). view (instrument_of h.scope j.about)) views)
        ∙ sym (ap marks (views_answer answers h.scope views j.about))))

    same_ids : ids (of_views h.scope i.about) ≡ ids (of_views h.scope j.about)
    same_ids = ids_compatible (view_demands views answers h.scope i.about) ∙ (ap compatible_ids same_marks ∙ sym (ids_compatible (view_demands views answers h.scope j.about)))

    -- the own default is demanded by both or by none. `more` comes between
    same_need : (earlier more : List Demand) → own_needed earlier h.scope i.about ≡ needs_own (is_dropped ((earlier ++ of_views h.scope i.about) ++ more)) (view_demands views answers h.scope j.about)
    same_need earlier more =
        needs_is (is_dropped known) vs
        ∙ ((λ k. no_marks (marks vs) || (list_any (λ (m : Mark). not m.1) (marks vs) && not (fates k)))
        ∙ (ap (needs_by (is_dropped (known ++ more))) same_marks
        ∙ sym (needs_is (is_dropped (known ++ more)) (view_demands views answers h.scope j.about))))
      where
        vs : List Demand
        vs = view_demands views answers h.scope i.about

        known : List Demand
        known = earlier ++ of_views h.scope i.about

        fates : kept_any (is_dropped known) (compatible_ids (marks vs)) ≡ kept_any (is_dropped (known ++ more)) (compatible_ids (marks vs))
        fates =
            ap (kept_any (is_dropped known)) (sym (ids_compatible vs))
            ∙ (any_alike (is_dropped known) (is_dropped (known ++ more)) (ids (of_views h.scope i.about))
            (all_weaker (λ x. is_known known x ≡ true) (λ x. is_dropped known x ≡ is_dropped (known ++ more) x) (ids (of_views h.scope i.about)) (λ x e. sym (dropped_stays known more x e)) (known_all earlier (of_views h.scope i.about)))
            ∙ ap (kept_any (is_dropped (known ++ more))) (ids_compatible vs))

    first_demands : List Demand → List Demand
    first_demands earlier = with_own_demand earlier h.scope i.about

    -- what comes between the first's view demands and the second's
    abbrev between : List Demand → List Demand → List Demand
    between earlier more = (cond (own_needed earlier h.scope i.about) (own_demand answers h.scope i.about ∷ []) [] ++ more) ++ of_views h.scope j.about

    regroup : (earlier more : List Demand) → ((earlier ++ with_own_demand earlier h.scope i.about) ++ more) ++ of_views h.scope j.about ≡ (earlier ++ of_views h.scope i.about) ++ between earlier more
    regroup earlier more =
        let own = cond (own_needed earlier h.scope i.about) (own_demand answers h.scope i.about ∷ []) [] in
        ap (λ l. (l ++ more) ++ of_views h.scope j.about) (sym (append_assoc earlier (of_views h.scope i.about) own))
        ∙ (ap (λ l. l ++ of_views h.scope j.about) (append_assoc (earlier ++ of_views h.scope i.about) own more)
        ∙ append_assoc (earlier ++ of_views h.scope i.about) (own ++ more) (of_views h.scope j.about))

    same_all : (earlier more : List Demand) → ids (with_own_demand earlier h.scope i.about) ≡ ids (with_own_demand ((earlier ++ with_own_demand earlier h.scope i.about) ++ more) h.scope j.about)
    same_all earlier more =
        ids_are earlier h.scope i.about
        ∙ ((λ k. same_ids k ++ cond ((same_need earlier (between earlier more) ∙ ap (λ l. needs_own (is_dropped l) (view_demands views answers h.scope j.about)) (sym (regroup earlier more))) k) ((same_mark nothing_said k).0 ∷ []) [])
        ∙ sym (ids_are ((earlier ++ with_own_demand earlier h.scope i.about) ++ more) h.scope j.about))

    -- the streams that the second feeds are those that the first feeds
    same_fed : (earlier more : List Demand)
        → fed_identities (is_dropped (earlier ++ with_own_demand earlier h.scope i.about)) (with_own_demand earlier h.scope i.about)
        ≡ fed_identities (is_dropped (((earlier ++ with_own_demand earlier h.scope i.about) ++ more) ++ with_own_demand ((earlier ++ with_own_demand earlier h.scope i.about) ++ more) h.scope j.about)) (with_own_demand ((earlier ++ with_own_demand earlier h.scope i.about) ++ more) h.scope j.about)
    same_fed earlier more =
        once_alike (is_dropped known) (is_dropped (known ++ (more ++ later))) [] (ids first)
        (all_weaker (λ x. is_known known x ≡ true) (λ x. is_dropped known x ≡ is_dropped (known ++ (more ++ later)) x) (ids first) (λ x e. sym (dropped_stays known (more ++ later) x e)) (known_all earlier first))
        ∙ ((λ k. filter (λ x. not (is_dropped (known ++ (more ++ later)) x)) (each_once [] (same_all earlier more k)))
        ∙ ap (λ l. fed_identities (is_dropped l) later) (sym (append_assoc known more later)))
      where
        first : List Demand
        first = with_own_demand earlier h.scope i.about

        known : List Demand
        known = earlier ++ with_own_demand earlier h.scope i.about

        later : List Demand
        later = with_own_demand ((earlier ++ with_own_demand earlier h.scope i.about) ++ more) h.scope j.about

  -- ======== in a list of builds ========
  abbrev fed_at : List Demand → Built → List Identity
  fed_at earlier i = fed_identities (is_dropped (earlier ++ demands_after views answers earlier i)) (demands_after views answers earlier i)

  fed_good : (earlier : List Demand) (i : Built) (scope : InstrumentationScope) → i.scope ≡ Some scope → is_good i.about ≡ true
      → fed_at earlier i ≡ fed_identities (is_dropped (earlier ++ with_own_demand earlier scope i.about)) (with_own_demand earlier scope i.about)
  fed_good earlier i scope e g = ap (λ ds. fed_identities (is_dropped (earlier ++ ds)) ds) (good_demands earlier i scope e g)

  same_at : (i j : Built) → AreAlike views i j → (earlier more : List Demand) → fed_at earlier i ≡ fed_at ((earlier ++ demands_after views answers earlier i) ++ more) j
  same_at i j h earlier more =
      fed_good earlier i h.scope h.first_scope h.first_good
      ∙ (same_fed i j h earlier more
      ∙ (sym (fed_good ((earlier ++ with_own_demand earlier h.scope i.about) ++ more) j h.scope h.second_scope h.second_good)
      ∙ ap (λ ds. fed_at ((earlier ++ ds) ++ more) j) (sym (good_demands earlier i h.scope h.first_scope h.first_good))))

  -- a build later in the list
  later_at : (earlier : List Demand) (is : List Built) (n : ℕ) (j : Built) → slice_get is n ≡ Some j → (more : List Demand) × (slice_get (feeds_of views answers earlier is) n ≡ Some (fed_at (earlier ++ more) j))
  later_at earlier [] n j e = absurd (cc)
  later_at earlier (k ∷ is) zero j e = ([], λ x. Some (fed_at (sym (append-nil earlier) x) (some_is k j e x)))
  later_at earlier (k ∷ is) (suc n) j e =
      let q = later_at (earlier ++ demands_after views answers earlier k) is n j e in
      (demands_after views answers earlier k ++ q.0, q.1 ∙ ap (λ ds. Some (fed_at ds j)) (append_assoc earlier (demands_after views answers earlier k) q.0))

  turned : (i j : Built) → AreAlike views i j → AreAlike views j i
  turned i j h = record {
    scope = h.scope;
    first_scope = h.second_scope;
    second_scope = h.first_scope;
    first_good = h.second_good;
    second_good = h.first_good;
    kind = sym h.kind;
    signed = sym h.signed;
    description = sym h.description;
    unit = sym h.unit;
    name = sym h.name;
    answers = sym h.answers;
  }

  -- the first of the list and a later one
  with_first : (earlier : List Demand) (i : Built) (is : List Built) (n : ℕ) (j : Built) → slice_get is n ≡ Some j → AreAlike views i j
      → Some (fed_at earlier i) ≡ slice_get (feeds_of views answers (earlier ++ demands_after views answers earlier i) is) n
  with_first earlier i is n j e h =
      let q = later_at (earlier ++ demands_after views answers earlier i) is n j e in
      ap (λ l. Some l) (same_at i j h earlier q.0) ∙ sym q.1

  pub both_at : (earlier : List Demand) (is : List Built) (m n : ℕ) (i j : Built) → slice_get is m ≡ Some i → slice_get is n ≡ Some j → AreAlike views i j
      → slice_get (feeds_of views answers earlier is) m ≡ slice_get (feeds_of views answers earlier is) n
  both_at earlier [] m n i j e f h = absurd (cc)
  both_at earlier (k ∷ is) zero zero i j e f h = refl
  both_at earlier (k ∷ is) zero (suc n) i j e f h = with_first earlier k is n j f (subst (λ x. AreAlike views x j) (sym (some_is k i e)) h)
  both_at earlier (k ∷ is) (suc m) zero i j e f h = sym (with_first earlier k is m i e (subst (λ x. AreAlike views x i) (sym (some_is k j f)) (turned i j h)))
  both_at earlier (k ∷ is) (suc m) (suc n) i j e f h = both_at (earlier ++ demands_after views answers earlier k) is m n i j e f h

pub alike_law : AlikeFeedTheSame
alike_law views resource identity readers calls replies new run r answers part g p m n i j e f h =
    let same = feeds_law views resource identity readers calls replies new run r answers part g p in
    ap (λ fs. slice_get fs m) same ∙ (both_at views answers [] (builds_in (made_calls calls replies)) m n i j e f h ∙ sym (ap (λ fs. slice_get fs n) same))
