-- A reader's streams have identities of their own, and an instrument feeds each of its streams once.
use Rattle.std.proofs.Common.{◌≡◌, ⊎_elim, ℕ, zero, suc, Bool, true, false, List, [], ◌∷◌, ◌++◌, map, refl, sym, ◌∙◌, ap, Some, subst, cond, ◌||◌, append_assoc}
use Rattle.std.specs.Prelude.{filter, not, slice_get}
use Rattle.std.proofs.lemmas.Bool.{cases_Bool, true≢false, false≢true, or_parts}
use Rattle.std.proofs.lemmas.List.{append-nil}
use Rattle.otel_model.specs.Demands.{Identity, identity_eq, Demand, Views, ReaderAnswers, fate_of, is_drop, is_drop_fate, is_dropped, is_known, has_identity, each_once, fed_identities}
use Rattle.otel_model.specs.History.{Built, firsts, demands_after, demands_of, streams_of, feeds_of, builds_in, made_calls}
use Rattle.otel_model.specs.Sent.{is_fed}
use Rattle.otel_model.specs.State.{Stream}
use Rattle.otel_model.specs.Laws.{AreApart, AreStreamsApart, AreFeedsApart, AreFeedsStreams}
use Rattle.otel_model.proofs.Gather.{identity_eq_true, identity_eq_self, fate_firsts, map_both}
use Rattle.otel_model.proofs.Numbering.{ids, streams_apart}
use Rattle.otel_model.proofs.Runs.{streams_law, feeds_law}
use Rattle.otel_model.proofs.Single.{some_is}
use Rattle.otel_model.proofs.Alike.{fate_stays}
use Rattle.otel_model.proofs.Amounts.{or_false}
use Rattle.otel_model.proofs.Feeding.{is_one, or_right, fed_demanded}

-- ======== each once ========
-- what was seen doesn't come again
unseen : (seen xs : List Identity) (y : Identity) → has_identity seen y ≡ true → has_identity (each_once seen xs) y ≡ false
unseen seen [] y e = refl
unseen seen (x ∷ xs) y e = go (has_identity seen x) refl (unseen seen xs y e) (unseen (x ∷ seen) xs y (or_right (identity_eq x y) (has_identity seen y) e))
  where
    other : has_identity seen x ≡ false → identity_eq x y ≡ false
    other n = ⊎_elim (λ t. absurd (true≢false (sym e ∙ (ap (has_identity seen) (sym (identity_eq_true x y t)) ∙ n)))) (λ t. t) (cases_Bool (identity_eq x y))

    go : (b : Bool) → has_identity seen x ≡ b → has_identity (each_once seen xs) y ≡ false → has_identity (each_once (x ∷ seen) xs) y ≡ false
        → has_identity (cond b (each_once seen xs) (x ∷ each_once (x ∷ seen) xs)) y ≡ false
    go true n f g = f
    go false n f g = or_false (identity_eq x y) (has_identity (each_once (x ∷ seen) xs) y) (other n) g

once_apart : (seen xs : List Identity) → AreApart (each_once seen xs)
once_apart seen [] = tt
once_apart seen (x ∷ xs) = go (has_identity seen x) (once_apart seen xs) (once_apart (x ∷ seen) xs)
  where
    go : (b : Bool) → AreApart (each_once seen xs) → AreApart (each_once (x ∷ seen) xs) → AreApart (cond b (each_once seen xs) (x ∷ each_once (x ∷ seen) xs))
    go true f g = f
    go false f g = (unseen (x ∷ seen) xs x (ap (λ b. b || has_identity seen x) (identity_eq_self x)), g)

absent_filtered : (p : Identity → Bool) (xs : List Identity) (y : Identity) → has_identity xs y ≡ false → has_identity (filter p xs) y ≡ false
absent_filtered p [] y e = refl
absent_filtered p (x ∷ xs) y e =
    let q = or_parts (identity_eq x y) (has_identity xs y) e in
    go (p x) q.0 (absent_filtered p xs y q.1)
  where
    go : (b : Bool) → identity_eq x y ≡ false → has_identity (filter p xs) y ≡ false → has_identity (cond b (x ∷ filter p xs) (filter p xs)) y ≡ false
    go true f g = or_false (identity_eq x y) (has_identity (filter p xs) y) f g
    go false f g = g

filter_apart : (p : Identity → Bool) (xs : List Identity) → AreApart xs → AreApart (filter p xs)
filter_apart p [] a = tt
filter_apart p (x ∷ xs) a = go (p x) (absent_filtered p xs x a.0) (filter_apart p xs a.1)
  where
    go : (b : Bool) → has_identity (filter p xs) x ≡ false → AreApart (filter p xs) → AreApart (cond b (x ∷ filter p xs) (filter p xs))
    go true f g = (f, g)
    go false f g = g

fed_apart : (dropped : Identity → Bool) (ds : List Demand) → AreApart (fed_identities dropped ds)
fed_apart dropped ds = filter_apart (λ x. not (dropped x)) (each_once [] (ids ds)) (once_apart [] (ids ds))

feeds_apart : (views : Views) (answers : ReaderAnswers) (earlier : List Demand) (is : List Built) (n : ℕ) (xs : List Identity) → slice_get (feeds_of views answers earlier is) n ≡ Some xs → AreApart xs
feeds_apart views answers earlier [] n xs e = absurd (cc)
feeds_apart views answers earlier (i ∷ is) zero xs e =
    subst AreApart (some_is _ xs e) (fed_apart (is_dropped (earlier ++ demands_after views answers earlier i)) (demands_after views answers earlier i))
feeds_apart views answers earlier (i ∷ is) (suc n) xs e = feeds_apart views answers (earlier ++ demands_after views answers earlier i) is n xs e

-- ======== what is fed is a stream ========
-- the fate of what is fed is not `Drop`
not_dropped : (p : Identity → Bool) (xs : List Identity) (y : Identity) → has_identity (filter (λ x. not (p x)) xs) y ≡ true → p y ≡ false
not_dropped p [] y e = absurd (false≢true e)
not_dropped p (x ∷ xs) y e = go (p x) refl e (not_dropped p xs y)
  where
    go : (b : Bool) → p x ≡ b → has_identity (cond (not b) (x ∷ filter (λ x. not (p x)) xs) (filter (λ x. not (p x)) xs)) y ≡ true
        → (has_identity (filter (λ x. not (p x)) xs) y ≡ true → p y ≡ false) → p y ≡ false
    go true f e ih = ih e
    go false f e ih = ⊎_elim (λ t. ap p (sym (identity_eq_true x y t)) ∙ f) ih (is_one (identity_eq x y) (has_identity (filter (λ x. not (p x)) xs) y) e)

-- a known identity has a fate
fate_there : (ds : List Demand) (x : Identity) → is_known ds x ≡ true → (d : Demand) × (fate_of ds x ≡ Some d)
fate_there [] x e = absurd (false≢true e)
fate_there (d ∷ ds) x e = go (identity_eq d.identity x) e (fate_there ds x)
  where
    go : (b : Bool) → (b || is_known ds x) ≡ true → (is_known ds x ≡ true → (d : Demand) × (fate_of ds x ≡ Some d)) → (c : Demand) × (cond b (Some d) (fate_of ds x) ≡ Some c)
    go true e ih = (d, refl)
    go false e ih = ih e

abbrev keeps : Demand → Bool
keeps d = not (is_drop d.aggregation)

-- whose fate does not drop has a stream
has_stream : (ds : List Demand) (x : Identity) (d : Demand) → fate_of ds x ≡ Some d → is_drop d.aggregation ≡ false → has_identity (ids (filter keeps ds)) x ≡ true
has_stream [] x d e f = absurd (cc)
has_stream (c ∷ ds) x d e f = ⊎_elim
    (λ t. here (is_drop c.aggregation) (ap (λ (k : Demand). is_drop k.aggregation) (some_is c d (sym (ap (λ b. cond b (Some c) (fate_of ds x)) t) ∙ e)) ∙ f) t)
    (λ t. there (is_drop c.aggregation) (has_stream ds x d (sym (ap (λ b. cond b (Some c) (fate_of ds x)) t) ∙ e) f))
    (cases_Bool (identity_eq c.identity x))
  where
    here : (b : Bool) → b ≡ false → identity_eq c.identity x ≡ true → has_identity (ids (cond (not b) (c ∷ filter keeps ds) (filter keeps ds))) x ≡ true
    here true n t = absurd (true≢false n)
    here false n t = λ i. t i || has_identity (ids (filter keeps ds)) x

    there : (b : Bool) → has_identity (ids (filter keeps ds)) x ≡ true → has_identity (ids (cond (not b) (c ∷ filter keeps ds) (filter keeps ds))) x ≡ true
    there true g = g
    there false g = or_right (identity_eq c.identity x) (has_identity (ids (filter keeps ds)) x) g

known_stays : (ds more : List Demand) (x : Identity) → is_known ds x ≡ true → is_known (ds ++ more) x ≡ true
known_stays [] more x e = absurd (false≢true e)
known_stays (d ∷ ds) more x e = go (identity_eq d.identity x) e (known_stays ds more x)
  where
    go : (b : Bool) → (b || is_known ds x) ≡ true → (is_known ds x ≡ true → is_known (ds ++ more) x ≡ true) → (b || is_known (ds ++ more) x) ≡ true
    go true e ih = refl
    go false e ih = ih e

known_later : (ds more : List Demand) (x : Identity) → is_known more x ≡ true → is_known (ds ++ more) x ≡ true
known_later [] more x e = e
known_later (d ∷ ds) more x e = go (identity_eq d.identity x) (known_later ds more x e)
  where
    go : (b : Bool) → is_known (ds ++ more) x ≡ true → (b || is_known (ds ++ more) x) ≡ true
    go true e = refl
    go false e = e

-- demands only grow
grown : (views : Views) (answers : ReaderAnswers) (earlier : List Demand) (is : List Built) → (more : List Demand) × (demands_of views answers earlier is ≡ earlier ++ more)
grown views answers earlier [] = ([], sym (append-nil earlier))
grown views answers earlier (i ∷ is) =
    let q = grown views answers (earlier ++ demands_after views answers earlier i) is in
    (demands_after views answers earlier i ++ q.0, q.1 ∙ append_assoc earlier (demands_after views answers earlier i) q.0)

-- what a build feeds is known and not dropped after all builds
fed_stays : (views : Views) (answers : ReaderAnswers) (earlier : List Demand) (is : List Built) (n : ℕ) (x : Identity) → is_fed (feeds_of views answers earlier is) n x ≡ true
    → (is_known (demands_of views answers earlier is) x ≡ true) × (is_dropped (demands_of views answers earlier is) x ≡ false)
fed_stays views answers earlier [] n x e = absurd (false≢true e)
fed_stays views answers earlier (i ∷ is) zero x e =
    let now = demands_after views answers earlier i in
    let known : is_known (earlier ++ now) x ≡ true = known_later earlier now x (fed_demanded (is_dropped (earlier ++ now)) now x e) in
    let q = grown views answers (earlier ++ now) is in (
      ap (λ l. is_known l x) q.1 ∙ known_stays (earlier ++ now) q.0 x known,
      ap (λ l. is_dropped l x) q.1 ∙ (ap is_drop_fate (fate_stays (earlier ++ now) q.0 x known) ∙ not_dropped (is_dropped (earlier ++ now)) (each_once [] (ids now)) x e),
    )
fed_stays views answers earlier (i ∷ is) (suc n) x e = fed_stays views answers (earlier ++ demands_after views answers earlier i) is n x e

fed_is_stream : (views : Views) (answers : ReaderAnswers) (is : List Built) (n : ℕ) (x : Identity) → is_fed (feeds_of views answers [] is) n x ≡ true → has_identity (ids (streams_of views answers is)) x ≡ true
fed_is_stream views answers is n x e =
    let ds = demands_of views answers [] is in
    let q = fed_stays views answers [] is n x e in
    let f = fate_there ds x q.0 in
    has_stream (firsts ds) x f.0 (fate_firsts ds x ∙ f.1) (sym (ap is_drop_fate f.1) ∙ q.1)

-- ======== the laws ========
-- the identities of streams are those of their demands
names_are : (ss : List Stream) → map (λ (s : Stream). s.demand.identity) ss ≡ ids (map (λ (s : Stream). s.demand) ss)
names_are ss = sym (map_both (λ (d : Demand). d.identity) (λ (s : Stream). s.demand) (λ (s : Stream). s.demand.identity) ss (λ s. refl))

pub streams_apart_law : AreStreamsApart
streams_apart_law views resource identity readers calls replies new run r answers part h g =
    let is = builds_in (made_calls calls replies) in
    let same : map (λ (s : Stream). s.demand.identity) part.streams ≡ ids (streams_of views answers is) = names_are part.streams ∙ ap ids (streams_law views resource identity readers calls replies new run r answers part h g) in
    subst AreApart (sym same) (streams_apart views answers is)

pub feeds_apart_law : AreFeedsApart
feeds_apart_law views resource identity readers calls replies new run r answers part h g n xs e =
    feeds_apart views answers [] (builds_in (made_calls calls replies)) n xs (sym (ap (λ fs. slice_get fs n) (feeds_law views resource identity readers calls replies new run r answers part h g)) ∙ e)

pub feeds_streams_law : AreFeedsStreams
feeds_streams_law views resource identity readers calls replies new run r answers part h g n x e =
    let is = builds_in (made_calls calls replies) in
    ap (λ l. has_identity l x) (names_are part.streams ∙ ap ids (streams_law views resource identity readers calls replies new run r answers part h g))
    ∙ fed_is_stream views answers is n x (sym (ap (λ fs. is_fed fs n x) (feeds_law views resource identity readers calls replies new run r answers part h g)) ∙ e)
