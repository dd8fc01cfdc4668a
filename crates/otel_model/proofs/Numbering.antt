-- Changing the streams that a list of numbers names, one after another, changes each stream whose identity is named.
use Rattle.std.proofs.Common.{◌≡◌, ⊎_elim, ℕ, zero, suc, Bool, true, false, List, [], ◌∷◌, ◌++◌, map, refl, sym, ◌∙◌, ap, Some, cond, subst, ◌||◌}
use Rattle.std.specs.Prelude.{slice_get, fold, filter, not}
use Rattle.std.proofs.lemmas.Bool.{cases_Bool, true≢false, or_parts}
use Rattle.otel_model.specs.Demands.{Identity, identity_eq, Demand, Views, ReaderAnswers, is_known, is_drop, has_identity}
use Rattle.otel_model.specs.History.{Built, gather, new_demand, firsts, demands_of, streams_of}
use Rattle.otel_model.specs.Laws.{AreApart, AreNumbered, names}
use Rattle.otel_model.specs.State.{Stream}
use Rattle.otel_model.specs.Machine.{changed_at}
use Rattle.otel_model.proofs.Single.{some_is}
use Rattle.otel_model.proofs.Gather.{known-append, map_both, identity_eq_true, identity_eq_self}

module _ (f : Stream → Stream) (keeps : (s : Stream) → (f s).demand.identity ≡ s.demand.identity) where
  -- the stream of an identity changed
  abbrev pub at : Identity → Stream → Stream
  at x s = cond (identity_eq x s.demand.identity) (f s) s

  -- the streams of these identities changed
  abbrev pub at_all : List Identity → Stream → Stream
  at_all xs s = cond (has_identity xs s.demand.identity) (f s) s

  same_names : (x : Identity) (ss : List Stream) → names (map (at x) ss) ≡ names ss
  same_names x [] = refl
  same_names x (s ∷ ss) = λ i. head (identity_eq x s.demand.identity) i ∷ same_names x ss i
    where
      head : (b : Bool) → (cond b (f s) s).demand.identity ≡ s.demand.identity
      head true = keeps s
      head false = refl

  -- where the identity is not there nothing changes
  same_self_sym : (x y : Identity) → identity_eq y x ≡ false → identity_eq x y ≡ false
  same_self_sym x y e = ⊎_elim (λ t. absurd (true≢false (sym (identity_eq_self x) ∙ (ap (λ z. identity_eq z x) (identity_eq_true x y t) ∙ e)))) (λ t. t) (cases_Bool (identity_eq x y))

  untouched : (x : Identity) (ss : List Stream) → has_identity (names ss) x ≡ false → map (at x) ss ≡ ss
  untouched x [] e = refl
  untouched x (s ∷ ss) e =
      let p = or_parts (identity_eq s.demand.identity x) (has_identity (names ss) x) e in
      λ i. cond (same_self_sym x s.demand.identity p.0 i) (f s) s ∷ untouched x ss p.1 i

  there : (ss : List Stream) (k : ℕ) (s : Stream) → slice_get ss k ≡ Some s → has_identity (names ss) s.demand.identity ≡ true
  there [] k s e = absurd (cc)
  there (t ∷ ss) zero s e = ap (λ b. b || has_identity (names ss) s.demand.identity) (ap (λ (q : Stream). identity_eq q.demand.identity s.demand.identity) (some_is t s e) ∙ identity_eq_self s.demand.identity)
  there (t ∷ ss) (suc k) s e = ap (λ b. identity_eq t.demand.identity s.demand.identity || b) (there ss k s e) ∙ or_true (identity_eq t.demand.identity s.demand.identity)
    where
      or_true : (b : Bool) → (b || true) ≡ true
      or_true true = refl
      or_true false = refl

  -- one number
  pub changed_is : (ss : List Stream) (k : ℕ) (s : Stream) → slice_get ss k ≡ Some s → AreApart (names ss) → changed_at k f ss ≡ map (at s.demand.identity) ss
  changed_is [] k s e a = refl
  changed_is (t ∷ ss) zero s e a =
      let q = some_is t s e in
      let here : identity_eq s.demand.identity t.demand.identity ≡ true = ap (λ (z : Stream). identity_eq z.demand.identity t.demand.identity) (sym q) ∙ identity_eq_self t.demand.identity in
      let gone : has_identity (names ss) s.demand.identity ≡ false = ap (λ (z : Stream). has_identity (names ss) z.demand.identity) (sym q) ∙ a.0 in
      sym (λ i. cond (here i) (f t) t ∷ untouched s.demand.identity ss gone i)
  changed_is (t ∷ ss) (suc k) s e a = λ i. sym (ap (λ b. cond b (f t) t) apart) i ∷ changed_is ss k s e a.1 i
    where
      apart : identity_eq s.demand.identity t.demand.identity ≡ false
      apart = ⊎_elim (λ w. absurd (true≢false (sym (there ss k s e) ∙ (ap (has_identity (names ss)) (identity_eq_true s.demand.identity t.demand.identity w) ∙ a.0)))) (λ w. w) (cases_Bool (identity_eq s.demand.identity t.demand.identity))

  named : (ss : List Stream) (k : ℕ) (x : Identity) → slice_get (names ss) k ≡ Some x → (s : Stream) × (slice_get ss k ≡ Some s) × (s.demand.identity ≡ x)
  named [] k x e = absurd (cc)
  named (t ∷ ss) zero x e = (t, refl, some_is t.demand.identity x e)
  named (t ∷ ss) (suc k) x e = named ss k x e

  -- one identity, and then the others
  both : (x : Identity) (xs : List Identity) (s : Stream) → has_identity xs x ≡ false → at_all xs (at x s) ≡ at_all (x ∷ xs) s
  both x xs s a = ⊎_elim
      (λ t. ap (λ b. at_all xs (cond b (f s) s)) t
      ∙ (ap (λ b. cond b (f (f s)) (f s)) (ap (has_identity xs) (keeps s ∙ sym (identity_eq_true x s.demand.identity t)) ∙ a)
      ∙ sym (ap (λ b. cond (b || has_identity xs s.demand.identity) (f s) s) t)))
      (λ t. ap (λ b. at_all xs (cond b (f s) s)) t ∙ sym (ap (λ b. cond (b || has_identity xs s.demand.identity) (f s) s) t))
      (cases_Bool (identity_eq x s.demand.identity))

  none_named : (ss : List Stream) → ss ≡ map (at_all []) ss
  none_named [] = refl
  none_named (s ∷ ss) = ap (λ l. s ∷ l) (none_named ss)

  -- all numbers, one after another
  pub fed_by_numbers : (ks : List ℕ) (xs : List Identity) (ss : List Stream) → AreNumbered (names ss) ks xs → AreApart xs → AreApart (names ss) → fold (λ (ss : List Stream) k. changed_at k f ss) ss ks ≡ map (at_all xs) ss
  fed_by_numbers [] [] ss n a b = none_named ss
  fed_by_numbers [] (x ∷ xs) ss n a b = absurd n
  fed_by_numbers (k ∷ ks) [] ss n a b = absurd n
  fed_by_numbers (k ∷ ks) (x ∷ xs) ss n a b =
      let q = named ss k x n.0 in
      let N : List Identity → Type 0 = λ ns. AreNumbered ns ks xs in
      let one : changed_at k f ss ≡ map (at x) ss = changed_is ss k q.0 q.1 b ∙ ap (λ y. map (at y) ss) q.2 in
      ap (λ (l : List Stream). fold (λ (ss : List Stream) k. changed_at k f ss) l ks) one
      ∙ (fed_by_numbers ks xs (map (at x) ss) (subst N (sym (same_names x ss)) n.1) a.1 (subst AreApart (sym (same_names x ss)) b)
      ∙ map_both (at_all xs) (at x) (at_all (x ∷ xs)) ss (λ s. both x xs s a.0))

-- ======== the identities of streams are apart ========
abbrev pub ids : List Demand → List Identity
ids ds = map (λ (d : Demand). d.identity) ds

absent : (before ds : List Demand) (x : Identity) → is_known before x ≡ true → has_identity (ids (gather new_demand before ds)) x ≡ false
absent before [] x e = refl
absent before (d ∷ ds) x e = go (is_known before d.identity) refl (absent (before ++ d ∷ []) ds x (known-append before (d ∷ []) x ∙ ap (λ b. b || is_known (d ∷ []) x) e))
  where
    go : (b : Bool) → is_known before d.identity ≡ b → has_identity (ids (gather new_demand (before ++ d ∷ []) ds)) x ≡ false → has_identity (ids (cond b [] (d ∷ []) ++ gather new_demand (before ++ d ∷ []) ds)) x ≡ false
    go true k ih = ih
    go false k ih = ⊎_elim (λ t. absurd (true≢false (sym e ∙ (ap (is_known before) (sym (identity_eq_true d.identity x t)) ∙ k)))) (λ t. (λ i. t i || ih i)) (cases_Bool (identity_eq d.identity x))

firsts_apart : (before ds : List Demand) → AreApart (ids (gather new_demand before ds))
firsts_apart before [] = tt
firsts_apart before (d ∷ ds) = go (is_known before d.identity) (firsts_apart (before ++ d ∷ []) ds)
  where
    or_true : (b : Bool) → (b || true) ≡ true
    or_true true = refl
    or_true false = refl

    now_known : is_known (before ++ d ∷ []) d.identity ≡ true
    now_known = known-append before (d ∷ []) d.identity ∙ (ap (λ b. is_known before d.identity || (b || false)) (identity_eq_self d.identity) ∙ or_true (is_known before d.identity))

    go : (b : Bool) → AreApart (ids (gather new_demand (before ++ d ∷ []) ds)) → AreApart (ids (cond b [] (d ∷ []) ++ gather new_demand (before ++ d ∷ []) ds))
    go true ih = ih
    go false ih = (absent (before ++ d ∷ []) ds d.identity now_known, ih)

absent_filter : (p : Demand → Bool) (ds : List Demand) (x : Identity) → has_identity (ids ds) x ≡ false → has_identity (ids (filter p ds)) x ≡ false
absent_filter p [] x e = refl
absent_filter p (d ∷ ds) x e =
    let q = or_parts (identity_eq d.identity x) (has_identity (ids ds) x) e in
    go (p d) q.0 (absent_filter p ds x q.1)
  where
    go : (b : Bool) → identity_eq d.identity x ≡ false → has_identity (ids (filter p ds)) x ≡ false → has_identity (ids (cond b (d ∷ filter p ds) (filter p ds))) x ≡ false
    go true s ih = λ i. s i || ih i
    go false s ih = ih

apart_filter : (p : Demand → Bool) (ds : List Demand) → AreApart (ids ds) → AreApart (ids (filter p ds))
apart_filter p [] a = tt
apart_filter p (d ∷ ds) a = go (p d) (apart_filter p ds a.1)
  where
    go : (b : Bool) → AreApart (ids (filter p ds)) → AreApart (ids (cond b (d ∷ filter p ds) (filter p ds)))
    go true ih = (absent_filter p ds d.identity a.0, ih)
    go false ih = ih

pub streams_apart : (views : Views) (answers : ReaderAnswers) (is : List Built) → AreApart (ids (streams_of views answers is))
streams_apart views answers is = apart_filter (λ d. not (is_drop d.aggregation)) (firsts (demands_of views answers [] is)) (firsts_apart [] (demands_of views answers [] is))
