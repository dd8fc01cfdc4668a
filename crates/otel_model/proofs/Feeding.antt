-- What a build adds to what feeds what.
use Rattle.std.proofs.Common.{◌≡◌, ◌⊎◌, inl, inr, ⊎_elim, ℕ, zero, suc, ◌<◌, Bool, true, false, List, [], ◌∷◌, ◌++◌, length, map, refl, arith, sym, ◌∙◌, ap, Option, Some, None, subst, cond, ◌||◌}
use Rattle.std.specs.Prelude.{filter, fold, not, slice_get}
use Rattle.std.proofs.lemmas.Bool.{true≢false, false≢true}
use Rattle.std.proofs.lemmas.List.{append-nil}
use Rattle.otel_common.specs.declared.scopes.InstrumentationScope.{InstrumentationScope}
use Rattle.otel_model.specs.Calls.{About, InstrumentKind}
use Rattle.otel_model.specs.Demands.{Identity, identity_eq, Demand, Views, ReaderAnswers, instrument_of, StreamSpec, nothing_said, demand_of, own_demand, add_answer, view_demands, is_compatible, needs_own, demands_with, demands_on, is_good, is_known, is_drop, has_identity, each_once, fed_identities}
use Rattle.otel_model.specs.State.{Stream, ReaderPart, LiveHandle}
use Rattle.otel_model.specs.Sent.{is_fed}
use Rattle.otel_model.specs.Machine.{new_stream, enter, part_after_demand}
use Rattle.otel_model.proofs.Gather.{identity_eq_true, identity_eq_self, known-append}
use Rattle.otel_model.proofs.Single.{some_is}
use Rattle.otel_model.proofs.Amounts.{EachOf, each_push, held_for, handles_of}

-- ======== lists of feeds ========
-- a feed in the list with one more stands in the list, or is the new one
pub fed_or_new : (feeds : List (List Identity)) (f : List Identity) (ks : List InstrumentKind) (k : InstrumentKind) (n : ℕ) (x : Identity) (l : InstrumentKind) → length feeds ≡ length ks
    → is_fed (feeds ++ f ∷ []) n x ≡ true → slice_get (ks ++ k ∷ []) n ≡ Some l
    → ((is_fed feeds n x ≡ true) × (slice_get ks n ≡ Some l)) ⊎ ((has_identity f x ≡ true) × (l ≡ k))
fed_or_new [] f [] k zero x l e h g = inr (h, sym (some_is k l g))
fed_or_new [] f [] k (suc n) x l e h g = absurd (cc)
fed_or_new [] f (j ∷ ks) k n x l e h g = absurd (omega arith)
fed_or_new (xs ∷ feeds) f [] k n x l e h g = absurd (omega arith)
fed_or_new (xs ∷ feeds) f (j ∷ ks) k zero x l e h g = inl (h, g)
fed_or_new (xs ∷ feeds) f (j ∷ ks) k (suc n) x l e h g = fed_or_new feeds f ks k n x l (omega arith) h g

pub known_feed : (feeds : List (List Identity)) (f : List Identity) (n : ℕ) (x : Identity) → is_fed (feeds ++ f ∷ []) n x ≡ true → (is_fed feeds n x ≡ true) ⊎ (has_identity f x ≡ true)
known_feed [] f zero x h = inr h
known_feed [] f (suc n) x h = absurd (false≢true h)
known_feed (xs ∷ feeds) f zero x h = inl h
known_feed (xs ∷ feeds) f (suc n) x h = known_feed feeds f n x h

same_feed : (feeds : List (List Identity)) (f : List Identity) (n : ℕ) (x : Identity) → n < length feeds → is_fed (feeds ++ f ∷ []) n x ≡ is_fed feeds n x
same_feed [] f n x h = absurd (omega arith)
same_feed (xs ∷ feeds) f zero x h = refl
same_feed (xs ∷ feeds) f (suc n) x h = let g : n < length feeds = omega arith in same_feed feeds f n x g

-- the handles of a stream are of instruments that were there
pub held_before : (feeds : List (List Identity)) (f : List Identity) (x : Identity) (live : List LiveHandle) → EachOf (λ p. p.1 < length feeds) live → held_for (feeds ++ f ∷ []) x live ≡ held_for feeds x live
held_before feeds f x [] a = refl
held_before feeds f x (p ∷ ps) a =
    ap (λ b. handles_of (cond b (p ∷ filter (λ (p : LiveHandle). is_fed (feeds ++ f ∷ []) p.1 x) ps) (filter (λ (p : LiveHandle). is_fed (feeds ++ f ∷ []) p.1 x) ps))) (same_feed feeds f p.1 x a.0)
    ∙ go (is_fed feeds p.1 x) (held_before feeds f x ps a.1)
  where
    go : (b : Bool) → held_for (feeds ++ f ∷ []) x ps ≡ held_for feeds x ps
        → handles_of (cond b (p ∷ filter (λ (p : LiveHandle). is_fed (feeds ++ f ∷ []) p.1 x) ps) (filter (λ (p : LiveHandle). is_fed (feeds ++ f ∷ []) p.1 x) ps))
        ≡ handles_of (cond b (p ∷ filter (λ (p : LiveHandle). is_fed feeds p.1 x) ps) (filter (λ (p : LiveHandle). is_fed feeds p.1 x) ps))
    go true e = ap (λ l. p.0 ∷ l) e
    go false e = e

-- a stream that nothing feeds has no handles
pub none_held : (feeds : List (List Identity)) (x : Identity) (live : List LiveHandle) → ((n : ℕ) → is_fed feeds n x ≡ false) → held_for feeds x live ≡ []
none_held feeds x [] e = refl
none_held feeds x (p ∷ ps) e = ap (λ b. handles_of (cond b (p ∷ filter (λ (p : LiveHandle). is_fed feeds p.1 x) ps) (filter (λ (p : LiveHandle). is_fed feeds p.1 x) ps))) (e p.1) ∙ none_held feeds x ps e

-- ======== what a build feeds was demanded ========
pub is_one : (a b : Bool) → (a || b) ≡ true → (a ≡ true) ⊎ (b ≡ true)
is_one true b e = inl refl
is_one false b e = inr e

or_left : (a b : Bool) → a ≡ true → (a || b) ≡ true
or_left a b e = λ i. e i || b

pub or_right : (a b : Bool) → b ≡ true → (a || b) ≡ true
or_right true b e = refl
or_right false b e = e

from_filter : (p : Identity → Bool) (xs : List Identity) (x : Identity) → has_identity (filter p xs) x ≡ true → has_identity xs x ≡ true
from_filter p [] x e = e
from_filter p (y ∷ ys) x e = go (p y) e (from_filter p ys x)
  where
    go : (b : Bool) → has_identity (cond b (y ∷ filter p ys) (filter p ys)) x ≡ true → (has_identity (filter p ys) x ≡ true → has_identity ys x ≡ true) → (identity_eq y x || has_identity ys x) ≡ true
    go true e ih = ⊎_elim (λ t. or_left (identity_eq y x) (has_identity ys x) t) (λ t. or_right (identity_eq y x) (has_identity ys x) (ih t)) (is_one (identity_eq y x) (has_identity (filter p ys) x) e)
    go false e ih = or_right (identity_eq y x) (has_identity ys x) (ih e)

from_once : (seen xs : List Identity) (x : Identity) → has_identity (each_once seen xs) x ≡ true → has_identity xs x ≡ true
from_once seen [] x e = e
from_once seen (y ∷ ys) x e = go (has_identity seen y) e (from_once seen ys x) (from_once (y ∷ seen) ys x)
  where
    go : (b : Bool) → has_identity (cond b (each_once seen ys) (y ∷ each_once (y ∷ seen) ys)) x ≡ true → (has_identity (each_once seen ys) x ≡ true → has_identity ys x ≡ true)
        → (has_identity (each_once (y ∷ seen) ys) x ≡ true → has_identity ys x ≡ true) → (identity_eq y x || has_identity ys x) ≡ true
    go true e f g = or_right (identity_eq y x) (has_identity ys x) (f e)
    go false e f g = ⊎_elim (λ t. or_left (identity_eq y x) (has_identity ys x) t) (λ t. or_right (identity_eq y x) (has_identity ys x) (g t)) (is_one (identity_eq y x) (has_identity (each_once (y ∷ seen) ys) x) e)

ids_known : (ds : List Demand) (x : Identity) → has_identity (map (λ (d : Demand). d.identity) ds) x ≡ is_known ds x
ids_known [] x = refl
ids_known (d ∷ ds) x = ap (λ b. identity_eq d.identity x || b) (ids_known ds x)

pub fed_demanded : (dropped : Identity → Bool) (ds : List Demand) (x : Identity) → has_identity (fed_identities dropped ds) x ≡ true → is_known ds x ≡ true
fed_demanded dropped ds x e =
    sym (ids_known ds x) ∙ from_once [] (map (λ (d : Demand). d.identity) ds) x (from_filter (λ x. not (dropped x)) (each_once [] (map (λ (d : Demand). d.identity) ds)) x e)

-- ======== the demands of a build have the kind of its instrument ========
abbrev OfKind : InstrumentKind → List Demand → Type 0
OfKind k ds = EachOf (λ (d : Demand). d.identity.kind ≡ k) ds

pub each_filter : {X : Type 0} (P : X → Type 0) (p : X → Bool) (xs : List X) → EachOf P xs → EachOf P (filter p xs)
each_filter P p [] a = tt
each_filter P p (x ∷ xs) a = go (p x) (each_filter P p xs a.1)
  where
    go : (b : Bool) → EachOf P (filter p xs) → EachOf P (cond b (x ∷ filter p xs) (filter p xs))
    go true ih = (a.0, ih)
    go false ih = ih

-- what holds of the demand of any answer of a view holds of each demand of a build
module _ (P : Demand → Type 0) (answers : ReaderAnswers) (scope : InstrumentationScope) (about : About) (holds : (s : StreamSpec) → P (demand_of answers scope about s)) where
  answered_each : (o : Option StreamSpec) (ds : List Demand) → EachOf P ds → EachOf P (add_answer answers scope about o ds)
  answered_each None ds a = a
  answered_each (Some s) ds a = (holds s, a)

  view_each : (views : Views) → EachOf P (view_demands views answers scope about)
  view_each [] = tt
  view_each (view ∷ views) = answered_each (view (instrument_of scope about)) (view_demands views answers scope about) (view_each views)

  own_each : (ds : List Demand) (b : Bool) → EachOf P ds → EachOf P (ds ++ cond b (own_demand answers scope about ∷ []) [])
  own_each ds true a = each_push P ds (own_demand answers scope about) a (holds nothing_said)
  own_each ds false a = subst (EachOf P) (sym (append-nil ds)) a

  good_each : (dropped : List Demand → Identity → Bool) (views : Views) (b : Bool) → EachOf P (cond b (demands_with dropped views answers scope about) [])
  good_each dropped views true = own_each (filter is_compatible (view_demands views answers scope about))
      (needs_own (dropped (filter is_compatible (view_demands views answers scope about))) (view_demands views answers scope about))
      (each_filter P is_compatible (view_demands views answers scope about) (view_each views))
  good_each dropped views false = tt

pub demands_each : (P : Demand → Type 0) (dropped : List Demand → Identity → Bool) (views : Views) (answers : ReaderAnswers) (scope : Option InstrumentationScope) (about : About)
    → ((x : InstrumentationScope) → scope ≡ Some x → (s : StreamSpec) → P (demand_of answers x about s)) → EachOf P (demands_on dropped views answers scope about)
demands_each P dropped views answers None about holds = tt
demands_each P dropped views answers (Some x) about holds = good_each P answers x about (holds x refl) dropped views (is_good about)

pub demands_kind : (dropped : List Demand → Identity → Bool) (views : Views) (answers : ReaderAnswers) (scope : Option InstrumentationScope) (about : About) → OfKind about.kind (demands_on dropped views answers scope about)
demands_kind dropped views answers scope about = demands_each (λ (d : Demand). d.identity.kind ≡ about.kind) dropped views answers scope about (λ x e s. refl)

pub known_kind : (k : InstrumentKind) (ds : List Demand) (x : Identity) → OfKind k ds → is_known ds x ≡ true → x.kind ≡ k
known_kind k [] x a e = absurd (false≢true e)
known_kind k (d ∷ ds) x a e = ⊎_elim
    (λ t. sym (ap (λ (y : Identity). y.kind) (identity_eq_true d.identity x t)) ∙ a.0)
    (λ t. known_kind k ds x a.1 t)
    (is_one (identity_eq d.identity x) (is_known ds x) e)

-- ======== the table of fates grows ========
pub known_more : (fates : List Demand) (d : Demand) (x : Identity) → is_known fates x ≡ true → is_known (enter fates d) x ≡ true
known_more fates d x e = go (is_known fates d.identity)
  where
    go : (b : Bool) → is_known (cond b fates (fates ++ d ∷ [])) x ≡ true
    go true = e
    go false = known-append fates (d ∷ []) x ∙ or_left (is_known fates x) (is_known (d ∷ []) x) e

known_now : (fates : List Demand) (d : Demand) → is_known (enter fates d) d.identity ≡ true
known_now fates d = go (is_known fates d.identity) refl
  where
    go : (b : Bool) → is_known fates d.identity ≡ b → is_known (cond b fates (fates ++ d ∷ [])) d.identity ≡ true
    go true e = e
    go false e = known-append fates (d ∷ []) d.identity ∙ or_right (is_known fates d.identity) (is_known (d ∷ []) d.identity) (or_left (identity_eq d.identity d.identity) false (identity_eq_self d.identity))

module _ (now : ℕ) where
  pub known_after : (ds : List Demand) (p : ReaderPart) (x : Identity) → is_known p.fates x ≡ true → is_known (fold (part_after_demand now) p ds).fates x ≡ true
  known_after [] p x e = e
  known_after (d ∷ ds) p x e = known_after ds (part_after_demand now p d) x (known_more p.fates d x e)

  pub demanded_known : (ds : List Demand) (p : ReaderPart) (x : Identity) → is_known ds x ≡ true → is_known (fold (part_after_demand now) p ds).fates x ≡ true
  demanded_known [] p x e = absurd (false≢true e)
  demanded_known (d ∷ ds) p x e = ⊎_elim
      (λ t. known_after ds (part_after_demand now p d) x (ap (is_known (enter p.fates d)) (sym (identity_eq_true d.identity x t)) ∙ known_now p.fates d))
      (λ t. demanded_known ds (part_after_demand now p d) x t)
      (is_one (identity_eq d.identity x) (is_known ds x) e)

  pub same_answers : (ds : List Demand) (p : ReaderPart) → (fold (part_after_demand now) p ds).answers ≡ p.answers
  same_answers [] p = refl
  same_answers (d ∷ ds) p = same_answers ds (part_after_demand now p d)

  pub same_feeds : (ds : List Demand) (p : ReaderPart) → (fold (part_after_demand now) p ds).feeds ≡ p.feeds
  same_feeds [] p = refl
  same_feeds (d ∷ ds) p = same_feeds ds (part_after_demand now p d)

  -- what holds of the streams and of each new one holds after the demands. A new one was unknown
  pub streams_after : (Q : Stream → Type 0) (known : Identity → Type 0) → ((d : Demand) → (known d.identity → ⊥) → Q (new_stream now d))
      → (ds : List Demand) (p : ReaderPart) → ((x : Identity) → known x → is_known p.fates x ≡ true) → EachOf Q p.streams → EachOf Q (fold (part_after_demand now) p ds).streams
  streams_after Q known new [] p k a = a
  streams_after Q known new (d ∷ ds) p k a = streams_after Q known new ds (part_after_demand now p d) (λ x h. known_more p.fates d x (k x h)) (go (is_known p.fates d.identity) refl)
    where
      added : (b : Bool) → (known d.identity → ⊥) → EachOf Q (p.streams ++ cond b [] (new_stream now d ∷ []))
      added true h = subst (EachOf Q) (sym (append-nil p.streams)) a
      added false h = each_push Q p.streams (new_stream now d) a (new d h)

      go : (b : Bool) → is_known p.fates d.identity ≡ b → EachOf Q (cond b p.streams (p.streams ++ cond (is_drop d.aggregation) [] (new_stream now d ∷ [])))
      go true e = a
      go false e = added (is_drop d.aggregation) (λ h. true≢false (sym (k d.identity h) ∙ e))
