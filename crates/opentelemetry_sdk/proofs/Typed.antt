-- What an instrument feeds has its number type, whatever is called.
use Rattle.std.proofs.Common.{◌≡◌, ◌⊎◌, inl, inr, ⊎_elim, ℕ, zero, suc, Bool, true, false, cond, List, [], ◌∷◌, ◌++◌, map, length, get_or, ◌<◌, Option, Some, None, slice_get, refl, sym, ◌∙◌, ap, subst, arith, All, fold, length-append}
use Rattle.std.proofs.lemmas.Bool.{false≢true}
use Rattle.otel_stream.specs.declared.observation.Observed.{Observed as Observation}
use Rattle.otel_common.specs.declared.scopes.InstrumentationScope.{InstrumentationScope}
use Rattle.otel_model_stream.specs.Folds.{Amount}
use Rattle.otel_model.specs.Calls.{is_observable, Fault, WrongKind, About, Call, Number}
use Rattle.otel_model.specs.Demands.{Identity, Demand, Views, has_identity, is_known, is_dropped, fed_identities, identity_eq}
use Rattle.otel_model.specs.Machine.{changed_at, instrument_after_record, enter, new_instrument, part_after_demand, build_demands, part_after_build, part_after_call}
use Rattle.otel_model.specs.Refusals.{first_fault, number_refusal, observation_refusal, observations_refusal}
use Rattle.otel_model.specs.Sent.{is_fed}
use Rattle.otel_model.specs.State.{InstrumentState, ReaderPart}
use Rattle.otel_model.proofs.Gather.{identity_eq_true}
use Rattle.otel_model.proofs.Feeding.{is_one, demands_each, fed_demanded}
use Rattle.otel_model.proofs.Amounts.{EachOf, each_at, each_map, each_weaker, same_number}
use Rattle.otel_model.proofs.Single.{get_map, some_is}
use Rattle.opentelemetry_sdk.specs.pipeline.Handles.{AreObservableFor}
use Rattle.opentelemetry_sdk.specs.pipeline.Observations.{AreTypedFor}
use Rattle.opentelemetry_sdk.specs.pipeline.Pipelines.{FeedsType, Piped, part_of}
use Rattle.opentelemetry_sdk.specs.Correspondence.{observed_of}
use Rattle.opentelemetry_sdk.specs.States.{IsTaken, IsTyped, AreTyped, FeedType}

-- ======== one instrument more ========
-- what is fed was fed before by an instrument that was there, or is fed by the new one
fed-split : (feeds : List (List Identity)) (f : List Identity) (is : List InstrumentState) (new : InstrumentState) (n : ℕ) (x : Identity) (i : InstrumentState) → length feeds ≡ length is
    → is_fed (feeds ++ f ∷ []) n x ≡ true → slice_get (is ++ new ∷ []) n ≡ Some i
    → ((is_fed feeds n x ≡ true) × (slice_get is n ≡ Some i)) ⊎ ((has_identity f x ≡ true) × (new ≡ i))
fed-split [] f [] new zero x i e h g = inr (h, some_is new i g)
fed-split [] f [] new (suc n) x i e h g = absurd (cc)
fed-split [] f (j ∷ is) new n x i e h g = absurd (omega arith)
fed-split (xs ∷ feeds) f [] new n x i e h g = absurd (omega arith)
fed-split (xs ∷ feeds) f (j ∷ is) new zero x i e h g = inl (h, g)
fed-split (xs ∷ feeds) f (j ∷ is) new (suc n) x i e h g = fed-split feeds f is new n x i (omega arith) h g

-- demands keep what instruments feed
same-feeds : (now : ℕ) (ds : List Demand) (p : ReaderPart) → (fold (part_after_demand now) p ds).feeds ≡ p.feeds
same-feeds now [] p = refl
same-feeds now (d ∷ ds) p = same-feeds now ds (part_after_demand now p d)

-- whatever the views answer, demands have the number type and the kind of their instrument
abbrev IsOfType : About → Identity → Type 0
IsOfType about x = (x.signed ≡ about.signed) × (x.kind ≡ about.kind)

known-typed : (about : About) (ds : List Demand) (x : Identity) → EachOf (λ (d : Demand). IsOfType about d.identity) ds → is_known ds x ≡ true → IsOfType about x
known-typed about [] x all e = absurd (false≢true e)
known-typed about (d ∷ ds) x all e = ⊎_elim (λ t. subst (IsOfType about) (identity_eq_true d.identity x t) all.0) (λ t. known-typed about ds x all.1 t) (is_one (identity_eq d.identity x) (is_known ds x) e)

one-built : (views : Views) (is : List InstrumentState) (scope : Option InstrumentationScope) (about : About) (now : ℕ) (p : ReaderPart) → IsTyped is p → IsTyped (is ++ new_instrument about ∷ []) (part_after_build views scope about now p)
one-built views is scope about now p typed =
    let ds : List Demand = build_demands views p scope about in
    let after : ReaderPart = fold (part_after_demand now) p ds in
    let new : List Identity = fed_identities (is_dropped after.fates) ds in
    let same : after.feeds ≡ p.feeds = same-feeds now ds p in
    let of_type : (x : Identity) → has_identity new x ≡ true → IsOfType about x =
    λ x h. known-typed about ds x (demands_each (λ (d : Demand). IsOfType about d.identity) (λ fs. is_dropped (fold enter p.fates fs)) views p.answers scope about (λ s e a. (refl, refl))) (fed_demanded (is_dropped after.fates) ds x h) in
    let split = λ (n : ℕ) (x : Identity) (i : InstrumentState) (f : is_fed (after.feeds ++ new ∷ []) n x ≡ true) (g : slice_get (is ++ new_instrument about ∷ []) n ≡ Some i).
    fed-split p.feeds new is (new_instrument about) n x i typed.as_many (subst (λ (fs : List (List Identity)). is_fed (fs ++ new ∷ []) n x ≡ true) same f) g in
    record {
      as_many = omega (arith, ap length same, typed.as_many, length-append {A = List Identity}, length-append {A = InstrumentState});
      types = λ n x i f g. ⊎_elim (λ t. typed.types n x i t.0 t.1) (λ t. (of_type x t.0).0 ∙ ap (λ (j : InstrumentState). j.signed) t.1) (split n x i f g);
      kinds = λ n x i f g. ⊎_elim (λ t. typed.kinds n x i t.0 t.1) (λ t. (of_type x t.0).1 ∙ ap (λ (j : InstrumentState). j.kind) t.1) (split n x i f g);
    }

pub typed-built : (views : Views) (is : List InstrumentState) (scope : Option InstrumentationScope) (about : About) (now : ℕ) (ps : List ReaderPart) → AreTyped is ps → AreTyped (is ++ new_instrument about ∷ []) (map (part_after_build views scope about now) ps)
typed-built views is scope about now ps all = each_map (IsTyped is) (IsTyped (is ++ new_instrument about ∷ [])) (part_after_build views scope about now) ps (one-built views is scope about now) all

-- ======== records ========
-- an instrument that accepts keeps its number type and kind
signed-accepted : (v : Amount) (m n : ℕ) (is : List InstrumentState) (i : InstrumentState) → slice_get (changed_at m (instrument_after_record v) is) n ≡ Some i → (j : InstrumentState) × (slice_get is n ≡ Some j) × (j.signed ≡ i.signed) × (j.kind ≡ i.kind)
signed-accepted v m n [] i e = absurd (cc)
signed-accepted v zero zero (j ∷ is) i e = let is : instrument_after_record v j ≡ i = some_is (instrument_after_record v j) i e in (j, refl, ap (λ (k : InstrumentState). k.signed) is, ap (λ (k : InstrumentState). k.kind) is)
signed-accepted v zero (suc n) (j ∷ is) i e = (i, e, refl, refl)
signed-accepted v (suc m) zero (j ∷ is) i e = (i, e, refl, refl)
signed-accepted v (suc m) (suc n) (j ∷ is) i e = signed-accepted v m n is i e

pub typed-sent : (v : Amount) (m next : ℕ) (c : Call) (is : List InstrumentState) (ps : List ReaderPart) → AreTyped is ps → AreTyped (changed_at m (instrument_after_record v) is) (map (part_after_call next c) ps)
typed-sent v m next c is ps all = each_map (IsTyped is) _ (part_after_call next c) ps
    (λ p typed. record {
      as_many = typed.as_many ∙ sym (same_number m (instrument_after_record v) is);
      types = λ n x i f g. let before = signed-accepted v m n is i g in typed.types n x before.0 f before.1 ∙ before.2;
      kinds = λ n x i f g. let before = signed-accepted v m n is i g in typed.kinds n x before.0 f before.1 ∙ before.3;
    })
    all

-- what is sent keeps number types and kinds
pub typed-kept : (is : List InstrumentState) (next : ℕ) (c : Call) (ps : List ReaderPart) → AreTyped is ps → AreTyped is (map (part_after_call next c) ps)
typed-kept is next c ps all = each_map (IsTyped is) (IsTyped is) (part_after_call next c) ps (λ p typed. record { as_many = typed.as_many; types = typed.types; kinds = typed.kinds }) all

-- what an instrument feeds, by its own number type
pub typed-feeds : (n : ℕ) (v : Number) (is : List InstrumentState) (i : InstrumentState) (ps : List ReaderPart) → slice_get is n ≡ Some i → v.signed ≡ i.signed → AreTyped is ps → FeedType n v ps
typed-feeds n v is i ps at same all = each_weaker (IsTyped is) (FeedsType n v.signed) ps (λ p typed x f. typed.types n x i f at ∙ sym same) all

-- ======== observations ========
typed-at : (is : List InstrumentState) (ps : List Piped) (r : ℕ) (p : Piped) → slice_get ps r ≡ Some p → AreTyped is (map part_of ps) → IsTyped is (part_of p)
typed-at is ps r p at all = each_at (IsTyped is) (map part_of ps) r (part_of p) all (get_map part_of ps r p at)

-- what was observed of instruments that take it is of the number type of what they feed
pub typed-observed : (is : List InstrumentState) (ps : List Piped) (os : List Observation) (r : ℕ) (p : Piped) → slice_get ps r ≡ Some p → AreTyped is (map part_of ps) → All (IsTaken is) os → AreTypedFor os (part_of p)
typed-observed is ps os r p at all taken = λ k d inside x feeds_it.
    (let t = taken k d inside in
    (typed-at is ps r p at all).types _ x t.instrument feeds_it t.there ∙ sym t.typed)

-- what is observed without fault is of observable instruments
both-none : (a b : Option Fault) → first_fault a b ≡ None → (a ≡ None) × (b ≡ None)
both-none None b e = (refl, e)
both-none (Some f) b e = absurd (cc)

kind-seen : (o : Option InstrumentState) (given : Bool) (i : InstrumentState) → observation_refusal o given ≡ None → o ≡ Some i → is_observable i.kind ≡ true
kind-seen None given i e at = absurd (cc)
kind-seen (Some j) given i e at = let same : j ≡ i = some_is j i at in sym (ap (λ (k : InstrumentState). is_observable k.kind) same) ∙ by (is_observable j.kind) e
  where
    by : (b : Bool) → cond b (number_refusal j.signed given) (Some WrongKind) ≡ None → b ≡ true
    by true e = refl
    by false e = absurd (cc)

observed-kind : (is : List InstrumentState) (os : List Observation) → observations_refusal is (map observed_of os) ≡ None → (k : ℕ) (d : Observation) → k < length os → (i : InstrumentState) → slice_get is (get_or os k d).instrument ≡ Some i → is_observable i.kind ≡ true
observed-kind is [] e k d h i at = absurd (omega arith)
observed-kind is (o ∷ os) e zero d h i at = kind-seen (slice_get is o.instrument) _ i (both-none _ (observations_refusal is (map observed_of os)) e).0 at
observed-kind is (o ∷ os) e (suc k) d h i at = observed-kind is os (both-none (observation_refusal (slice_get is o.instrument) _) _ e).1 k d (omega arith) i at

-- and what they feed is observable
pub observable-observed : (is : List InstrumentState) (ps : List Piped) (os : List Observation) (r : ℕ) (p : Piped) → slice_get ps r ≡ Some p → AreTyped is (map part_of ps) → All (IsTaken is) os → observations_refusal is (map observed_of os) ≡ None → AreObservableFor os (part_of p)
observable-observed is ps os r p at all taken fits = λ k d inside x feeds_it.
    (let t = taken k d inside in
    ap is_observable ((typed-at is ps r p at all).kinds _ x t.instrument feeds_it t.there) ∙ observed-kind is os fits k d inside t.instrument t.there)
