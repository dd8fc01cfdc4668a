-- The meters read off calls: each scope is among them once, and the scope of each stream is.
use Rattle.std.proofs.Common.{◌≡◌, ⊎_elim, ℕ, zero, suc, ◌+◌, Bool, true, false, List, [], ◌∷◌, ◌++◌, refl, sym, ◌∙◌, ap, Option, Some, None, subst, cond, ◌||◌, append_assoc}
use Rattle.std.specs.Prelude.{not, slice_get}
use Rattle.std.proofs.lemmas.Bool.{cases_Bool, true≢false, false≢true, or_parts, or_left, or_right, or_from}
use Rattle.std.proofs.lemmas.List.Folds.{list_any-append}
use Rattle.otel_common.specs.Scopes.{scope_eq, scope_eq-Decides}
use Rattle.otel_common.specs.declared.scopes.InstrumentationScope.{InstrumentationScope}
use Rattle.otel_model.specs.Calls.{Call, Meter, Build, Record, Bind, RecordBound, Unbind, Collect, Flush, Shutdown}
use Rattle.otel_model.specs.Demands.{Demand, Views, ReaderAnswers, is_known, is_drop, is_dropped}
use Rattle.otel_model.specs.Sent.{has_scope, scope_of}
use Rattle.otel_model.specs.History.{gather, scope_asked, new_scope, meters_in, Built, build_in, builds_in, demands_after, demands_of, new_demand, firsts, streams_of}
use Rattle.otel_model.proofs.Gather.{gather_append}
use Rattle.otel_model.proofs.Single.{some_is}
use Rattle.otel_model.specs.Lawful.{EachOf}
use Rattle.otel_model.proofs.Feeding.{each_filter, demands_each}
use Rattle.otel_model.proofs.Plus.{plus_zero, zero_plus}
use Rattle.otel_model.proofs.Totals.{total}

-- ======== scopes ========
same_scope : (x y : InstrumentationScope) → scope_eq x y ≡ true → x ≡ y
same_scope x y e = (scope_eq-Decides x y).0 e

other_scope : (x y : InstrumentationScope) → scope_eq x y ≡ false → scope_eq y x ≡ false
other_scope x y e = ⊎_elim (λ t. absurd (true≢false (sym ((scope_eq-Decides x y).1 (sym (same_scope y x t))) ∙ e))) (λ t. t) (cases_Bool (scope_eq y x))

pub has_append : (s : InstrumentationScope) (xs ys : List InstrumentationScope) → has_scope s (xs ++ ys) ≡ (has_scope s xs || has_scope s ys)
has_append s xs ys = list_any-append (λ m. scope_eq m s) xs ys

-- no scope occurs twice
abbrev pub AreOnce : List InstrumentationScope → Type 0
AreOnce [] = Unit {0}
AreOnce (m ∷ ms) = (has_scope m ms ≡ false) × AreOnce ms

-- so what is counted at one scope is counted once
pub counted_nowhere : (s : InstrumentationScope) (n : ℕ) (ms : List InstrumentationScope) → has_scope s ms ≡ false → total (λ m. cond (scope_eq s m) n 0) ms ≡ 0
counted_nowhere s n [] e = refl
counted_nowhere s n (m ∷ ms) e =
    let p = or_parts (scope_eq m s) (has_scope s ms) e in
    (λ i. cond (other_scope m s p.0 i) n 0 + counted_nowhere s n ms p.1 i) ∙ zero_plus 0

pub counted_once : (s : InstrumentationScope) (n : ℕ) (ms : List InstrumentationScope) → AreOnce ms → has_scope s ms ≡ true → total (λ m. cond (scope_eq s m) n 0) ms ≡ n
counted_once s n [] a e = absurd (false≢true e)
counted_once s n (m ∷ ms) a e = ⊎_elim here (λ t. later t (counted_once s n ms a.1)) (cases_Bool (scope_eq s m))
  where
    here : scope_eq s m ≡ true → cond (scope_eq s m) n 0 + total (λ m. cond (scope_eq s m) n 0) ms ≡ n
    here t = (λ i. cond (t i) n 0 + counted_nowhere s n ms (ap (λ x. has_scope x ms) (same_scope s m t) ∙ a.0) i) ∙ plus_zero n

    later : scope_eq s m ≡ false → (has_scope s ms ≡ true → total (λ m. cond (scope_eq s m) n 0) ms ≡ n) → cond (scope_eq s m) n 0 + total (λ m. cond (scope_eq s m) n 0) ms ≡ n
    later t ih = (λ i. cond (t i) n 0 + ih (sym (ap (λ b. b || has_scope s ms) (other_scope s m t)) ∙ e) i) ∙ zero_plus n

-- ======== meters ========
-- what was there doesn't come again
not_again : (before ss : List InstrumentationScope) (x : InstrumentationScope) → has_scope x before ≡ true → has_scope x (gather new_scope before ss) ≡ false
not_again before [] x e = refl
not_again before (s ∷ ss) x e = go (has_scope s before) refl (not_again (before ++ s ∷ []) ss x (has_append x before (s ∷ []) ∙ or_left (has_scope x before) (has_scope x (s ∷ [])) e))
  where
    rest : List InstrumentationScope
    rest = gather new_scope (before ++ s ∷ []) ss

    go : (b : Bool) → has_scope s before ≡ b → has_scope x rest ≡ false → has_scope x (cond b [] (s ∷ []) ++ rest) ≡ false
    go true n quiet = quiet
    go false n quiet = or_from (scope_eq s x) (has_scope x rest)
        (⊎_elim (λ t. absurd (true≢false (sym e ∙ (ap (λ y. has_scope y before) (sym (same_scope s x t)) ∙ n)))) (λ t. t) (cases_Bool (scope_eq s x))) quiet

self_scope : (s : InstrumentationScope) → scope_eq s s ≡ true
self_scope s = (scope_eq-Decides s s).1 refl

new_once : (before ss : List InstrumentationScope) → AreOnce (gather new_scope before ss)
new_once before [] = tt
new_once before (s ∷ ss) = go (has_scope s before) (new_once (before ++ s ∷ []) ss)
  where
    rest : List InstrumentationScope
    rest = gather new_scope (before ++ s ∷ []) ss

    go : (b : Bool) → AreOnce rest → AreOnce (cond b [] (s ∷ []) ++ rest)
    go true a = a
    go false a = (not_again (before ++ s ∷ []) ss s (has_append s before (s ∷ []) ∙ or_right (has_scope s before) (has_scope s (s ∷ [])) (ap (λ b. b || false) (self_scope s))), a)

pub meters_once : (calls : List Call) → AreOnce (meters_in calls)
meters_once calls = new_once [] (gather scope_asked [] calls)

-- meters stay
meters_stay : (before calls : List Call) (s : InstrumentationScope) → has_scope s (meters_in before) ≡ true → has_scope s (meters_in (before ++ calls)) ≡ true
meters_stay before calls s e =
    ap (λ l. has_scope s (gather new_scope [] l)) (gather_append scope_asked [] before calls)
    ∙ (ap (has_scope s) (gather_append new_scope [] (gather scope_asked [] before) (gather scope_asked before calls))
    ∙ (has_append s (meters_in before) (gather new_scope (gather scope_asked [] before) (gather scope_asked before calls))
    ∙ or_left (has_scope s (meters_in before)) (has_scope s (gather new_scope (gather scope_asked [] before) (gather scope_asked before calls))) e))

-- ======== builds ========
got_scope : (ms : List InstrumentationScope) (n : ℕ) (s : InstrumentationScope) → slice_get ms n ≡ Some s → has_scope s ms ≡ true
got_scope [] n s e = absurd (cc)
got_scope (m ∷ ms) zero s e = or_left (scope_eq m s) (has_scope s ms) (ap (λ x. scope_eq m x) (sym (some_is m s e)) ∙ self_scope m)
got_scope (m ∷ ms) (suc n) s e = or_right (scope_eq m s) (has_scope s ms) (got_scope ms n s e)

-- the scope of a build is one of these
abbrev IsOn : List InstrumentationScope → Built → Type 0
IsOn ms i = (s : InstrumentationScope) → i.scope ≡ Some s → has_scope s ms ≡ true

meter_scope : (ms : List InstrumentationScope) (meter : Option ℕ) (s : InstrumentationScope) → scope_of ms meter ≡ Some s → has_scope s ms ≡ true
meter_scope ms None s e = absurd (cc)
meter_scope ms (Some n) s e = got_scope ms n s e

builds_on : (before calls : List Call) → EachOf (IsOn (meters_in (before ++ calls))) (gather build_in before calls)
builds_on before [] = tt
builds_on before (c ∷ cs) =
    let On : List Call → Type 0 = λ l. EachOf (IsOn (meters_in l)) (gather build_in (before ++ c ∷ []) cs) in
    go c (subst On (append_assoc before (c ∷ []) cs) (builds_on (before ++ c ∷ []) cs))
  where
    go : (c : Call) → EachOf (IsOn (meters_in (before ++ c ∷ cs))) (gather build_in (before ++ c ∷ []) cs) → EachOf (IsOn (meters_in (before ++ c ∷ cs))) (build_in before c ++ gather build_in (before ++ c ∷ []) cs)
    go (Meter scope) a = a
    go (Build meter about now) a = (λ s e. meters_stay before (Build meter about now ∷ cs) s (meter_scope (meters_in before) meter s e), a)
    go (Record n v l) a = a
    go (Bind n l) a = a
    go (RecordBound k v) a = a
    go (Unbind k) a = a
    go (Collect q now os) a = a
    go Flush a = a
    go Shutdown a = a

-- ======== streams ========
module _ (views : Views) (answers : ReaderAnswers) (ms : List InstrumentationScope) where
  abbrev HasMeter : Demand → Type 0
  HasMeter d = has_scope d.identity.scope ms ≡ true

  each_both : (xs ys : List Demand) → EachOf HasMeter xs → EachOf HasMeter ys → EachOf HasMeter (xs ++ ys)
  each_both [] ys a b = b
  each_both (x ∷ xs) ys a b = (a.0, each_both xs ys a.1 b)

  demands_scoped : (earlier : List Demand) (is : List Built) → EachOf HasMeter earlier → EachOf (IsOn ms) is → EachOf HasMeter (demands_of views answers earlier is)
  demands_scoped earlier [] a b = a
  demands_scoped earlier (i ∷ is) a b = demands_scoped (earlier ++ demands_after views answers earlier i) is
      (each_both earlier (demands_after views answers earlier i) a (demands_each HasMeter (λ ds. is_dropped (earlier ++ ds)) views answers i.scope i.about (λ x e s. b.0 x e))) b.1

  firsts_scoped : (before ds : List Demand) → EachOf HasMeter ds → EachOf HasMeter (gather new_demand before ds)
  firsts_scoped before [] a = tt
  firsts_scoped before (d ∷ ds) a = go (is_known before d.identity) (firsts_scoped (before ++ d ∷ []) ds a.1)
    where
      go : (b : Bool) → EachOf HasMeter (gather new_demand (before ++ d ∷ []) ds) → EachOf HasMeter (cond b [] (d ∷ []) ++ gather new_demand (before ++ d ∷ []) ds)
      go true ih = ih
      go false ih = (a.0, ih)

pub streams_scoped : (views : Views) (answers : ReaderAnswers) (calls : List Call) → EachOf (λ (d : Demand). has_scope d.identity.scope (meters_in calls) ≡ true) (streams_of views answers (builds_in calls))
streams_scoped views answers calls =
    each_filter (HasMeter views answers (meters_in calls)) (λ d. not (is_drop d.aggregation)) (firsts (demands_of views answers [] (builds_in calls)))
    (firsts_scoped views answers (meters_in calls) [] (demands_of views answers [] (builds_in calls)) (demands_scoped views answers (meters_in calls) [] (builds_in calls) tt (builds_on [] calls)))
