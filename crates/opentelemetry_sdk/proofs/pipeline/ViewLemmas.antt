-- What the answers of views demand.
use Rattle.std.proofs.Common.{◌≡◌, ℕ, ◌+◌, ◌<◌, ℤ, Bool, true, cond, not, ◌&&◌, ◌||◌, List, [], ◌∷◌, ◌++◌, fold, take, get_or, length, Option, Some, None, is_some, is_none, refl, sym, ◌∙◌, ap, subst, append_assoc, append-nil}
use Rattle.std.specs.List.{list_any}
use Rattle.std.proofs.lemmas.List.{take_more}
use Rattle.std.proofs.lemmas.Bool.{and_parts}
use Rattle.std.proofs.lemmas.List.Elements.{filter-append}
use Rattle.otel_common.specs.declared.metrics.Aggregation.{Aggregation}
use Rattle.otel_common.specs.declared.metrics.Aggregation.TheVariants.{Default, ExplicitBucketHistogram}
use Rattle.otel_common.specs.declared.scopes.InstrumentationScope.{InstrumentationScope}
use Rattle.otel_model.specs.Calls.{About, InstrumentKind, Histogram}
use Rattle.otel_model.specs.Demands as model
use Rattle.otel_model.specs.Demands.{Identity, Demand, ReaderAnswers, StreamSpec, answer_for, fits, reader_default, with_own, resolved_aggregation, demand_of, own_demand, demands_on, view_demands, is_compatible}
use Rattle.otel_model.specs.Machine as machine
use Rattle.otel_model.specs.Machine.{build_demands}
use Rattle.otel_model.specs.State.{ReaderPart}
use Rattle.otel_model.specs.Checks.{is_good_name, optional_unit_fault}
use Rattle.opentelemetry_sdk.specs.States.{IsGoodIn}
use Rattle.opentelemetry_sdk.specs.pipeline.Pipelines.{AreMet, Piped, part_of, fates_of, some_stream}
use Rattle.opentelemetry_sdk.specs.pipeline.Views.{views_answering, usable_answer, usable_demands, can_keep, is_unfit, has_none, demands_own}
use Rattle.opentelemetry_sdk.proofs.pipeline.DemandLemmas.{default_from-parts}
use Rattle.opentelemetry_sdk.proofs.pipeline.Meets.{demanded-fates, fed-some}
use Rattle.opentelemetry_sdk.proofs.pipeline.Records.{numbers-named, some-named}

-- ======== which aggregations can be used ========
with_own-fits : (kind : InstrumentKind) (own : Option (List ℤ)) (a : Aggregation) → fits kind a ≡ true → fits kind (with_own kind own a) ≡ true
with_own-fits Histogram (Some own) (ExplicitBucketHistogram bounds m) e = refl
with_own-fits kind own a e = e

-- what is left to the reader or the instrument can be used
pub compatible-is : (answers : ReaderAnswers) (scope : InstrumentationScope) (about : About) (s : StreamSpec) → is_compatible (demand_of answers scope about s) ≡ can_keep about.kind s.aggregation
compatible-is answers scope about s = by s.aggregation
  where
    by : (set : Option Aggregation) → fits about.kind (resolved_aggregation answers about set) ≡ can_keep about.kind set
    by None = with_own-fits about.kind about.bounds (reader_default answers about.kind) (default_from-parts about.kind (answer_for answers about.kind).aggregation).1
    by (Some Default) = (default_from-parts about.kind (answer_for answers about.kind).aggregation).1
    by (Some a) = refl

-- ======== the answers, one after another ========
module _ (answers : ReaderAnswers) (scope : InstrumentationScope) (about : About) where
  abbrev demands : List (Option StreamSpec) → List Demand
  demands l = view_demands (views_answering l) answers scope about

  abbrev usable : List (Option StreamSpec) → List Demand
  usable l = usable_demands answers scope about l

  abbrev usable-one : Option StreamSpec → List Demand
  usable-one o = usable_answer answers scope about o

  usable-cons : (o : Option StreamSpec) (l : List (Option StreamSpec)) → usable (o ∷ l) ≡ usable-one o ++ usable l
  usable-cons None l = refl
  usable-cons (Some s) l = filter-append is_compatible (demand_of answers scope about s ∷ []) (demands l)

  usable-push : (l : List (Option StreamSpec)) (o : Option StreamSpec) → usable (l ++ o ∷ []) ≡ usable l ++ usable-one o
  usable-push [] o = usable-cons o [] ∙ append-nil (usable-one o)
  usable-push (x ∷ l) o =
      usable-cons x (l ++ o ∷ [])
      ∙ (ap (λ ds. usable-one x ++ ds) (usable-push l o)
      ∙ (sym (append_assoc (usable-one x) (usable l) (usable-one o)) ∙ ap (λ ds. ds ++ usable-one o) (sym (usable-cons x l))))

  -- one answer more
  pub usable-more : (l : List (Option StreamSpec)) (i : ℕ) (o : Option StreamSpec) → i < length l → o ≡ get_or l i o → usable (take (i + 1) l) ≡ usable (take i l) ++ usable-one o
  usable-more l i o h e = ap usable (take_more l i o h ∙ ap (λ x. take i l ++ x ∷ []) (sym e)) ∙ usable-push (take i l) o

  -- ======== whether the own stream is demanded ========
  is_empty-is : (l : List (Option StreamSpec)) → model.is_empty (demands l) ≡ not (list_any is_some l)
  is_empty-is [] = refl
  is_empty-is (None ∷ l) = is_empty-is l
  is_empty-is (Some s ∷ l) = refl

  unfit-is : (l : List (Option StreamSpec)) → list_any (λ d. not (is_compatible d)) (demands l) ≡ list_any (is_unfit about.kind) l
  unfit-is [] = refl
  unfit-is (None ∷ l) = unfit-is l
  unfit-is (Some s ∷ l) = λ i. not (compatible-is answers scope about s i) || unfit-is l i

  -- nothing is fed exactly if all that is demanded drops
  fed-none : (now : ℕ) (ds : List Demand) (old new : Piped) (ns : List ℕ) → AreMet now ds old new ns → has_none ns ≡ not (list_any (λ (d : Demand). not (model.is_dropped (fold machine.enter (fates_of old.streams) ds) d.identity)) ds)
  fed-none now ds old new ns met =
      none-some ns
      ∙ ap not (sym (some-named new.streams ns (numbers-named new.streams ns met.numbers))
      ∙ (ap some_stream met.named
      ∙ (fed-some (model.is_dropped (fates_of new.streams)) ds
      ∙ ap (λ fs. list_any (λ (d : Demand). not (model.is_dropped fs d.identity)) ds) (ap (λ (p : ReaderPart). p.fates) met.part ∙ demanded-fates now (part_of old) ds))))
    where
      none-some : (ns : List ℕ) → has_none ns ≡ not (some_stream ns)
      none-some [] = refl
      none-some (n ∷ ns) = refl

  -- so the streams that what can be used feeds tell whether the own one is demanded, and so all that is
  pub demands-with : (now : ℕ) (old new : Piped) (o : Option InstrumentationScope) (l : List (Option StreamSpec)) (ns : List ℕ) (b : Bool) → old.answers ≡ answers → o ≡ Some scope → IsGoodIn o about → AreMet now (usable l) old new ns → demands_own about.kind l ns ≡ b
      → build_demands (views_answering l) (part_of old) o about ≡ usable l ++ cond b (own_demand answers scope about ∷ []) []
  demands-with now old new o l ns b same e good met needs =
      (λ i. demands_on dropped (views_answering l) (same i) (e i) about)
      ∙ (ap (λ g. cond g (model.demands_with dropped (views_answering l) answers scope about) []) (subst (λ s. IsGoodIn s about) e good)
      ∙ ap (λ n. usable l ++ cond n (own_demand answers scope about ∷ []) []) (sym (λ i. sym (is_empty-is l) i || (sym (unfit-is l) i && fed-none now (usable l) old new ns met i)) ∙ needs))
    where
      dropped : List Demand → Identity → Bool
      dropped ds = model.is_dropped (fold machine.enter (fates_of old.streams) ds)

-- a good instrument has good bounds
pub good-bounds : (o : Option InstrumentationScope) (scope : InstrumentationScope) (about : About) → o ≡ Some scope → IsGoodIn o about → model.are_good_bounds about.kind about.bounds ≡ true
good-bounds o scope about e good = (and_parts (is_none (optional_unit_fault about.unit)) (model.are_good_bounds about.kind about.bounds) (and_parts (is_good_name about.name) _ (subst (λ s. IsGoodIn s about) e good)).1).1

-- an aggregation that can be used is demanded
pub fit-demands : (answers : ReaderAnswers) (scope : InstrumentationScope) (about : About) (s : StreamSpec) → can_keep about.kind s.aggregation ≡ true → usable_answer answers scope about (Some s) ≡ demand_of answers scope about s ∷ []
fit-demands answers scope about s e = ap (λ b. cond b (demand_of answers scope about s ∷ []) []) (compatible-is answers scope about s ∙ e)
