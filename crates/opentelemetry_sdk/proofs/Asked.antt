-- A build sees what the views answer of its instrument, and no more.
use Rattle.std.proofs.Common.{◌≡◌, ◌∙◌, ℕ, cond, List, [], ◌∷◌, ◌++◌, map, filter, fold, Option, Some, refl, sym, ap, subst}
use Rattle.std.proofs.lemmas.Simd.{map-map}
use Rattle.otel_common.specs.declared.scopes.InstrumentationScope.{InstrumentationScope}
use Rattle.otel_model.specs.Calls.{About}
use Rattle.otel_model.specs.Demands as model
use Rattle.otel_model.specs.Demands.{Demand, Instrument, ReaderAnswers, StreamSpec, View, Views, instrument_of, add_answer, view_demands, own_demand, is_compatible}
use Rattle.otel_model.specs.Machine as machine
use Rattle.otel_model.specs.State.{ReaderPart}
use Rattle.opentelemetry_sdk.specs.pipeline.Views.{views_answering}
use Rattle.opentelemetry_sdk.specs.States.{AreAsked}

abbrev asked_of : Views → InstrumentationScope → About → Views
asked_of views scope about = views_answering (map (λ (view : View). view (instrument_of scope about)) views)

answered-demands : (views : Views) (answers : ReaderAnswers) (scope : InstrumentationScope) (about : About) → view_demands (asked_of views scope about) answers scope about ≡ view_demands views answers scope about
answered-demands [] answers scope about = refl
answered-demands (view ∷ views) answers scope about = ap (add_answer answers scope about (view (instrument_of scope about))) (answered-demands views answers scope about)

pub built-answered : (views : Views) (scope : InstrumentationScope) (about : About) (now : ℕ) (p : ReaderPart)
    → machine.part_after_build (asked_of views scope about) (Some scope) about now p ≡ machine.part_after_build views (Some scope) about now p
built-answered views scope about now p =
    ap (λ (vs : List Demand). machine.with_feeds (demanded_by vs) (fold (machine.part_after_demand now) p (demanded_by vs))) (answered-demands views p.answers scope about)
  where
    demanded_by : List Demand → List Demand
    demanded_by vs = cond (model.is_good about) (filter is_compatible vs ++ cond (model.needs_own (model.is_dropped (fold machine.enter p.fates (filter is_compatible vs))) vs) (own_demand p.answers scope about ∷ []) []) []

-- ======== the asking ========
-- each view was asked for the instrument of the build
pub asked-each : {V : Type 0} (answer : V → Instrument → Option StreamSpec) (vs : List V) (entry : Option InstrumentationScope) (scope : InstrumentationScope) (about : About) (i : Instrument) (answers : List (Option StreamSpec))
    → entry ≡ Some scope → i ≡ instrument_of scope about → answers ≡ map (λ (v : V). answer v i) vs → AreAsked (map answer vs) entry about answers
asked-each {V} answer vs entry scope about i answers at seen each =
    subst (λ (e : Option InstrumentationScope). AreAsked (map answer vs) e about answers) (sym at)
    (each ∙ (ap (λ (j : Instrument). map (λ (v : V). answer v j) vs) seen ∙ sym (map-map (λ (view : View). view (instrument_of scope about)) answer vs)))
