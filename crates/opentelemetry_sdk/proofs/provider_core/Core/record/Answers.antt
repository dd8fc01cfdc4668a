use Rattle.std.proofs.Common.{◌≡◌, ◌∙◌, ap, sym, [], map, slice_get, set, None, arith}
use Rattle.otel_model.specs.Calls as model
use Rattle.otel_model.specs.Machine.{instrument_after_record, changed_at, part_after_call}
use Rattle.otel_model.specs.Refusals.{record_refusal}
use Rattle.otel_model.specs.State.{State}
use Rattle.opentelemetry_sdk.specs.pipeline.Pipelines.{part_of}
use Rattle.opentelemetry_sdk.proofs.pipeline.Writes.{set-changed}
use Rattle.opentelemetry_sdk.specs.Cores.{state_in}
use Rattle.opentelemetry_sdk.specs.Correspondence.{number_of}
use Rattle.opentelemetry_sdk.proofs.Sound.{sound-step}
use Rattle.opentelemetry_sdk.proofs.StepLemmas.{lent-parts, taken-inside, record-made}
use Rattle.opentelemetry_sdk.proofs.provider_core.Core.record.Goals.{After-accept}
use Rattle.opentelemetry_sdk.proofs.provider_core.Core.record.Goals as goal

-- the value fits, the readers made the record, and the instrument accepted it
fits : (c : After-accept) → record_refusal (slice_get c.self.inside.instruments.items c.args.instrument) (number_of c.args.value).signed ≡ None
fits c = ap (λ is. record_refusal (slice_get is c.args.instrument) (number_of c.args.value).signed) (sym c.deref.ensures.value) ∙ c.in_default.ensures.fits

accepted : (c : After-accept) → set c.self.inside.instruments.items c.args.instrument c.accept.new.self ≡ changed_at c.args.instrument (instrument_after_record (number_of c.args.value).amount) c.self.inside.instruments.items
accepted c = set-changed (instrument_after_record (number_of c.args.value).amount) c.self.inside.instruments.items c.args.instrument c.index_mut.result.now c.accept.new.self (taken-inside c.args.instrument (number_of c.args.value) c.self.inside.instruments.items _ c.deref.ensures.value c.in_default.ensures.taken) c.index_mut.ensures.value c.accept.ensures

sent : (c : After-accept) → map part_of c.record_or_none.new.pipelines ≡ map (part_after_call 0 (model.Call.Record c.args.instrument (number_of c.args.value) c.args.attributes.now)) (map part_of c.self.inside.pipelines.items)
sent c = c.in_ok-record_or_none.ensures.ok ∙ ap (λ ps. map (part_after_call 0 (model.Call.Record c.args.instrument (number_of c.args.value) c.args.attributes.now)) (map part_of ps)) c.deref_mut.ensures.value

pub invariant_of-self-2 : goal.invariant_of-self-2
invariant_of-self-2 c =
    let w = (goal.at.invariant_of-self-2 c).After-accept in
    let old : State = state_in c.self.inside in
    sound-step [] old _ (model.Call.Record c.args.instrument (number_of c.args.value) c.args.attributes.now) model.Reply.Done c.self.invariant
    (record-made old c.args.instrument (number_of c.args.value) c.args.attributes.now _ _ (fits w) (accepted w) (lent-parts c.self.inside.pipelines.len c.record_or_none.new.pipelines _ _ (omega arith) (sent w)) [])

pub returns-clause-step : goal.returns-clause-step
returns-clause-step c =
    let w = (goal.at.returns-clause-step c).After-accept in
    let old : State = state_in c.self.inside in
    rw (← c.self.view_is) (λ own. record-made old c.args.instrument (number_of c.args.value) c.args.attributes.now _ _ (fits w) (accepted w) (lent-parts c.self.inside.pipelines.len c.record_or_none.new.pipelines _ _ (omega arith) (sent w)))
