use Rattle.std.proofs.Common.{◌≡◌, ◌∙◌, [], List, map, take, refl, sym, ap, subst, arith}
use Rattle.otel_model.specs.Batches.{written_each}
use Rattle.otel_model.specs.State.{InstrumentState, State}
use Rattle.opentelemetry_sdk.specs.Batches.{AreReadyIn, IsIn}
use Rattle.opentelemetry_sdk.specs.Cores.{state_in}
use Rattle.opentelemetry_sdk.specs.Groups.{listed_at, with_numbers}
use Rattle.opentelemetry_sdk.specs.Pending.{AreDone, call_in}
use Rattle.opentelemetry_sdk.specs.States.{IsSound}
use Rattle.opentelemetry_sdk.specs.pipeline.Pipelines.{Piped, part_of}
use Rattle.opentelemetry_sdk.proofs.Grouping.{batch-done, groups-fit, state-written}
use Rattle.opentelemetry_sdk.proofs.StepLemmas.{lent_as, lent_back}
use Rattle.opentelemetry_sdk.proofs.provider_core.Core.record_grouped.Goals as goal
use Rattle.opentelemetry_sdk.proofs.provider_core.Core.record_grouped.Goals.{After-deref_mut-2, After-record_groups}

-- what stands when all series are prepared
module _ (c : After-deref_mut-2) where
  abbrev old : State
  old = state_in c.self.inside

  ready : AreReadyIn c.args.waiting.now.series c.args.groups.now.groups old c.deref_mut-2.result.now c.self.inside.instruments.items
  ready = subst (λ (ps : List Piped). AreReadyIn c.args.waiting.now.series c.args.groups.now.groups old ps c.self.inside.instruments.items)
      (sym (c.deref_mut-2.ensures.value ∙ lent_back c.self.inside.pipelines.len c.prepare_groups.new.pipelines _ (omega arith)))
      (subst (λ (is : List InstrumentState). AreReadyIn c.args.waiting.now.series c.args.groups.now.groups old c.prepare_groups.new.pipelines is) c.deref.ensures.value
      (c.prepare_groups.ensures.ready c.if-not-prepare_groups.false old (record { sound = c.self.invariant; readers = ap (map part_of) (sym c.deref_mut.ensures.value); instruments = sym c.deref.ensures.value })))

  -- the records, made series by series
  done : AreDone old (map call_in (take c.args.groups.now.records c.args.waiting.now.records)) (written_each (listed_at c.args.waiting.now.series) (map with_numbers c.args.groups.now.groups) old)
  done = batch-done c.args.waiting.now c.args.groups.now c.requires old c.self.invariant ready.known

-- and once they are made
module _ (c : After-record_groups) (all : AreReadyIn c.args.waiting.now.series c.args.groups.now.groups (state_in c.self.inside) c.deref_mut-2.result.now c.self.inside.instruments.items) where
  abbrev new : State
  new = written_each (listed_at c.args.waiting.now.series) (map with_numbers c.args.groups.now.groups) (state_in c.self.inside)

  made : IsIn new (map part_of c.record_groups.new.pipelines) c.record_groups.new.instruments.items
  made = c.record_groups.ensures (state_in c.self.inside) all

  -- the state, where the readers' parts stand by themselves
  abbrev with_parts : List Piped → State
  with_parts ps = record { shared = record (state_in c.self.inside).shared { instruments = c.record_groups.new.instruments.items }; readers = map part_of ps }

  left : new ≡ with_parts c.record_groups.new.pipelines
  left = state-written (listed_at c.args.waiting.now.series) (map with_numbers c.args.groups.now.groups) (state_in c.self.inside) (map part_of c.record_groups.new.pipelines) c.record_groups.new.instruments.items made

pub prepare_groups-requires : goal.prepare_groups-requires
prepare_groups-requires c = record { within = groups-fit c.args.waiting.now c.args.groups.now c.requires }

pub record_groups-requires-clause-within : goal.record_groups-requires-clause-within
record_groups-requires-clause-within c = groups-fit c.args.waiting.now c.args.groups.now c.requires

pub record_groups-requires-clause-ready : goal.record_groups-requires-clause-ready
record_groups-requires-clause-ready c =
    let w = (goal.at.record_groups-requires-clause-ready c).After-deref_mut-2 in
    (old w, ready w)

pub invariant_of-self-2 : goal.invariant_of-self-2
invariant_of-self-2 c =
    let d = (goal.at.invariant_of-self-2 c).After-deref_mut-2 in
    let w = (goal.at.invariant_of-self-2 c).After-record_groups in
    lent_as (λ old ps. IsSound (with_parts w (ready d) ps)) c.self.inside.pipelines.len [] [] c.record_groups.new.pipelines _ (omega arith) refl (subst IsSound (left w (ready d)) (made w (ready d)).sound)

pub returns-clause-made : goal.returns-clause-made
returns-clause-made c =
    let d = (goal.at.returns-clause-made c).After-deref_mut-2 in
    let w = (goal.at.returns-clause-made c).After-record_groups in
    let calls = map call_in (take c.records-2.result c.args.waiting.now.records) in
    let all = subst (λ n. AreDone (state_in c.self.inside) (map call_in (take n c.args.waiting.now.records)) (new w (ready d))) (sym c.records-2.ensures) (done d) in
    rw (← c.self.view_is) (lent_as (λ old ps. AreDone (state_in c.self.inside) calls (with_parts w (ready d) ps)) c.self.inside.pipelines.len [] [] c.record_groups.new.pipelines _ (omega arith) refl
    (subst (AreDone (state_in c.self.inside) calls) (left w (ready d)) all))
