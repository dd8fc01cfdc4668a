use Rattle.std.proofs.Common.{◌≡◌, ◌∙◌, ◌++◌, ◌∷◌, [], List, ap, sym, subst}
use Rattle.otel_common.specs.Canonical.{canon}
use Rattle.otel_common.specs.declared.attributes.KeyValue.{KeyValue}
use Rattle.otel_model_stream.specs.Laws.{AreKnown}
use Rattle.otel_model_stream.specs.Maps.{MapState, measured_map, bound_to}
use Rattle.otel_model_stream.specs.Sets.{AttributeSet}
use Rattle.otel_model_stream.proofs.KnownLists.{known_measured}
use Rattle.otel_aggregate.specs.value_map.Contents.{IsPlanAt, known_of, next_of}
use Rattle.otel_aggregate.specs.value_map.Numbers.{spelling_of}
use Rattle.otel_aggregate.proofs.value_map.PlaceLemmas.{measured-at, used-measured}
use Rattle.otel_aggregate.proofs.value_map.ValueMap.measure_given.Goals as goal

pub returns-clause-ok : goal.returns-clause-ok
returns-clause-ok g c =
    let h = c.args.self.now in
    let l = c.args.attributes.now in
    let v = g.A.Aggregator.sample c.args.value in
    let used : AttributeSet = bound_to (canon l) h.state in
    let state : c.commit.new.self.state ≡ measured_map (canon l) v h.state =
    c.commit.ensures.measured used (ap next_of (c.in_ok-prepare_unknown.ensures.ready ∙ ap (λ (x : List KeyValue). bound_to (canon x) h.state ∷ []) c.list-list.ensures))
    ∙ ap (λ (m : MapState). measured_map used v m) c.prepare_unknown.ensures.same
    ∙ used-measured h.state (canon l) v in
    let given : c.commit.new.self.given ≡ h.given ++ spelling_of l h.state =
    c.commit.ensures.given
    ∙ ap (λ (ls : List (List KeyValue)). ls ++ c.prepare_unknown.new.self.spelling) c.prepare_unknown.ensures.given
    ∙ ap (λ (ls : List (List KeyValue)). h.given ++ ls) (c.in_ok-prepare_unknown.ensures.spelling ∙ ap (λ (x : List KeyValue). spelling_of x h.state) c.list-list.ensures) in
    λ i. record { map_state = state i; given = given i }

pub returns-clause-learned : goal.returns-clause-learned
returns-clause-learned g c = λ admitted.
    let l = c.args.attributes.now in
    subst (AreKnown l) (sym (returns-clause-ok g c)) (known_measured l (g.A.Aggregator.sample c.args.value) (known_of c.args.self.now) admitted)

pub returns-in-Some-clause-ok : goal.returns-in-Some-clause-ok
returns-in-Some-clause-ok g c =
    let t = c.self.inside.table in
    let plan = subst (λ l. IsPlanAt t l c.in-Some.number) c.list-list.ensures c.in-Some.ensures.plan in
    rw (← c.self.view_is) (measured-at t c.touch.new.self c.self.inside.limit (g.A.Aggregator.empty c.self.inside.config) c.args.attributes.now c.in-Some.number (g.A.Aggregator.sample c.args.value) plan c.touch.ensures.table c.touch.ensures.aliases)
