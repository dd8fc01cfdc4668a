use Rattle.std.proofs.Common.{◌∙◌, ◌++◌, ◌∷◌, [], ap, sym, subst}
use Rattle.otel_common.specs.Canonical.{canon}
use Rattle.otel_model_stream.specs.Maps.{bound_map, bound_to}
use Rattle.otel_model_stream.specs.Laws.{AreKnown}
use Rattle.otel_model_stream.proofs.KnownLists.{known_bound}
use Rattle.otel_aggregate.specs.value_map.Contents.{known_of, next_of}
use Rattle.otel_aggregate.specs.value_map.Numbers.{spelling_of}
use Rattle.otel_aggregate.proofs.value_map.PlaceLemmas.{used-held}
use Rattle.otel_aggregate.proofs.value_map.ValueMap.bind.Goals as goal

pub returns-clause-ok : goal.returns-clause-ok
returns-clause-ok g c =
    let l = c.args.attributes.now in
    let was = c.args.self.now.state in
    let ready = c.in_ok-prepare.ensures in
    let state = c.commit_bind.ensures.bound (bound_to (canon l) was) (ap next_of (ready.ready ∙ ap (λ x. bound_to (canon x) was ∷ []) c.new.ensures)) ∙ ap (bound_map (bound_to (canon l) was)) ready.same ∙ used-held was (canon l) in
    let given = c.commit_bind.ensures.given ∙ (λ i. ready.given i ++ (ready.spelling ∙ ap (λ x. spelling_of x was) c.new.ensures) i) in
    λ i. record { map_state = state i; given = given i }

pub returns-clause-learned : goal.returns-clause-learned
returns-clause-learned g c = λ admitted.
    let l = c.args.attributes.now in
    subst (AreKnown l) (sym (returns-clause-ok g c)) (known_bound l (known_of c.args.self.now) admitted)
