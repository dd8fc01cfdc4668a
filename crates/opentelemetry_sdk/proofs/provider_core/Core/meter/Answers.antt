use Rattle.std.proofs.Common.{◌≡◌, ◌∙◌, rules, ap, sym, true≢false, cond, List, [], ◌∷◌, ◌++◌}
use Rattle.std.specs.List.{list_any, position_or_len}
use Rattle.otel_common.specs.Scopes.{scope_eq}
use Rattle.otel_common.specs.declared.scopes.InstrumentationScope.{InstrumentationScope}
use Rattle.otel_model.specs.Machine.{with_meter}
use Rattle.otel_model.specs.State.{State}
use Rattle.opentelemetry_sdk.specs.Cores.{state_in}
use Rattle.opentelemetry_sdk.proofs.StepLemmas.{meter-made, meter-known, meter-unknown, has_scope-flip}
use Rattle.opentelemetry_sdk.proofs.provider_core.Core.meter.Goals.{In_ok-number, After-from_residual-in_err-number}
use Rattle.opentelemetry_sdk.proofs.provider_core.Core.meter.Goals as goal

-- a known one is found
pub returns-in-Some-clause-step : goal.returns-in-Some-clause-step
returns-in-Some-clause-step c = rw (← c.self.view_is) (meter-known (state_in c.self.inside) c.args.scope.now c.in-Some.number c.if-self.false (sym c.get_index_of.ensures.index ∙ c.in-Some.is))

-- one that is known was found
pub returns-in_err-copied-clause-known : goal.returns-in_err-copied-clause-known
returns-in_err-copied-clause-known c = rw (← c.self.view_is) (λ t. absurd (true≢false (sym t ∙ meter-unknown c.self.inside.meters.keys c.args.scope.now (sym c.get_index_of.ensures.index ∙ c.in_default.is))))

pub returns-in_err-number-clause-known : goal.returns-in_err-number-clause-known
returns-in_err-number-clause-known c = rw (← c.self.view_is) (λ t. absurd (true≢false (sym t ∙ meter-unknown c.self.inside.meters.keys c.args.scope.now (sym c.get_index_of.ensures.index ∙ c.in_default.is))))

-- there is no memory for a new one
same : (c : After-from_residual-in_err-number) → c.insert_full.new.self.keys ≡ c.self.inside.meters.keys
same c = search rules

-- a new scope is added at the end
scope-copied : (c : In_ok-number) → c.in_ok-copied.copied ≡ c.args.scope.now
scope-copied c = search rules

first : (c : In_ok-number) → c.in_ok-number.number ≡ position_or_len (scope_eq c.args.scope.now) c.self.inside.meters.keys
first c = c.in_ok-number.ensures.index ∙ ap (λ s. position_or_len (scope_eq s) c.self.inside.meters.keys) (scope-copied c)

added : (c : In_ok-number) → c.insert_full.new.self.keys ≡ with_meter c.args.scope.now c.self.inside.meters.keys
added c =
    let keys : List InstrumentationScope = c.self.inside.meters.keys in
    c.in_ok-number.ensures.keys ∙ (ap (λ s. cond (list_any (scope_eq s) keys) keys (keys ++ s ∷ [])) (scope-copied c) ∙ ap (λ b. cond b keys (keys ++ c.args.scope.now ∷ [])) (sym (has_scope-flip c.args.scope.now keys)))

pub returns-clause-step : goal.returns-clause-step
returns-clause-step c =
    let w = (goal.at.returns-clause-step c).In_ok-number in
    let old : State = state_in c.self.inside in
    rw (← c.self.view_is) (meter-made old _ c.args.scope.now c.in_ok-number.number c.if-self.false (first w) (added w))
