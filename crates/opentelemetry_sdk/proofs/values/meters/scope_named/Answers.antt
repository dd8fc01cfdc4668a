use Rattle.std.proofs.Common.{◌≡◌, ◌∙◌, ℕ, List, length, Result, Ok, Err, ap, IfOk, string_bytes}
use Rattle.std.proofs.lemmas.List.{nil_from_length}
use Rattle.std.proofs.lemmas.List.Sorted.{length_permutation}
use Rattle.otel_common.specs.Canonical.{IsStablySorted}
use Rattle.otel_common.specs.declared.faults.Fault.{Fault}
use Rattle.otel_common.specs.declared.scopes.InstrumentationScope.{InstrumentationScope}
use Rattle.opentelemetry_sdk.specs.Typed.{named_scope}
use Rattle.opentelemetry_sdk.proofs.values.meters.scope_named.Goals as goal

-- a scope that is built of a name alone has no attributes
scope_of_name : (r : Result InstrumentationScope Fault) (scope : InstrumentationScope) (name : List ℕ) → scope ≡ named_scope name
    → IfOk r (λ s. s ≡ record scope { attributes = s.attributes }) → IfOk r (λ s. IsStablySorted scope.attributes s.attributes) → IfOk r (λ s. s ≡ named_scope name)
scope_of_name (Ok s) scope name is rest sorted =
    let few : length s.attributes ≡ 0 = length_permutation scope.attributes s.attributes sorted.permutation ∙ ap (λ (t : InstrumentationScope). length t.attributes) is in
    rest ∙ (λ i. record (is i) { attributes = nil_from_length s.attributes few i })
scope_of_name (Err e) scope name is rest sorted = tt

pub returns-clause-scope : goal.returns-clause-scope
returns-clause-scope c = scope_of_name c.build.result c.builder.result.scope (string_bytes c.args.name) c.builder.ensures c.build.ensures.rest c.build.ensures.sorted
