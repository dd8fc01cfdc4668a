use Rattle.std.proofs.Common.{◌≡◌, List, [], ◌∷◌, length, refl, ap, ◌∙◌, arith, rules}
use Rattle.std.proofs.lemmas.List.Sorted.{length_permutation}
use Rattle.otel_common.specs.Canonical.{IsStablySorted}
use Rattle.otel_common.specs.declared.attributes.KeyValue.{KeyValue}
use Rattle.metrics_script.proofs.calls.scope_of.Goals as goal
use Rattle.metrics_script.proofs.calls.scope_of.Goals.{in-Some+in_ok-text_of_word-in-Some, in-None}

-- no attributes stay none when they are sorted
none_sorted : (given sorted : List KeyValue) → IsStablySorted given sorted → given ≡ [] → sorted ≡ []
none_sorted given [] h e = refl
none_sorted given (x ∷ xs) h e =
    let same : length (x ∷ xs) ≡ length given = length_permutation given (x ∷ xs) h.permutation in
    let none : length given ≡ 0 = ap (λ (l : List KeyValue). length l) e in
    let no : ⊥ = omega (arith, same, none) in
    absurd no

pub returns-clause-scope : goal.returns-clause-scope
returns-clause-scope c =
    let sorted = c.in_ok-build.ensures.sorted in
    elim c.match-version.branch [
      | in-Some+in_ok-text_of_word-in-Some w ↦
          (let scope = ap (λ b. b.scope) w.builder-is ∙ w.with_version-builder.ensures in
          let none = none_sorted _ _ sorted (search rules) in
          search rules)
      | in-None w ↦
          (let scope = ap (λ b. b.scope) w.builder-is ∙ c.builder-builder.ensures in
          let none = none_sorted _ _ sorted (search rules) in
          search rules)
    ]
