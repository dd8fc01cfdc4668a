use Rattle.std.proofs.Common.{◌≡◌, ℕ, List, OnOk, ◌+◌, ◌++◌, take, drop, sym, ap, ◌∙◌, subst, add-one}
use Rattle.std.proofs.lemmas.List.{take_rest}
use Rattle.otel_prometheus.specs.Units.{ratio, unit_parts}
use Rattle.otel_prometheus.proofs.units.push_parts.Goals as goal

pub returns-in-Some : goal.returns-in-Some
returns-in-Some c =
    let unit : List ℕ = c.args.unit.now in
    let i : ℕ = c.in-Some.index in
    subst (λ t. OnOk c.push_ratio.result (c.push_ratio.new.out.items ≡ c.args.out.now.items ++ t))
    (ap (λ under. ratio (take i unit) under) (take_rest unit (i + 1))
    ∙ (ap (λ k. ratio (take i unit) (drop k unit)) (add-one i)
    ∙ ap (unit_parts unit) (sym c.in-Some.is ∙ c.slash.ensures.found)))
    c.push_ratio.ensures
