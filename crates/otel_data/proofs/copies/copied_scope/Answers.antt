use Rattle.std.proofs.Common.{◌≡◌, rules}
use Rattle.otel_data.proofs.copies.copied_scope.Goals as goal

pub returns : goal.returns
returns c = λ x y k.
    let scope : y.scope ≡ x.scope = let h = k.0 in search rules in
    λ i. record { scope = scope i; metrics = k.1.1 c.copied_metric.ensures i }
