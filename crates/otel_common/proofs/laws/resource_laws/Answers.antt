use Rattle.std.proofs.Common.{ap}
use Rattle.otel_common.specs.Equality.{both_decide, set_eq-Decides}
use Rattle.otel_common.specs.Scopes.{option_eq-Decides}
use Rattle.otel_common.proofs.laws.resource_laws.Goals as goal

pub returns-clause-equal : goal.returns-clause-equal
returns-clause-equal c = λ x y.
    both_decide _ _ (set_eq-Decides x.attributes y.attributes) (option_eq-Decides x.schema_url y.schema_url)
    (λ a u i. record { attributes = a i; schema_url = u i })
    (λ e. (ap (λ r. r.attributes) e, ap (λ r. r.schema_url) e))
