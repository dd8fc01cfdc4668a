use Rattle.otel_data.proofs.copies.copied_collection.Goals as goal

pub returns : goal.returns
returns c = λ x y k i. record { resource = c.resource_laws.ensures.copy _ _ k.0 i; scope_metrics = k.1.1 c.copied_scope.ensures i }
