use Rattle.std.proofs.Common.{◌∙◌, refl, sym, subst}
use Rattle.otel_aggregate.specs.Any.{is_signed_value}
use Rattle.otel_model.specs.Calls as model
use Rattle.otel_model.specs.Machine.{part_after_call}
use Rattle.opentelemetry_sdk.specs.pipeline.Pipelines.{FeedsType, number_of}
use Rattle.opentelemetry_sdk.proofs.pipeline.Pipeline.record_each.Goals as goal

pub returns-clause-ok : goal.returns-clause-ok
returns-clause-ok c =
    c.change.ensures.part 0 (model.Call.Record c.args.instrument (number_of c.args.value) c.hashed_for-given.result)
    (c.hashed_for-given.result, refl, c.in_ok-prepare.ensures.ready, subst (FeedsType c.args.instrument (is_signed_value c.args.value)) (sym c.prepare.ensures.same) c.requires)
    ∙ λ i. part_after_call 0 (model.Call.Record c.args.instrument (number_of c.args.value) (c.hashed_for-given.ensures i)) (c.prepare.ensures.same i)
