use Rattle.std.proofs.Common.{◌∙◌, refl, sym, ap, subst, map}
use Rattle.otel_aggregate.specs.Any.{is_signed_value}
use Rattle.otel_model.specs.Calls as model
use Rattle.otel_model.specs.Machine.{part_after_call}
use Rattle.opentelemetry_sdk.specs.pipeline.Pipelines.{FeedsType}
use Rattle.opentelemetry_sdk.specs.Correspondence.{number_of}
use Rattle.opentelemetry_sdk.specs.States.{FeedType}
use Rattle.opentelemetry_sdk.proofs.Held.{each-at}
use Rattle.opentelemetry_sdk.proofs.provider_core.each_pipeline.record_given.Goals as goal

pub returns-clause-ok : goal.returns-clause-ok
returns-clause-ok c =
    let typed : FeedType c.args.instrument (number_of c.args.value) _ = subst (FeedType c.args.instrument (number_of c.args.value)) (sym c.prepare_all.ensures.same) c.requires in
    c.change_all.ensures.parts 0 (model.Call.Record c.args.instrument (number_of c.args.value) c.args.attributes.now)
    (λ i d h. (c.args.attributes.now, refl, c.in_ok-prepare_all.ensures.ready i d h, each-at (FeedsType c.args.instrument (is_signed_value c.args.value)) c.prepare_all.new.pipelines i d h typed))
    ∙ ap (map (part_after_call 0 (model.Call.Record c.args.instrument (number_of c.args.value) c.args.attributes.now))) c.prepare_all.ensures.same
