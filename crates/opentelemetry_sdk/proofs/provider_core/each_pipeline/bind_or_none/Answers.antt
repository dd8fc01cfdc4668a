use Rattle.std.proofs.Common.{◌∙◌, refl, sym, ap, subst, map}
use Rattle.std.specs.List.{AllByRecursion as EachOf}
use Rattle.otel_model.specs.Calls as model
use Rattle.otel_model.specs.Machine.{part_after_call}
use Rattle.opentelemetry_sdk.specs.pipeline.Handles.{FeedsSynchronous, IsNewAt}
use Rattle.opentelemetry_sdk.proofs.Held.{each-at}
use Rattle.opentelemetry_sdk.proofs.provider_core.each_pipeline.bind_or_none.Goals as goal

pub returns-clause-ok : goal.returns-clause-ok
returns-clause-ok c =
    let same = c.prepare_all.ensures.same in
    c.change_all.ensures.parts c.args.handle (model.Call.Bind c.args.instrument c.args.attributes.now)
    (λ i d h. (
      c.args.attributes.now,
      refl,
      refl,
      c.in_ok-prepare_all.ensures.ready i d h,
      each-at (FeedsSynchronous c.args.instrument) c.prepare_all.new.pipelines i d h (subst (EachOf (FeedsSynchronous c.args.instrument)) (sym same) c.requires.synchronous),
      each-at (IsNewAt c.args.handle) c.prepare_all.new.pipelines i d h (subst (EachOf (IsNewAt c.args.handle)) (sym same) c.requires.new),
    ))
    ∙ ap (map (part_after_call c.args.handle (model.Call.Bind c.args.instrument c.args.attributes.now))) same
