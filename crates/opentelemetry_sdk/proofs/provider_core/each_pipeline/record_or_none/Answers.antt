use Rattle.std.proofs.Common.{◌≡◌, List, [], map, length, ◌∙◌, refl, sym, ap, eqb-true}
use Rattle.std.proofs.lemmas.List.{nil_from_length}
use Rattle.otel_common.specs.declared.attributes.KeyValue.{KeyValue}
use Rattle.otel_aggregate.specs.Any.{is_signed_value}
use Rattle.otel_model.specs.Calls as model
use Rattle.otel_model.specs.Machine.{part_after_call}
use Rattle.opentelemetry_sdk.specs.pipeline.Pipelines.{FeedsType, part_of}
use Rattle.opentelemetry_sdk.specs.Correspondence.{number_of}
use Rattle.opentelemetry_sdk.proofs.Held.{each-at}
use Rattle.opentelemetry_sdk.proofs.provider_core.each_pipeline.record_or_none.Goals as goal

pub returns-then-is_empty-clause-ok : goal.returns-then-is_empty-clause-ok
returns-then-is_empty-clause-ok c =
    let none : c.args.attributes.now ≡ [] = sym c.as_slice.ensures ∙ nil_from_length c.as_slice.result.now (eqb-true (length c.as_slice.result.now) 0 (sym c.is_empty.ensures ∙ c.if-is_empty.true)) in
    c.change_all.ensures.parts 0 (model.Call.Record c.args.instrument (number_of c.args.value) []) (λ i d h. (refl, each-at (FeedsType c.args.instrument (is_signed_value c.args.value)) c.args.pipelines.now i d h c.requires))
    ∙ ap (λ (l : List KeyValue). map (part_after_call 0 (model.Call.Record c.args.instrument (number_of c.args.value) l)) (map part_of c.args.pipelines.now)) (sym none)
