use Rattle.std.proofs.Common.{◌≡◌, ◌∙◌, ◌<◌, ap, arith, refl, sym, subst, length, List, Some, slice_get}
use Rattle.std.proofs.lemmas.List.{length-map}
use Rattle.std.proofs.lemmas.Option.{slice_get_read, slice_get_within}
use Rattle.std.proofs.lemmas.Result.{on_ok_weaker}
use Rattle.otel_model.specs.Demands.{Demand, is_drop}
use Rattle.opentelemetry_sdk.specs.pipeline.Pipelines.{IsLonger, Piped, fed_once, identity_of}
use Rattle.opentelemetry_sdk.specs.pipeline.Streams.{StreamContents}
use Rattle.opentelemetry_sdk.proofs.pipeline.Meets.{longer-refl, met-more}
use Rattle.opentelemetry_sdk.proofs.pipeline.Pipeline.meet.Goals as goal

pub returns-in_err-number-clause-longer : goal.returns-in_err-number-clause-longer
returns-in_err-number-clause-longer c = subst (IsLonger c.args.self.now) (sym c.in_err-number.ensures.same) (longer-refl c.args.self.now)

-- its stream is fed once
pub returns-clause-met : goal.returns-clause-met
returns-clause-met c =
    let new : Piped = c.stream_for.new.self in
    let ks : List StreamContents = c.self.inside.streams.items in
    let k : StreamContents = c.index.result.now in
    let streams : ks ≡ new.streams = ap (λ (p : Piped). p.streams) c.self.view_is in
    let within : c.in_ok-number.number < length ks = omega (arith, slice_get_within _ c.in_ok-number.number c.args.demand.identity c.in_ok-number.ensures.met.at, length-map new.streams identity_of, ap length streams) in
    let at : slice_get new.streams c.in_ok-number.number ≡ Some k = ap (λ l. slice_get l c.in_ok-number.number) (sym streams) ∙ slice_get_read ks (length ks) c.in_ok-number.number k refl within c.index.ensures in
    on_ok_weaker c.feed.result
    (λ fed before ds was. met-more c.args.now ds c.args.demand before c.args.self.now new c.in_ok-number.number c.args.feeds.now.items was c.in_ok-number.ensures.met k at c.law_of_identities.ensures.apart c.feed.new.feeds.items
    (fed ∙ ap (λ b. fed_once b c.in_ok-number.number c.args.feeds.now.items) (c.is_drop-drops.ensures ∙ ap (λ (d : Demand). is_drop d.aggregation) c.demand.ensures)))
    c.feed.ensures.fed
