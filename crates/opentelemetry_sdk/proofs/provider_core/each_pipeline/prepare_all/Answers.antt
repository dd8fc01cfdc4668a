use Rattle.std.proofs.Common.{rules, ◌≡◌, ◌∙◌, ap, sym, true, refl, arith, get_or, IsOk}
use Rattle.std.specs.List.{list_all}
use Rattle.std.proofs.lemmas.List.Folds.{list_all-map}
use Rattle.std.proofs.lemmas.List.Sums.{AllPass-from_list_all}
use Rattle.std.proofs.lemmas.List.Elements.{AllWithin-more_set}
use Rattle.opentelemetry_sdk.specs.pipeline.Known.{is_known_at}
use Rattle.opentelemetry_sdk.specs.pipeline.Pipelines.{Piped, part_of, IsReadyFor}
use Rattle.opentelemetry_sdk.proofs.pipeline.Writes.{seen_same}
use Rattle.opentelemetry_sdk.proofs.provider_core.each_pipeline.prepare_all.Goals as goal

pub returns-in_err-prepare-clause-same : goal.returns-in_err-prepare-clause-same
returns-in_err-prepare-clause-same c =
    seen_same part_of c.loop-i.pipelines c.loop-i.i c.index-pipelines-i.result (get_or c.loop-i.pipelines c.loop-i.i c.index-pipelines-i.result) c.prepare.new.self refl c.prepare.ensures.same ∙ c.loop-i.invariant.same

-- a reader whose streams know them is not refused
pub returns-in_err-prepare-clause-known : goal.returns-in_err-prepare-clause-known
returns-in_err-prepare-clause-known c = λ records known.
    (let n = c.args.instrument in
    let l = c.args.attributes.now in
    let each : list_all (λ (p : Piped). is_known_at n l (part_of p)) c.loop-i.pipelines ≡ true =
    sym (list_all-map (is_known_at n l) part_of c.loop-i.pipelines) ∙ (ap (list_all (is_known_at n l)) c.loop-i.invariant.same ∙ known) in
    let one : is_known_at n l (part_of (get_or c.loop-i.pipelines c.loop-i.i c.index-pipelines-i.result)) ≡ true =
    AllPass-from_list_all (λ (p : Piped). is_known_at n l (part_of p)) c.loop-i.pipelines each c.loop-i.i c.index-pipelines-i.result (omega arith) in
    let ok : IsOk c.prepare.result = c.prepare.ensures.known records (rw c.hashed_for-given.ensures one) in
    search rules)

pub loop-i-preserved : goal.loop-i-preserved
loop-i-preserved c = record {
  same = seen_same part_of c.loop-i.pipelines c.loop-i.i c.index-pipelines-i.result (get_or c.loop-i.pipelines c.loop-i.i c.index-pipelines-i.result) c.prepare.new.self refl c.prepare.ensures.same ∙ c.loop-i.invariant.same;
  ready = AllWithin-more_set c.loop-i.pipelines c.loop-i.i c.prepare.new.self (omega arith) (IsReadyFor c.args.binds c.args.instrument c.args.attributes.now) c.loop-i.invariant.ready (rw c.hashed_for-given.ensures at c.in_ok-prepare.ensures.ready);
}
