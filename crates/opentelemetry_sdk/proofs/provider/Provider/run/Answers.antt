use Rattle.std.proofs.Common.{◌≡◌, arith, rules, subst, map, IfOk, OnErr}
use Rattle.std.specs.Global.{Vec}
use Rattle.std.proofs.lemmas.Result.{IfOk-weaker}
use Rattle.otel_stream.specs.Requests.{wanted_by}
use Rattle.opentelemetry_sdk.specs.Readers.{RunReaches}
use Rattle.opentelemetry_sdk.proofs.Reached.{unasked}
use Rattle.opentelemetry_sdk.proofs.StepLemmas.{lent_as}
use Rattle.otel_model.proofs.Runs.{streams_law, feeds_law, places_law, counted_law, collections_law}
use Rattle.otel_model.proofs.Answered.{few_answered_law, totals_answered_law, all_answered_law}
use Rattle.otel_model.proofs.Shown.{recorded_law, exported_law, pending_law, conserved_law}
use Rattle.otel_model.proofs.Single.{as_only}
use Rattle.otel_model.proofs.Booked.{accepted_law}
use Rattle.otel_model.proofs.Given.{given_law}
use Rattle.otel_model.specs.Answered.{OfEachMetric, ShowsWindow, ShowsAll, HasFewPoints}
use Rattle.otel_model.specs.Laws.{HasStreamsOfBuilds, HasFeedsOfBuilds, HasPlacesOfHistories, HasCountedOfHistories, IsGivenCollections, IsAnsweredAsOnly, HasRecordedTotal, HasExportedTotal, HasPendingPoints, Conserves, HasAccepted}
use Rattle.otel_model.specs.Given.{IsGivenOrPending}
use Rattle.opentelemetry_sdk.specs.Correspondence.{call_of, reply_of}
use Rattle.opentelemetry_sdk.specs.Known.{EachKnownHasMemory}
use Rattle.opentelemetry_sdk.specs.Providers.{views_of}
use Rattle.opentelemetry_sdk.specs.declared.calls.Reply.{Reply}
use Rattle.opentelemetry_sdk.proofs.KeptRuns.{kept_run}
use Rattle.opentelemetry_sdk.proofs.Headlines.{IsRunOf, of_readers, of_streams, of_answers, in_any_order}
use Rattle.opentelemetry_sdk.proofs.provider.Provider.run.Given as given
use Rattle.opentelemetry_sdk.proofs.provider.Provider.run.Goals.{After-run-replies}
use Rattle.opentelemetry_sdk.proofs.provider.Provider.run.Goals as goal

-- the core's run, with the provider's own views
as-run : (g : given.Over) (c : After-run-replies g) → IfOk c.run-replies.result (λ replies. IsRunOf (views_of g.P.View.View.answer c.args.self.now) c.args.self.now.core.state c.args.calls.now replies.items c.run-replies.new.self.state)
as-run g c = subst (λ vs. IfOk c.run-replies.result (λ replies. IsRunOf (map g.P.View.View.answer vs) c.args.self.now.core.state c.args.calls.now replies.items c.run-replies.new.self.state)) c.deref.ensures.value c.run-replies.ensures.run

pub returns : goal.returns
returns g c =
    let views = views_of g.P.View.View.answer c.args.self.now in
    let old = c.args.self.now.core.state in
    let new = c.run-replies.new.self.state in
    let calls = c.args.calls.now in
    let run = as-run g (goal.at.returns g c).After-run-replies in
    record {
      run = run;
      known = subst (λ vs. IfOk c.run-replies.result (λ (replies : Vec Reply). EachKnownHasMemory (map g.P.View.View.answer vs) c.args.self.now.core.state c.args.calls.now replies.items)) c.deref.ensures.value c.run-replies.ensures.known;
      unmade = search rules;
      only_memory = search rules;
      balances = search rules;
      seeded = search rules;
      readers = kept_run views c.run-replies.result (map call_of c.args.calls.now) (λ (replies : Vec Reply). map reply_of replies.items) old new run c.run-replies.ensures.unmade;
      reached = lent_as (λ before after. IfOk c.run-replies.result (λ (replies : Vec Reply). RunReaches g.P.Reader.MetricReader.flushes g.P.Reader.MetricReader.shuts c.args.self.now.core.state.shared.shut (map call_of c.args.calls.now) before (map reply_of replies.items) after)) c.args.self.now.readers.len _ _ c.run-replies.new.readers _ (omega arith) c.deref_mut.ensures.value c.run-replies.ensures.reached;
      unreached = lent_as (λ before after. OnErr c.run-replies.result (after ≡ before)) c.args.self.now.readers.len _ _ c.run-replies.new.readers _ (omega arith) c.deref_mut.ensures.value c.run-replies.ensures.unreached;
      unasked = λ none. lent_as (λ before after. after ≡ before) c.args.self.now.readers.len _ _ c.run-replies.new.readers _ (omega arith) c.deref_mut.ensures.value (unasked g.P.Reader.MetricReader.flushes g.P.Reader.MetricReader.shuts c.args.self.now.core.state.shared.shut c.run-replies.result (map call_of c.args.calls.now) (λ (replies : Vec Reply). map reply_of replies.items) c.deref_mut.result.now c.run-replies.new.readers c.run-replies.ensures.reached c.run-replies.ensures.unreached none);
      wants = let wanted = map (wanted_by g.P.Reader.MetricReader.preference g.P.Reader.MetricReader.limit g.P.Reader.MetricReader.aggregation) in lent_as (λ before after. wanted after ≡ wanted before) c.args.self.now.readers.len _ _ c.run-replies.new.readers _ (omega arith) c.deref_mut.ensures.value c.run-replies.ensures.wants;
      views = search rules;
      callbacks = search rules;
      order = IfOk-weaker c.run-replies.result _ _ (λ replies is. in_any_order views old new calls replies.items is) run;
      streams = IfOk-weaker c.run-replies.result _ _ (λ replies is. of_readers HasStreamsOfBuilds streams_law views old new calls replies.items is) run;
      feeds = IfOk-weaker c.run-replies.result _ _ (λ replies is. of_readers HasFeedsOfBuilds feeds_law views old new calls replies.items is) run;
      places = IfOk-weaker c.run-replies.result _ _ (λ replies is. of_readers HasPlacesOfHistories places_law views old new calls replies.items is) run;
      counted = IfOk-weaker c.run-replies.result _ _ (λ replies is. of_readers HasCountedOfHistories counted_law views old new calls replies.items is) run;
      collections = IfOk-weaker c.run-replies.result _ _ (λ replies is. of_answers IsGivenCollections collections_law views old new calls replies.items is) run;
      only_reader = IfOk-weaker c.run-replies.result _ _ (λ replies is. of_answers IsAnsweredAsOnly as_only views old new calls replies.items is) run;
      recorded = IfOk-weaker c.run-replies.result _ _ (λ replies is. of_streams HasRecordedTotal recorded_law views old new calls replies.items is) run;
      exported = IfOk-weaker c.run-replies.result _ _ (λ replies is. of_streams HasExportedTotal exported_law views old new calls replies.items is) run;
      pending = IfOk-weaker c.run-replies.result _ _ (λ replies is. of_streams HasPendingPoints pending_law views old new calls replies.items is) run;
      conserved = IfOk-weaker c.run-replies.result _ _ (λ replies is. of_streams Conserves conserved_law views old new calls replies.items is) run;
      given = IfOk-weaker c.run-replies.result _ _ (λ replies is. of_readers IsGivenOrPending given_law views old new calls replies.items is) run;
      accepted = IfOk-weaker c.run-replies.result _ _ (λ replies is. of_streams HasAccepted accepted_law views old new calls replies.items is) run;
      totals = IfOk-weaker c.run-replies.result _ _ (λ replies is. of_answers (OfEachMetric ShowsWindow) totals_answered_law views old new calls replies.items is) run;
      all_shown = IfOk-weaker c.run-replies.result _ _ (λ replies is. of_answers (OfEachMetric ShowsAll) all_answered_law views old new calls replies.items is) run;
      few = IfOk-weaker c.run-replies.result _ _ (λ replies is. of_answers (OfEachMetric HasFewPoints) few_answered_law views old new calls replies.items is) run;
    }
