use Rattle.std.proofs.Common.{◌≡◌, ◌∙◌, List, Some, ap}
use Rattle.otel_common.specs.declared.attributes.KeyValue.{KeyValue}
use Rattle.opentelemetry_sdk.specs.pipeline.Observations.{draft_of, drafted}
use Rattle.opentelemetry_sdk.specs.pipeline.Streams.{contents_after_record, without_pending}
use Rattle.opentelemetry_sdk.proofs.pipeline.Drafted.{drafted-back, drafted-rest, fits-back, fits-kept, observed-settled}
use Rattle.opentelemetry_sdk.proofs.pipeline.metric_stream.MetricStream.observe.Goals as goal
use Rattle.opentelemetry_sdk.proofs.pipeline.metric_stream.MetricStream.observe.Goals.{After-record-observed}

-- but for its draft, the stream is as it was
rest : (c : After-record-observed) → drafted (Some (draft_of c.args.self.now)) c.record-observed.new.self ≡ without_pending c.args.self.now
rest c = drafted-rest c.args.observation.now.value c.new-attributes.result c.record-observed.result c.args.draft.now c.args.self.now c.enter_draft.new.self c.record-observed.new.self c.enter_draft.ensures.stream c.record-observed.ensures.ok c.record-observed.ensures.err

pub exchange-requires : goal.exchange-requires
exchange-requires c = fits-kept c.enter_draft.new.draft c.args.self.now c.record-observed.new.self c.in_ok-enter_draft.ensures.draft (rest (goal.at.exchange-requires c).After-record-observed) c.requires.observable

pub returns-in_err-observed-clause-same : goal.returns-in_err-observed-clause-same
returns-in_err-observed-clause-same c = c.exchange.ensures.stream ∙ ap (λ q. drafted q c.record-observed.new.self) c.in_ok-enter_draft.ensures.draft ∙ rest (goal.at.returns-in_err-observed-clause-same c).After-record-observed

pub returns-clause-same : goal.returns-clause-same
returns-clause-same c = c.exchange.ensures.stream ∙ ap (λ q. drafted q c.record-observed.new.self) c.in_ok-enter_draft.ensures.draft ∙ rest (goal.at.returns-clause-same c).After-record-observed

pub returns-clause-fits : goal.returns-clause-fits
returns-clause-fits c =
    fits-back c.enter_draft.new.draft c.exchange.new.draft c.record-observed.new.self c.exchange.new.self c.exchange.ensures.draft c.exchange.ensures.stream
    (fits-kept c.enter_draft.new.draft c.args.self.now c.record-observed.new.self c.in_ok-enter_draft.ensures.draft (rest (goal.at.returns-clause-fits c).After-record-observed) c.requires.observable)

pub returns-clause-observed : goal.returns-clause-observed
returns-clause-observed c =
    let value = c.args.observation.now.value in
    let l = c.args.observation.now.attributes in
    drafted-back c.enter_draft.new.draft c.exchange.new.draft c.record-observed.new.self c.exchange.new.self c.exchange.ensures.draft c.exchange.ensures.stream
    ∙ ap without_pending (c.in_ok-observed.ensures.ok ∙ ap (λ (a : List KeyValue). contents_after_record value a c.enter_draft.new.self) (c.new-attributes.ensures ∙ c.as_slice.ensures))
    ∙ observed-settled value l c.enter_draft.new.self
    ∙ ap (contents_after_record value l) c.enter_draft.ensures.stream
