use Rattle.otel_model.proofs.Apart.{streams_apart_law, feeds_apart_law, feeds_streams_law}
use Rattle.otel_model.proofs.feeds.Goals as goal

pub returns-clause-streams_apart : goal.returns-clause-streams_apart
returns-clause-streams_apart c = streams_apart_law

pub returns-clause-feeds_apart : goal.returns-clause-feeds_apart
returns-clause-feeds_apart c = feeds_apart_law

pub returns-clause-feeds_streams : goal.returns-clause-feeds_streams
returns-clause-feeds_streams c = feeds_streams_law
