use Rattle.std.proofs.Common.{◌≡◌, ◌≤◌, length, map, take, vec_len, vec_capacity}
use Rattle.otel_stream.specs.Requests.{wanted_by}
use Rattle.opentelemetry_sdk.proofs.KnownRuns.{KnownRun}
use Rattle.opentelemetry_sdk.proofs.provider_core.Core.run.Given as goal

-- a reply to each call so far, as the machine gives it, the readers as these calls leave them, and room for the others
abbrev pub invariant-loop-call : goal.invariant-loop-call
invariant-loop-call g l = record {
  many : vec_len l.replies ≡ l.call-index;
  room : length l.calls ≤ vec_capacity l.replies;
  so_far : KnownRun (map g.V.View.answer l.views) g.R.MetricReader.flushes g.R.MetricReader.shuts (l.initial.self.state, l.initial.readers) (take l.call-index l.calls) l.replies.items (l.self.state, l.readers);
  seeded : l.self.hash_seed ≡ l.initial.self.hash_seed;
  wants : map (wanted_by g.R.MetricReader.preference g.R.MetricReader.limit g.R.MetricReader.aggregation) l.readers ≡ map (wanted_by g.R.MetricReader.preference g.R.MetricReader.limit g.R.MetricReader.aggregation) l.initial.readers;
}
