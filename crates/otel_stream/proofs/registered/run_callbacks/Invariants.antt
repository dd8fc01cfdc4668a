use Rattle.std.proofs.Common.{◌≡◌, List, length, map, Ok}
use Rattle.otel_stream.specs.Runs.{Ran, RanTo, concat_lists}
use Rattle.otel_stream.specs.declared.observation.Observed.{Observed}
use Rattle.otel_stream.proofs.registered.run_callbacks.Given as goal

-- those before this one ran, and gave what was observed so far
abbrev pub invariant-loop-callback : goal.invariant-loop-callback
invariant-loop-callback g l =
    (ls : List (List Observed)) × RanTo (Ran g.U.ObserveU64.observes g.I.ObserveI64.observes) l.callback-index l.fn.callbacks l.callbacks (map Ok ls) × (l.observed.items ≡ concat_lists ls) × (length ls ≡ l.callback-index)
