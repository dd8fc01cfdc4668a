use Rattle.std.proofs.Common.{◌≤◌, ◌≢◌, length, drop}
use Rattle.std.specs.List.{All}
use Rattle.otel_export.proofs.writing.whole_lines.Given as goal

abbrev pub invariant-loop-end : goal.invariant-loop-end
invariant-loop-end l = record {
  bound : l.end ≤ length l.bytes;
  rest : All (λ byte. byte ≢ 10) (drop l.end l.bytes);
}

abbrev pub decreases-loop-end : goal.decreases-loop-end
decreases-loop-end l = l.end
