use Rattle.std.proofs.Common.{◌≡◌, ◌+◌, length, map}
use Rattle.metrics_script.specs.Progress.{progress_of}
use Rattle.metrics_script.specs.ScriptLines.{kept, without_end}
use Rattle.metrics_script.proofs.Scripts.{Reads}
use Rattle.metrics_script.proofs.script_lines.script_of.Given as goal

-- the lines so far were read
abbrev pub invariant-loop-line : goal.invariant-loop-line
invariant-loop-line l = record {
  number : l.number ≡ length l.yielded + 1;
  read : Reads (kept (map (λ part. without_end part.now) l.yielded)) (progress_of l.reading);
}
