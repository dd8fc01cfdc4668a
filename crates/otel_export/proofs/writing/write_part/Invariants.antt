use Rattle.std.specs.Io.KnownBytes.{Keeps}
use Rattle.otel_export.proofs.writing.write_part.Given as goal

abbrev pub invariant-loop : goal.invariant-loop
invariant-loop g l = Keeps (g.W.Write.contents l.initial.out) (g.W.Write.contents l.out)
