use Rattle.std.proofs.Common.{◌≡◌, ◌++◌, map, drop}
use Rattle.otel_otlp.specs.Parts.{part_token}
use Rattle.otel_otlp.proofs.parts.write_parts.Given as goal

-- with the parts that are left all are written
abbrev pub invariant-loop-part : goal.invariant-loop-part
invariant-loop-part l = record {
  tokens : l.out.tokens ++ map part_token (drop l.part-index l.parts) ≡ l.fn.out.tokens ++ map part_token l.parts;
  before : l.out.before ≡ l.fn.out.before;
}
