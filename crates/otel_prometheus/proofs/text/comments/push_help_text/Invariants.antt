use Rattle.std.proofs.Common.{◌≡◌, ◌++◌, drop}
use Rattle.otel_prometheus.specs.Lines.{help_text}
use Rattle.otel_prometheus.proofs.text.comments.push_help_text.Given as goal

-- with what stands for the bytes that are left the text is whole
abbrev pub invariant-loop-byte : goal.invariant-loop-byte
invariant-loop-byte l = l.out.items ++ help_text l.format (drop l.byte-index l.text) ≡ l.fn.out.items ++ help_text l.format l.text
