use Rattle.std.proofs.Common.{◌≡◌, ◌++◌, drop}
use Rattle.std.specs.String.{string_bytes}
use Rattle.otel_prometheus.specs.Names.{test_of, name_bytes}
use Rattle.otel_prometheus.proofs.text.names.push_bytes.Given as goal

-- with what stands for the bytes that are left the name is whole
abbrev pub invariant-loop-byte : goal.invariant-loop-byte
invariant-loop-byte l = string_bytes l.out ++ name_bytes (test_of l.is_metric) l.after (drop l.byte-index l.text) ≡ string_bytes l.fn.out ++ name_bytes (test_of l.is_metric) l.behind l.text
