use Rattle.std.proofs.Common.{ap, arith}
use Rattle.json.specs.Json.{number}
use Rattle.otel_otlp.proofs.Digits.{decimal-digits}
use Rattle.otel_otlp.proofs.points.temporality_number.Goals as goal

pub returns-in-Cumulative : goal.returns-in-Cumulative
returns-in-Cumulative c = rw (c.in-Cumulative.is) (ap number (decimal-digits 2 (omega arith)))

pub returns-in-Delta : goal.returns-in-Delta
returns-in-Delta c = rw (c.in-Delta.is) (ap number (decimal-digits 1 (omega arith)))

pub returns-in-LowMemory : goal.returns-in-LowMemory
returns-in-LowMemory c = rw (c.in-LowMemory.is) (ap number (decimal-digits 0 (omega arith)))
