use Rattle.std.proofs.Common.{refl, sym}
use Rattle.otel_stream.specs.Selectors.{matches}
use Rattle.otel_stream.proofs.Following.{no_end}
use Rattle.otel_stream.proofs.patterns.is_match.Goals as goal

pub returns-in-IsShort : goal.returns-in-IsShort
returns-in-IsShort c = sym (no_end (matches c.args.pattern.now) c.args.text.now (c.in-IsShort.ensures.short refl))
