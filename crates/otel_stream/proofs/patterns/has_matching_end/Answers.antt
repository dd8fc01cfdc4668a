use Rattle.std.proofs.Common.{refl, sym, ◌∙◌}
use Rattle.otel_stream.specs.Selectors.{matches}
use Rattle.otel_stream.proofs.Following.{whole_is_end}
use Rattle.otel_stream.proofs.patterns.has_matching_end.Goals as goal

pub returns-in-Fits : goal.returns-in-Fits
returns-in-Fits c = sym (c.loop-rest.invariant ∙ whole_is_end (matches c.loop-rest.pattern.now) c.loop-rest.text.now (c.in-Fits.ensures.fits refl))
