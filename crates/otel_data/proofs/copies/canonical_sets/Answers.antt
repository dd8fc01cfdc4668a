use Rattle.otel_data.proofs.CanonicalSets.{canonical_set}
use Rattle.otel_data.proofs.copies.canonical_sets.Goals as goal

pub returns : goal.returns
returns c = canonical_set
