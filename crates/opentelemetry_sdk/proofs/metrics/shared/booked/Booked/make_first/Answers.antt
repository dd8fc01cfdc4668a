use Rattle.std.proofs.Common.{◌∙◌, [], ◌∷◌, inr}
use Rattle.opentelemetry_sdk.specs.Waiting.{lent_record}
use Rattle.opentelemetry_sdk.proofs.Full.{full-only}
use Rattle.opentelemetry_sdk.proofs.metrics.shared.booked.Booked.make_first.Goals as goal

-- not because the book is full
pub returns-in-Err-clause-full : goal.returns-in-Err-clause-full
returns-in-Err-clause-full g c = λ is. c.args.self.now.counted ∙ full-only c.args.self.now.core.state (lent_record c.in-Some.first ∷ []) c.args.self.now.accepted c.in-Err.fault (inr (c.in_ok-check_book.ensures.room, c.in-Err.ensures.refused.0)) is
