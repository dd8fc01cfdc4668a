use Rattle.std.proofs.Common.{zero-add, refl}
use Rattle.std.specs.Prelude.{is_err}
use Rattle.otel_stream.proofs.Asked.{position_more, or_last-false}
use Rattle.otel_stream.proofs.each_reader.noted.Goals as goal

pub returns-in-Ok-clause-first : goal.returns-in-Ok-clause-first
returns-in-Ok-clause-first c = λ rs n h. rw (position_more is_err 0 rs c.args.answer.now, ← h, c.in-Ok.is, or_last-false) refl

pub returns-in-Some-clause-first : goal.returns-in-Some-clause-first
returns-in-Some-clause-first c = λ rs n h. rw (position_more is_err 0 rs c.args.answer.now, ← h, c.in-Some.is) refl

pub returns-in-None-clause-first : goal.returns-in-None-clause-first
returns-in-None-clause-first c = λ rs n h. rw (position_more is_err 0 rs c.args.answer.now, ← h, c.in-None.is, c.in-Err.is, zero-add, n) refl
