use Rattle.opentelemetry_sdk.proofs.metrics.shared.locked.Locked.record.Goals as goal

-- what the book made
pub returns-clause-done : goal.returns-clause-done
returns-clause-done g c = rw c.new.ensures at (rw c.into_value.ensures at (rw c.number.ensures at c.record-recorded.ensures.done))
