use Rattle.otel_model_rows.proofs.RowsReplies.{of_signed_wrapped}
use Rattle.otel_model_rows.proofs.providers.replies.Goals as goal

pub returns : goal.returns
returns c = record { of_signed_wrapped = of_signed_wrapped }
