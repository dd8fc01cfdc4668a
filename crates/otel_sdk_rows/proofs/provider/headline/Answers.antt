use Rattle.otel_sdk_rows.proofs.RowsHeadline.{law_of_no_readers}
use Rattle.otel_sdk_rows.proofs.provider.headline.Goals as goal

pub returns : goal.returns
returns c = record { law_of_no_readers = law_of_no_readers }
