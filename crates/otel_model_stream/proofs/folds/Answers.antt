use Rattle.otel_model_stream.proofs.folds.Goals as goal
use Rattle.otel_model_stream.proofs.FoldLaws.{fold_is, folded-push}
use Rattle.otel_model_stream.proofs.Buckets.{buckets_are}

pub returns-clause-list : goal.returns-clause-list
returns-clause-list c = fold_is

pub returns-clause-one_more : goal.returns-clause-one_more
returns-clause-one_more c = folded-push

pub returns-clause-buckets : goal.returns-clause-buckets
returns-clause-buckets c = buckets_are
