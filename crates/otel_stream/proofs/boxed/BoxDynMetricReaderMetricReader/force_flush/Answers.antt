use Rattle.otel_stream.proofs.Boxes.{becomes_at, kept_at}
use Rattle.otel_stream.proofs.boxed.BoxDynMetricReaderMetricReader.force_flush.Goals as goal

pub returns-clause-flushed : goal.returns-clause-flushed
returns-clause-flushed g c = becomes_at (λ v a b r. (goal.MetricReader-dyn g (v, a)).flushes a b r) _ _ _ _ c.as_mut.ensures.value.1 c.force_flush.ensures.0

pub returns-clause-temporality : goal.returns-clause-temporality
returns-clause-temporality g c = kept_at (λ v a. (goal.MetricReader-dyn g (v, a)).preference a) _ _ _ c.as_mut.ensures.value.1 c.force_flush.ensures.1.0

pub returns-clause-limit : goal.returns-clause-limit
returns-clause-limit g c = kept_at (λ v a. (goal.MetricReader-dyn g (v, a)).limit a) _ _ _ c.as_mut.ensures.value.1 c.force_flush.ensures.1.1.0

pub returns-clause-aggregation : goal.returns-clause-aggregation
returns-clause-aggregation g c = kept_at (λ v a. (goal.MetricReader-dyn g (v, a)).aggregation a) _ _ _ c.as_mut.ensures.value.1 c.force_flush.ensures.1.1.1
