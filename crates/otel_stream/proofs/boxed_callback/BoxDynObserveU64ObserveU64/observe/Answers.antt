use Rattle.otel_stream.proofs.Boxes.{becomes_at}
use Rattle.otel_stream.proofs.boxed_callback.BoxDynObserveU64ObserveU64.observe.Goals as goal

pub returns : goal.returns
returns g c = becomes_at (λ v a b r. (goal.ObserveU64-dyn g (v, a)).observes a b c.observe.new.out.items r) _ _ _ _ c.as_mut.ensures.value.1 c.observe.ensures
