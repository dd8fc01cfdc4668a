use Rattle.std.proofs.Common.{◌≡◌, cond, None, nat_eq, refl, rules}
use Rattle.std.specs.Option.{option_map}
use Rattle.std.proofs.lemmas.Bool.{cond_both}
use Rattle.otel_aggregate.specs.value_map.Slots.{forgotten}
use Rattle.otel_aggregate.proofs.value_map.RetainLemmas.{retained-look}
use Rattle.otel_aggregate.proofs.value_map.slots.clear_others.Goals as goal

pub returns : goal.returns
returns g c = record { look = retained-look g.A.Aggregator.meaning _ (λ n o. cond (nat_eq n c.args.number) (option_map forgotten o) None) (λ n. cond_both (nat_eq n c.args.number) None None (λ o. o ≡ None) (λ q. refl) (λ q. refl)) _ (λ n shown keep left next call. search rules) c.args.slots.now c.retain.new.self c.retain.ensures.retained }
