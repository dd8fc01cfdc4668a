use Rattle.std.proofs.Common.{◌≡◌, ◌∙◌, Bool, true, List, [], ◌∷◌, sym, subst, arith}
use Rattle.std.proofs.lemmas.Bool.{and_parts}
use Rattle.std.proofs.lemmas.List.{take_all}
use Rattle.std.specs.Bool.{beq}
use Rattle.std.specs.List.{AllByRecursion, list_all}
use Rattle.otel_data.specs.declared.numbers.NumberValue.{NumberValue}
use Rattle.otel_aggregate.specs.Any.{amount_of, is_signed_value}
use Rattle.otel_aggregate.specs.Kept.{IsWithin}
use Rattle.otel_aggregate.proofs.StepLemmas.{typed-first}
use Rattle.otel_aggregate.proofs.aggregate_stream.AggregateStream.takes_each.Goals as goal

-- each value of the type is within its range
each-within : (s : Bool) (values : List NumberValue) → list_all (λ value. beq (is_signed_value value) s) values ≡ true → AllByRecursion (λ (value : NumberValue). beq (is_signed_value value) s ≡ true → IsWithin s (amount_of value).wide) values
    → AllByRecursion (λ (value : NumberValue). IsWithin s (amount_of value).wide) values
each-within s [] typed within = tt
each-within s (v ∷ vs) typed within = let parts = and_parts (beq (is_signed_value v) s) (list_all (λ value. beq (is_signed_value value) s) vs) typed in (within.0 parts.0, each-within s vs parts.1 within.1)

pub returns-in-Some-clause-told : goal.returns-in-Some-clause-told
returns-in-Some-clause-told c = c.takes-in-Some.ensures.told ∙ typed-first c.args.self.now.is_signed c.args.values.now c.in-Some.first.now c.requires c.in-Some.ensures.value

pub returns-in-Some-clause-within : goal.returns-in-Some-clause-within
returns-in-Some-clause-within c = λ told.
    each-within c.args.self.now.is_signed c.args.values.now (sym (c.takes-in-Some.ensures.told ∙ typed-first c.args.self.now.is_signed c.args.values.now c.in-Some.first.now c.requires c.in-Some.ensures.value) ∙ told)
    (subst (AllByRecursion (λ (value : NumberValue). beq (is_signed_value value) c.args.self.now.is_signed ≡ true → IsWithin c.args.self.now.is_signed (amount_of value).wide)) (take_all c.loop-value.value-index c.args.values.now (omega arith)) c.loop-value.invariant)
