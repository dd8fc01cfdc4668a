-- What holds of the demands of an instrument.
use Rattle.std.proofs.Common.{◌≡◌, ℕ, ℤ, true, ◌&&◌, List, Option, Some, None, refl, IfSome}
use Rattle.std.specs.Option.{option_or, unwrap_or}
use Rattle.std.proofs.lemmas.Bool.{and_parts, cond_both}
use Rattle.otel_common.specs.declared.metrics.Aggregation.{Aggregation}
use Rattle.otel_common.specs.declared.metrics.Aggregation.TheVariants.{Default, ExplicitBucketHistogram}
use Rattle.otel_common.specs.declared.scopes.InstrumentationScope.{InstrumentationScope}
use Rattle.otel_model.specs.Calls.{About, InstrumentKind, Counter, Histogram, or_else}
use Rattle.otel_model.specs.Demands.{Demand, ReaderAnswers, StreamSpec, answer_for, default_limit, demand_of, are_good_bounds, is_valid, fits, kind_default, default_from, reader_default, with_own, resolved_aggregation}

-- a demand of these five parts
pub demand_made : (answers : ReaderAnswers) (scope : InstrumentationScope) (about : About) (s : StreamSpec) (d : Demand) → d.identity ≡ (demand_of answers scope about s).identity → d.spelling ≡ or_else s.name about.name → d.aggregation ≡ resolved_aggregation answers about s.aggregation → d.allow ≡ s.allow
    → d.limit ≡ or_else s.limit (or_else (answer_for answers about.kind).limit default_limit) → d ≡ demand_of answers scope about s
demand_made answers scope about s d identity spelling aggregation allow limit = λ i. record {
  identity = identity i;
  spelling = spelling i;
  aggregation = aggregation i;
  allow = allow i;
  limit = limit i;
}

-- the first limit that is given
pub limit-or : (set wanted : Option ℕ) (n : ℕ) → unwrap_or (option_or set wanted) n ≡ or_else set (or_else wanted n)
limit-or (Some k) wanted n = refl
limit-or None (Some k) n = refl
limit-or None None n = refl

-- ======== its aggregation is valid and fits ========
kind_default-good : (kind : InstrumentKind) → (is_valid (kind_default kind) && fits kind (kind_default kind)) ≡ true
kind_default-good Counter = refl
kind_default-good kind = refl

-- what can be used is good, and so is what stands in for it
default_from-good : (kind : InstrumentKind) (wanted : Option Aggregation) → (is_valid (default_from kind wanted) && fits kind (default_from kind wanted)) ≡ true
default_from-good kind None = kind_default-good kind
default_from-good kind (Some Default) = kind_default-good kind
default_from-good kind (Some a) = cond_both (is_valid a && fits kind a) a (kind_default kind) (λ (x : Aggregation). (is_valid x && fits kind x) ≡ true) (λ t. t) (λ _. kind_default-good kind)

pub default_from-parts : (kind : InstrumentKind) (wanted : Option Aggregation) → (is_valid (default_from kind wanted) ≡ true) × (fits kind (default_from kind wanted) ≡ true)
default_from-parts kind wanted = and_parts (is_valid (default_from kind wanted)) (fits kind (default_from kind wanted)) (default_from-good kind wanted)

with_own-valid : (kind : InstrumentKind) (own : Option (List ℤ)) (a : Aggregation) → are_good_bounds kind own ≡ true → is_valid a ≡ true → is_valid (with_own kind own a) ≡ true
with_own-valid Histogram (Some own) (ExplicitBucketHistogram bounds m) good held = good
with_own-valid kind own a good held = held

-- good bounds of the instrument and of the settings make no invalid demand
pub resolved_valid : (answers : ReaderAnswers) (about : About) (set : Option Aggregation) → IfSome set (λ a. is_valid a ≡ true) → are_good_bounds about.kind about.bounds ≡ true → is_valid (resolved_aggregation answers about set) ≡ true
resolved_valid answers about None held good = with_own-valid about.kind about.bounds (reader_default answers about.kind) good (default_from-parts about.kind (answer_for answers about.kind).aggregation).0
resolved_valid answers about (Some Default) held good = (default_from-parts about.kind (answer_for answers about.kind).aggregation).0
resolved_valid answers about (Some a) held good = held
