use Rattle.std.proofs.Common.{◌≡◌, ◌≢◌, ℕ, ℤ, Bool, List, codes, Ok, Err, Result, IfErr}
use Rattle.otel_common.specs.declared.metrics.Aggregation.TheVariants.{Drop, Default, Sum, LastValue, ExplicitBucketHistogram}
use Rattle.metrics_script.specs.Aggregations.{IsAggregationWord}
use Rattle.metrics_script.specs.Refusals.{StandsForNothing}
use Rattle.metrics_script.specs.declared.refusals.Refusal.{Refusal}
use Rattle.metrics_script.specs.declared.refusals.Refusal.TheVariants.{OutOfMemory}
use Rattle.metrics_script.proofs.aggregations.aggregation_of.Goals as goal

-- a word that is no name and no histogram is nothing
nothing_else : (word : List ℕ) → (word ≡ codes "drop" → ⊥) → (word ≡ codes "default" → ⊥) → (word ≡ codes "sum" → ⊥) → (word ≡ codes "lastvalue" → ⊥) → ((bounds : List ℤ) (record_min_max : Bool) → ¬ IsAggregationWord word (ExplicitBucketHistogram bounds record_min_max)) → StandsForNothing IsAggregationWord word
nothing_else word no_drop no_default no_sum no_last none Drop is = no_drop is
nothing_else word no_drop no_default no_sum no_last none Default is = no_default is
nothing_else word no_drop no_default no_sum no_last none Sum is = no_sum is
nothing_else word no_drop no_default no_sum no_last none LastValue is = no_last is
nothing_else word no_drop no_default no_sum no_last none (ExplicitBucketHistogram bounds record_min_max) is = none bounds record_min_max is

refused_as : {A P Q : Type 0} (result : Result A Refusal) → (P → Q) → IfErr result (λ refusal. refusal ≢ OutOfMemory → P) → IfErr result (λ refusal. refusal ≢ OutOfMemory → Q)
refused_as (Ok x) f given = given
refused_as (Err refusal) f given = λ bad. f (given bad)

pub returns-in_default-clause-meaningless : goal.returns-in_default-clause-meaningless
returns-in_default-clause-meaningless c =
    let not = c.in_default in
    refused_as c.histogram_of.result (nothing_else _ not.not-drop not.not-text not.not-sum not.not-lastvalue) c.histogram_of.ensures.meaningless
