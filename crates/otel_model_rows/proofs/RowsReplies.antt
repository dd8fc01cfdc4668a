-- Worked rows on what a reader was given in its replies: what was recorded under a heading, what was given under it, and
-- what is pending.
use Rattle.std.specs.Prelude.{◌≡◌, ℕ, ◌+◌, pos, negsuc, false, true, List, [], ◌∷◌, ◌++◌, length, map, Some, codes}
use Rattle.std.proofs.Common.{refl}
use Rattle.otel_common.specs.Canonical.{canon}
use Rattle.otel_data.specs.declared.aggregated.AggregatedMetrics.TheVariants.{U64}
use Rattle.otel_data.specs.declared.aggregated.MetricData.{MetricData}
use Rattle.otel_data.specs.declared.collections.ScopeMetrics.{ScopeMetrics}
use Rattle.otel_data.specs.declared.points.SumDataPoint.{SumDataPoint}
use Rattle.otel_model_stream.specs.Folds.{wrap}
use Rattle.otel_model.specs.Calls as calls
use Rattle.otel_model.specs.Calls.{Text, About, Call, Build, Record, Collect, OutOfMemory, Reply}
use Rattle.otel_model.specs.Demands.{Sum, Views, ReaderAnswers, Temporality, Cumulative, Delta, answers_by}
use Rattle.otel_model.specs.History.{made_calls}
use Rattle.otel_model.specs.Machine.{new_part, new_state}
use Rattle.otel_model.specs.Resources.{empty_resource}
use Rattle.otel_model.specs.State.{ReaderPart}
use Rattle.otel_model.specs.Steps.{state_of}
use Rattle.otel_model.specs.Given.{Heading, total_given, total_recorded, streams_under, total_pending}
use Rattle.otel_model_rows.specs.Rows.{a, b, m, scope_named, about, with_own_bounds, u64, i64, x1, y1, if_named, limited, aggregating, cumulative, delta, replies, on, add, observe}

abbrev heading : Text → Heading
heading name = record { scope = m; name = name; description = []; unit = []; signed = false }

-- the first reader
abbrev first_part : List ReaderPart → ReaderPart
first_part [] = new_part []
first_part (p ∷ ps) = p

abbrev part_after : Views → ReaderAnswers → List Call → ReaderPart
part_after views answers calls = first_part (state_of views (new_state empty_resource 0 (answers ∷ [])) calls).readers

-- what was recorded, given and is pending under a heading, of the only reader with these replies
abbrev accounts_by : Views → ReaderAnswers → Heading → List Call → List Reply → ℕ × ℕ × ℕ
accounts_by views answers h calls given = (total_recorded views answers 0 (made_calls calls given) h, total_given 0 calls given h, total_pending (part_after views answers calls) h)

abbrev accounts : Views → ReaderAnswers → Heading → List Call → ℕ × ℕ × ℕ
accounts views answers h calls = accounts_by views answers h calls (replies views (answers ∷ []) calls)

-- ======== one stream ========
abbrev counted : List Call
counted = on (about calls.Counter a) (add 3 x1 ∷ add 4 y1 ∷ Collect 0 200 [] ∷ add 5 x1 ∷ [])

-- a delta stream gives its points for good
pub of_deltas : accounts [] delta (heading a) counted ≡ (12, 7, 5)
unfolding canon
of_deltas = refl

-- the points of a cumulative stream come again
pub of_cumulative : accounts [] cumulative (heading a) (counted ++ Collect 0 300 [] ∷ []) ≡ (12, 0, 12)
unfolding canon
of_cumulative = refl

-- under no other heading
pub of_another_name : accounts [] delta (heading b) counted ≡ (0, 0, 0)
unfolding canon
of_another_name = refl

pub of_another_scope : accounts [] delta (record (heading a) { scope = scope_named b }) counted ≡ (0, 0, 0)
unfolding canon
of_another_scope = refl

pub of_another_description : accounts [] delta (record (heading a) { description = b }) counted ≡ (0, 0, 0)
unfolding canon
of_another_description = refl

pub of_another_unit : accounts [] delta (record (heading a) { unit = b }) counted ≡ (0, 0, 0)
unfolding canon
of_another_unit = refl

pub of_another_type : accounts [] delta (record (heading a) { signed = true }) counted ≡ (0, 0, 0)
unfolding canon
of_another_type = refl

-- the name as it was first spelled
pub as_spelled : accounts [] delta (heading (codes "Foo")) (on (about calls.Counter (codes "Foo")) (Build (Some 0) (about calls.Counter (codes "foo")) 100 ∷ add 3 x1 ∷ Record 1 (u64 4) x1 ∷ Collect 0 200 [] ∷ [])) ≡ (7, 7, 0)
unfolding canon
as_spelled = refl

-- over the limit, and in a collection that was refused
pub past_limit : accounts (if_named a (limited 1) ∷ []) delta (heading a) (on (about calls.Counter a) (add 3 x1 ∷ add 4 y1 ∷ Collect 0 200 (observe 0 1 x1 ∷ []) ∷ Collect 0 300 [] ∷ add 5 y1 ∷ [])) ≡ (12, 7, 5)
unfolding canon
past_limit = refl

-- a histogram counts its measurements
pub of_counts : accounts [] delta (heading a) (on (with_own_bounds (pos 10 ∷ []) (about calls.Histogram a)) (add 3 x1 ∷ add 40 x1 ∷ add 7 y1 ∷ Collect 0 200 [] ∷ add 9 [] ∷ [])) ≡ (4, 3, 1)
unfolding canon
of_counts = refl

-- a last value counts nothing
pub of_last_values : accounts [] delta (heading a) (on (about calls.Gauge a) (add 3 x1 ∷ Collect 0 200 [] ∷ add 9 x1 ∷ [])) ≡ (0, 0, 0)
unfolding canon
of_last_values = refl

-- of signed values the bits are added up
abbrev less_1 : Call
less_1 = Record 0 (i64 18446744073709551615 (negsuc 0)) x1

-- a reader that wants all streams to be reset
abbrev resetting : ReaderAnswers
resetting = answers_by (λ kind. Delta)

pub of_signed : accounts [] resetting (record (heading a) { signed = true }) (on (record (about calls.UpDownCounter a) { signed = true }) (less_1 ∷ less_1 ∷ Collect 0 200 [] ∷ less_1 ∷ []))
    ≡ (55340232221128654845, 18446744073709551614, 18446744073709551615)
unfolding canon
of_signed = refl

pub of_signed_wrapped : wrap 55340232221128654845 ≡ wrap (18446744073709551614 + 18446744073709551615)
of_signed_wrapped = refl

-- ======== two readers ========
abbrev shared : List Call
shared = on (about calls.Counter a) (add 3 x1 ∷ Collect 0 200 [] ∷ add 4 x1 ∷ Collect 1 300 [] ∷ [])

abbrev given_to : ℕ → ℕ
given_to r = total_given r shared (replies [] (delta ∷ delta ∷ []) shared) (heading a)

pub of_first_reader : given_to 0 ≡ 3
unfolding canon
of_first_reader = refl

pub of_second_reader : given_to 1 ≡ 7
unfolding canon
of_second_reader = refl

-- ======== two streams under one heading ========
abbrev twice : List Call
twice = on (about calls.Counter a) (Build (Some 0) (about calls.Histogram a) 100 ∷ add 3 x1 ∷ Record 1 (u64 4) x1 ∷ Collect 0 200 [] ∷ add 5 x1 ∷ [])

pub two_streams : length (streams_under (heading a) (part_after (if_named a (aggregating Sum) ∷ []) delta twice)) ≡ 2
two_streams = refl

pub of_two : accounts (if_named a (aggregating Sum) ∷ []) delta (heading a) twice ≡ (12, 7, 5)
unfolding canon
of_two = refl

-- ======== wrong replies ========
-- the calls `counted` with another collection: the state, in which 5 are pending, is right
abbrev with_collection : List ScopeMetrics → ℕ × ℕ × ℕ
with_collection scopes = accounts_by [] delta (heading a) counted
    (Reply.Meter (Some 0) ∷ Reply.Instrument 0 ∷ Reply.Done ∷ Reply.Done ∷ Reply.Collected (record { resource = empty_resource; scope_metrics = scopes }) ∷ Reply.Done ∷ [])

abbrev showing : Text → Temporality → List ℕ → List ScopeMetrics
showing name temporality values = record {
  scope = m;
  metrics = record {
    name = name;
    description = [];
    unit = [];
    content = U64 (MetricData.Sum (record {
      data_points = map (λ n. let p : SumDataPoint ℕ = record { attributes = x1; exemplars = []; value = n } in p) values;
      start_time = 100;
      time = 200;
      temporality = temporality;
      is_monotonic = true;
    }));
  } ∷ [];
} ∷ []

-- the law holds with these points
pub right_points : with_collection (showing a Delta (3 ∷ 4 ∷ [])) ≡ (12, 7, 5)
unfolding canon
right_points = refl

-- but not with an empty collection, a missing point, an invented one, another name, or if the points are cumulative
pub empty_collection : with_collection [] ≡ (12, 0, 5)
unfolding canon
empty_collection = refl

pub missing_point : with_collection (showing a Delta (3 ∷ [])) ≡ (12, 3, 5)
unfolding canon
missing_point = refl

pub invented_point : with_collection (showing a Delta (3 ∷ 4 ∷ 1 ∷ [])) ≡ (12, 8, 5)
unfolding canon
invented_point = refl

pub misnamed : with_collection (showing b Delta (3 ∷ 4 ∷ [])) ≡ (12, 0, 5)
unfolding canon
misnamed = refl

pub not_given : with_collection (showing a Cumulative (3 ∷ 4 ∷ [])) ≡ (12, 0, 5)
unfolding canon
not_given = refl

-- nor if what is answered as refused is recorded all the same
pub refused_record : accounts_by [] delta (heading a) counted (Reply.Meter (Some 0) ∷ Reply.Instrument 0 ∷ Reply.Refused OutOfMemory ∷ Reply.Done ∷ Reply.Collected (record { resource = empty_resource; scope_metrics = showing a Delta (3 ∷ 4 ∷ []) }) ∷ Reply.Done ∷ [])
    ≡ (9, 7, 5)
unfolding canon
refused_record = refl
