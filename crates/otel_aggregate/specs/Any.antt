-- A stream with any aggregate and either number type.
use Rattle.std.specs.Prelude.{ℕ, ℤ, pos, ◌≡◌, Bool, true, false, not, cond, ◌&&◌, ◌||◌, is_some, List, [], drop, map, fold}
use Rattle.std.specs.Bool.{beq}
use Rattle.std.specs.List.{AllByRecursion}
use Rattle.std.specs.Int.{cast_unsigned, w64}
use Rattle.otel_common.specs.declared.attributes.KeyValue.{KeyValue}
use Rattle.otel_data.specs.declared.aggregated.AggregatedMetrics.{AggregatedMetrics}
use Rattle.otel_data.specs.declared.aggregated.AggregatedMetrics.TheVariants as metrics
use Rattle.otel_data.specs.declared.aggregated.MetricData.{MetricData}
use Rattle.otel_data.specs.declared.aggregated.MetricData.TheVariants as metric
use Rattle.otel_data.specs.declared.numbers.NumberValue.{NumberValue}
use Rattle.otel_data.specs.declared.numbers.NumberValue.TheVariants as number
use Rattle.otel_model_stream.specs.Sets.{none_set}
use Rattle.otel_model_stream.specs.Folds.{Aggregate, Sum, LastValue, Histogram, Amount, Sample, sample_of}
use Rattle.otel_model_stream.specs.Entries.{Table}
use Rattle.otel_model_stream.specs.Events.{held_by}
use Rattle.otel_model_stream.specs.Data.{natural_of, signed_of}
use Rattle.otel_aggregate.specs.declared.settings.AnySettings.{AnySettings}
use Rattle.otel_aggregate.specs.declared.settings.AnySettings.TheVariants as settings
use Rattle.otel_aggregate.specs.Data.{sum_data, gauge_data, histogram_data}
use Rattle.otel_aggregate.specs.Streams.{AggregateState, AggregateContents, recorded_set, recorded_attributes, stream_after_collection, stream_after_commit, stream_after_bind, stream_after_update, stream_after_unbind}
use Rattle.otel_aggregate.specs.Observed.{ObservedState, drained_at, observed_data}

-- the aggregate of these settings
abbrev pub aggregate_of : AnySettings → Aggregate
aggregate_of (settings.Sum is_monotonic) = Sum
aggregate_of (settings.PrecomputedSum is_monotonic) = LastValue
aggregate_of settings.LastValue = LastValue
aggregate_of (settings.Histogram s) = Histogram s.bounds s.has_min_max s.has_sum

-- whether it is a sum to which only values of at least 0 are added
abbrev pub is_monotonic_of : AnySettings → Bool
is_monotonic_of (settings.Sum is_monotonic) = is_monotonic
is_monotonic_of (settings.PrecomputedSum is_monotonic) = is_monotonic
is_monotonic_of settings.LastValue = false
is_monotonic_of (settings.Histogram s) = false

-- whether each collection empties the stream
abbrev pub drains_of : AnySettings → Bool
drains_of (settings.Sum is_monotonic) = false
drains_of (settings.PrecomputedSum is_monotonic) = true
drains_of settings.LastValue = false
drains_of (settings.Histogram s) = false

-- whether a value is of the signed number type, `i64`
abbrev pub is_signed_value : NumberValue → Bool
is_signed_value (number.U64 n) = false
is_signed_value (number.I64 z) = true

-- a value in the words of the model
abbrev pub amount_of : NumberValue → Amount
amount_of (number.U64 n) = record { bits = n; wide = pos n }
amount_of (number.I64 z) = record { bits = cast_unsigned w64 z; wide = z }

-- all values are of one number type
abbrev pub HaveOneType : List NumberValue → Type 0
HaveOneType values = (is_signed : Bool) × AllByRecursion (λ (value : NumberValue). is_signed_value value ≡ is_signed) values

-- the records that values make in this aggregate
abbrev pub samples_of : Aggregate → List NumberValue → List Sample
samples_of σ values = map (λ (value : NumberValue). sample_of σ (amount_of value)) values

-- ======== records ========
-- after the prepared record, if there is one, of a value; a stream of the other number type doesn't change
abbrev pub any_after_commit : NumberValue → AggregateContents → AggregateContents
any_after_commit value a = cond (beq (is_signed_value value) a.is_signed) (stream_after_commit (amount_of value) a) a

-- after records of these values for the set that is prepared next, with all that is prepared
abbrev pub any_with_commits : List NumberValue → AggregateContents → AggregateContents
any_with_commits values a = fold (λ (b : AggregateContents) (value : NumberValue). record (any_after_commit value b) { pending = b.pending }) a values

-- after the same records; what is prepared after that set stays prepared
abbrev pub any_after_commits : List NumberValue → AggregateContents → AggregateContents
any_after_commits values a = record (any_with_commits values a) { pending = drop 1 a.pending }

-- after a record of a value without attributes; a stream of the other number type doesn't change
abbrev pub any_after_none : NumberValue → AggregateContents → AggregateContents
any_after_none value a = cond (beq (is_signed_value value) a.is_signed) (record a { state = recorded_set none_set (amount_of value) a.state; pending = [] }) a

-- after a record of a value with attributes; a stream of the other number type doesn't change
abbrev pub any_after_record : NumberValue → List KeyValue → AggregateContents → AggregateContents
any_after_record value l a = cond (beq (is_signed_value value) a.is_signed) (record a { state = recorded_attributes l (amount_of value) a.state; pending = [] }) a

-- ======== handles ========
-- with room made for a handle; in a stream of observed sums there is none
abbrev pub any_with_room : AggregateContents → AggregateContents
any_with_room a = record a { room = not a.drains }

-- after the prepared bind as this handle, if room is made and no such handle is live; a stream of observed sums
-- doesn't change
abbrev pub any_after_bind : ℕ → AggregateContents → AggregateContents
any_after_bind h a = cond a.drains a (stream_after_bind h a)

-- whether the stream takes values of this number type through handles; one of observed sums has none
abbrev pub takes_bound : NumberValue → AggregateContents → Bool
takes_bound value a = not a.drains && beq (is_signed_value value) a.is_signed

-- after a record of a value through this handle, if it is live; what was prepared is given up
abbrev pub any_after_update : ℕ → NumberValue → AggregateContents → AggregateContents
any_after_update h value a = cond (takes_bound value a) (stream_after_update h (amount_of value) a) a

-- whether that makes a record
abbrev pub is_updated : ℕ → NumberValue → AggregateContents → Bool
is_updated h value a = takes_bound value a && is_some (held_by h a.live)

-- after the end of this handle, if it is live; what was prepared is given up. A stream of observed sums doesn't change
abbrev pub any_after_unbind : ℕ → AggregateContents → AggregateContents
any_after_unbind h a = cond a.drains a (stream_after_unbind h a)

-- ======== collections ========
-- what a collection at a moment gives of a stream, by its aggregate
module _ {T : Type 0} (of_bits : ℕ → T) (of_whole : ℤ → T) where
  abbrev pub data_of : Aggregate → ℕ → AggregateState → MetricData T
  data_of Sum now a = metric.Sum (sum_data of_bits of_whole now a)
  data_of LastValue now a = metric.Gauge (gauge_data of_bits of_whole now a)
  data_of (Histogram bounds has_min_max has_sum) now a = metric.Histogram (histogram_data of_bits of_whole now a)

-- the same, by its number type
abbrev pub metrics_of : Bool → ℕ → AggregateState → AggregatedMetrics
metrics_of false now a = metrics.U64 (data_of (λ n. n) natural_of a.aggregate now a)
metrics_of true now a = metrics.I64 (data_of signed_of (λ z. z) a.aggregate now a)

-- the stream, as one of observed sums
abbrev pub observed_in : AggregateContents → ObservedState
observed_in a = record { stream = a.state; reported = a.reported }

-- what a collection at a moment gives of observed sums, by their number type
abbrev pub observed_metrics : Bool → ℕ → ObservedState → AggregatedMetrics
observed_metrics false now a = metrics.U64 (metric.Sum (observed_data (λ n. n) natural_of now a))
observed_metrics true now a = metrics.I64 (metric.Sum (observed_data signed_of (λ z. z) now a))

-- what a collection at a moment gives of any stream
abbrev pub metrics_now : ℕ → AggregateContents → AggregatedMetrics
metrics_now now a = cond a.drains (observed_metrics a.is_signed now (observed_in a)) (metrics_of a.is_signed now a.state)

-- with this stream of observed sums in its place
abbrev pub with_observed : AggregateContents → ObservedState → AggregateContents
with_observed a s = record a { state = s.stream; reported = s.reported }

-- the stream after a collection at a moment, but for what was prepared
abbrev pub state_after_collection : ℕ → AggregateContents → AggregateContents
state_after_collection now a = cond a.drains (with_observed a (drained_at now (observed_in a))) (record a { state = stream_after_collection now a.state })

-- after a collection at a moment; if it empties or resets the stream, what was prepared is given up
abbrev pub any_after_collection : ℕ → AggregateContents → AggregateContents
any_after_collection now a = record (state_after_collection now a) { pending = cond (a.drains || a.state.resets) [] a.pending }

-- ======== drafts ========
-- what a stream keeps of a set's records: their sum, the last of them, or how they spread
pub data Form : Type 0 where
  Sums : Form
  LastValues : Form
  Spreads : Form

abbrev pub form_of : Aggregate → Form
form_of Sum = Sums
form_of LastValue = LastValues
form_of (Histogram bounds has_min_max has_sum) = Spreads

-- what a draft has: entries, their number type, the form of what they keep, and a total of records
pub record DraftContents : Type 0 where
  pub is_signed : Bool
  pub form : Form
  pub table : Table
  pub recorded : ℕ

-- a draft with what this stream has
abbrev pub draft_of : AggregateContents → DraftContents
draft_of a = record { is_signed = a.is_signed; form = form_of a.state.aggregate; table = a.state.map_state.table; recorded = a.state.recorded }

-- the draft's entries can replace those of the stream: number type and form are the same, and no handle is live
pub record IsLike (d : DraftContents) (a : AggregateContents) : Type 0 where
  pub number : d.is_signed ≡ a.is_signed
  pub form : d.form ≡ form_of a.state.aggregate
  pub unheld : a.live ≡ []

-- with what the draft has in place of its own; what was prepared is given up
abbrev pub with_draft : DraftContents → AggregateContents → AggregateContents
with_draft d a = record a { state = record a.state { map_state = record a.state.map_state { table = d.table }; recorded = d.recorded }; pending = [] }
