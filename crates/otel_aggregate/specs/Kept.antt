-- What is kept of a set's records, whatever the aggregate.
use Rattle.std.specs.Prelude.{ℕ, ℤ, pos, negsuc, ◌<◌, ◌≤ℤ◌, ◌≡◌, IsTrue, Bool, true, false, cond, List, [], Option, None, Some, Box}
use Rattle.std.specs.List.{AllByRecursion}
use Rattle.std.specs.declared.alloc.Global.{Global}
use Rattle.otel_data.specs.declared.aggregated.MetricData.{MetricData}
use Rattle.otel_data.specs.declared.aggregated.MetricData.TheVariants as metric
use Rattle.otel_model_stream.specs.Folds.{Fold, Total, Last, Spreads}
use Rattle.otel_model_stream.specs.Entries.{Table, Point}
use Rattle.otel_model_stream.specs.Maps.{MapState, draining_points, drained_map}
use Rattle.otel_model_stream.specs.Data.{spread_of}
use Rattle.otel_aggregate.specs.value_map.Contents.{MapContents}
use Rattle.otel_aggregate.specs.Streams.{AggregateContents}
use Rattle.otel_aggregate.specs.Links.{AreHeld, IsLinked, Link, Linked, handles_of, spare}
use Rattle.otel_aggregate.specs.Any.{Form, Sums, LastValues, Spreads as SpreadForm, observed_in, data_of}
use Rattle.otel_aggregate.specs.Observed.{observed_data}

-- ======== by form and number type ========
-- the form of what is kept
abbrev pub form_of_fold : Fold → Form
form_of_fold (Total n) = Sums
form_of_fold (Last n) = LastValues
form_of_fold (Spreads s) = SpreadForm

-- the number type, `i64` or `u64`, has this value
abbrev pub IsWithin : Bool → ℤ → Type 0
IsWithin false z = (pos 0 ≤ℤ z) × (z ≤ℤ pos 18446744073709551615)
IsWithin true z = (negsuc 9223372036854775807 ≤ℤ z) × (z ≤ℤ pos 9223372036854775807)

-- it has the value, if there is one
abbrev pub IsWithinIfSome : Bool → Option ℤ → Type 0
IsWithinIfSome is_signed None = Unit
IsWithinIfSome is_signed (Some z) = IsWithin is_signed z

-- the number type has the least and the greatest value of a histogram
abbrev pub IsShowable : Bool → Fold → Type 0
IsShowable is_signed f = IsWithinIfSome is_signed (spread_of f).least × IsWithinIfSome is_signed (spread_of f).greatest

-- what is kept is of this form, and can be shown in this number type
abbrev pub IsKept : Bool → Form → Fold → Type 0
IsKept is_signed form f = (form_of_fold f ≡ form) × IsShowable is_signed f

-- so is what each entry keeps
abbrev pub AreKept : Bool → Form → Table → Type 0
AreKept is_signed form t = IsKept is_signed form t.none.fold × AllByRecursion (λ e. IsKept is_signed form e.fold) t.entries

-- so is all that a map keeps, and would keep of no records
abbrev pub IsKeptMap : Bool → Form → MapState → Type 0
IsKeptMap is_signed form m = IsKept is_signed form m.empty × AreKept is_signed form m.table

-- so is what each set's point shows
abbrev pub AreShowable : Bool → Form → List Point → Type 0
AreShowable is_signed form ps = AllByRecursion (λ (p : Point). IsKept is_signed form p.1) ps

-- ======== a stream's parts ========
-- the state of a map of what was reported, if there is one
abbrev pub state_of : Option (Box MapContents Global) → Option MapState
state_of None = None
state_of (Some m) = Some m.value.state

-- the values in it
abbrev pub reported_in : Option MapState → List Point
reported_in None = []
reported_in (Some m) = draining_points m

-- a stream with this map that has a map of what was reported keeps last values, and has no handles and no room for one;
-- drained the maps are the same
abbrev pub IsReportedOf : Form → MapState → List Link → Bool → Option MapState → Type 0
IsReportedOf form m links room None = Unit
IsReportedOf form m links room (Some r) = (drained_map r ≡ drained_map m) × (links ≡ []) × (room ≡ false) × (form ≡ LastValues)

-- a stream has these parts: handles lead to entries, which count them; there is room for one more if it is made; the
-- map keeps what is of the form and the number type; and what was reported goes with the map
abbrev pub IsKeptStream : Bool → Form → MapContents → Linked → Bool → Option MapState → Type 0
IsKeptStream is_signed form map live room reported =
    AllByRecursion (IsLinked map.numbers) live.entries
    × AreHeld map.state.table (handles_of map.numbers live.entries)
    × (IsTrue room → 0 < spare live)
    × IsKeptMap is_signed form map.state
    × IsReportedOf form map.state live.entries room reported

-- ======== collections ========
-- what a collection at a moment gives of a stream, in a number type
module _ {T : Type 0} (of_bits : ℕ → T) (of_whole : ℤ → T) where
  abbrev pub any_data : ℕ → AggregateContents → MetricData T
  any_data now a = cond a.drains (metric.Sum (observed_data of_bits of_whole now (observed_in a))) (data_of of_bits of_whole a.state.aggregate now a.state)
