-- The order of attributes, which changes nothing; and what a delta stream of observed sums shows.
use Rattle.std.specs.Prelude.{◌≡◌, ℕ, ◌+◌, true, List, ◌∷◌, ◌++◌, Some, slice_get}
use Rattle.std.specs.List.Sorted.{IsPermutation}
use Rattle.otel_common.specs.Canonical.{HasDistinctKeys}
use Rattle.otel_common.specs.declared.attributes.KeyValue.{KeyValue}
use Rattle.otel_model_stream.specs.Sets.{AttributeSet}
use Rattle.otel_model_stream.specs.Folds.{LastValue, wrap, fold_of}
use Rattle.otel_model_stream.specs.Events.{Event, Point}
use Rattle.otel_model_stream.specs.Windows.{records_of, values_of}
use Rattle.otel_model.specs.Calls.{Number, Observed, Call, Record, Bind, Collect, Reply}
use Rattle.otel_model.specs.Collections.{shows_differences, value_of, value_before, differences}
use Rattle.otel_model.specs.Demands.{Demand, ReaderAnswers, Views}
use Rattle.otel_model.specs.State.{State}
use Rattle.otel_model.specs.Steps.{Run}
use Rattle.otel_model.specs.History.{history, window_of, window_points, reported_of}

-- m has the attributes of l in any order, and no key occurs twice
abbrev pub IsReordered : List KeyValue → List KeyValue → Type 0
IsReordered l m = HasDistinctKeys l × IsPermutation l m

-- permuting the attributes of a measurement, whose keys are distinct, changes neither the replies nor the final state
abbrev pub RecordsInAnyOrder : Type 0
RecordsInAnyOrder = (views : Views) (old new : State) (before later : List Call) (n : ℕ) (v : Number) (l m : List KeyValue) (replies : List Reply) → IsReordered l m
    → Run views old (before ++ Record n v l ∷ later) replies new → Run views old (before ++ Record n v m ∷ later) replies new

-- nor does permuting those of a bind
abbrev pub BindsInAnyOrder : Type 0
BindsInAnyOrder = (views : Views) (old new : State) (before later : List Call) (n : ℕ) (l m : List KeyValue) (replies : List Reply) → IsReordered l m
    → Run views old (before ++ Bind n l ∷ later) replies new → Run views old (before ++ Bind n m ∷ later) replies new

-- nor does permuting those of an observation
abbrev pub ObservationsInAnyOrder : Type 0
ObservationsInAnyOrder = (views : Views) (old new : State) (before later : List Call) (r now : ℕ) (os ps : List Observed) (o : Observed) (m : List KeyValue) (replies : List Reply) → IsReordered o.attributes m
    → Run views old (before ++ Collect r now (os ++ o ∷ ps) ∷ later) replies new
    → Run views old (before ++ Collect r now (os ++ record o { attributes = m } ∷ ps) ∷ later) replies new

-- the last value of the measurements in the window of a history whose goal is the set; 0 if there is none
abbrev pub last_observed : ReaderAnswers → Demand → List Event → AttributeSet → ℕ
last_observed answers d events set = value_of (fold_of LastValue (values_of (records_of d.limit (window_of answers d events)) set))

-- in a delta stream of observed sums a point's value plus its set's value in the previous collection is the last value
-- observed for the set, modulo 2^64
abbrev pub AreDifferences : Type 0
AreDifferences = (views : Views) (answers : ReaderAnswers) (r : ℕ) (d : Demand) (calls : List Call) (events : List Event) → shows_differences answers d ≡ true
    → (k : ℕ) (p : Point) → slice_get (differences answers d (reported_of views answers r d calls) (window_points answers d (history views answers r d calls ++ events))) k ≡ Some p
    → wrap (value_of p.1 + value_before (reported_of views answers r d calls) p.0) ≡ wrap (last_observed answers d (history views answers r d calls ++ events) p.0)
