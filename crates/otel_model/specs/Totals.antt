-- What a stream recorded and exported, read off the calls alone.
use Rattle.std.specs.Prelude.{ℕ, cond, List, sum_by}
use Rattle.otel_model_stream.specs.Totals.{recorded_total, points_total}
use Rattle.otel_model.specs.Calls.{Call}
use Rattle.otel_model.specs.Demands.{Demand, Views, ReaderAnswers}
use Rattle.otel_model.specs.Streams.{is_delta, aggregate_of}
use Rattle.otel_model.specs.History.{history, shown_points}

-- the total of the points in all collections of a delta stream, before differences are taken; 0 for any other stream
abbrev pub exported_in : Views → ReaderAnswers → ℕ → Demand → List Call → ℕ
exported_in views answers r d calls = cond (is_delta answers d) (sum_by points_total (shown_points views answers r d calls)) 0

-- the total of the measurements in its history, whatever their goals
abbrev pub recorded_in : Views → ReaderAnswers → ℕ → Demand → List Call → ℕ
recorded_in views answers r d calls = recorded_total (aggregate_of d) (history views answers r d calls)
