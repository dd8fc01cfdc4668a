-- What a reader answers for each kind of instrument (Metrics SDK, "MetricReader").
use Rattle.std.specs.Prelude.{ℕ, nat_eq, Bool, List, [], ◌∷◌, map, Option, Some, None, slice_get}
use Rattle.otel_common.specs.declared.metrics.Aggregation.{Aggregation}
use Rattle.otel_common.specs.declared.metrics.Temporality.{Temporality}
use Rattle.otel_common.specs.declared.metrics.Temporality.TheVariants.{Cumulative}
use Rattle.otel_stream.specs.Preferences.{temporality_preference}
use Rattle.otel_stream.specs.declared.answers.Answer.{Answer}
use Rattle.otel_stream.specs.declared.instrument.InstrumentKind.{InstrumentKind}
use Rattle.otel_stream.specs.declared.instrument.InstrumentKind.TheVariants.{Counter, UpDownCounter, Histogram, ObservableCounter, ObservableUpDownCounter, Gauge, ObservableGauge}

-- the position of a kind in `kinds`
abbrev pub kind_number : InstrumentKind → ℕ
kind_number Counter = 0
kind_number UpDownCounter = 1
kind_number Histogram = 2
kind_number ObservableCounter = 3
kind_number ObservableUpDownCounter = 4
kind_number Gauge = 5
kind_number ObservableGauge = 6

-- whether two kinds are the same
abbrev pub kind_eq : InstrumentKind → InstrumentKind → Bool
kind_eq a b = nat_eq (kind_number a) (kind_number b)

-- all kinds, in the order of their numbers
abbrev pub kinds : List InstrumentKind
kinds = Counter ∷ UpDownCounter ∷ Histogram ∷ ObservableCounter ∷ ObservableUpDownCounter ∷ Gauge ∷ ObservableGauge ∷ []

-- a reader's answers for the seven kinds, in the order of `kinds`
abbrev pub ReaderAnswers : Type 0
ReaderAnswers = List Answer

-- the answer, for a kind, of a reader that wants these for each kind
abbrev pub answer_wanting : (InstrumentKind → Temporality) → (InstrumentKind → Option ℕ) → (InstrumentKind → Option Aggregation) → InstrumentKind → Answer
answer_wanting temporality limit aggregation kind = record {
  temporality = temporality kind;
  limit = limit kind;
  aggregation = aggregation kind;
}

-- the answers of a reader that wants these
abbrev pub answers_wanting : (InstrumentKind → Temporality) → (InstrumentKind → Option ℕ) → (InstrumentKind → Option Aggregation) → ReaderAnswers
answers_wanting temporality limit aggregation = map (answer_wanting temporality limit aggregation) kinds

-- the answers of a reader that wants this temporality for each kind, and never a limit or an aggregation
abbrev pub answers_by : (InstrumentKind → Temporality) → ReaderAnswers
answers_by temporality = answers_wanting temporality (λ _. None) (λ _. None)

-- the same for a reader with one temporality preference
abbrev pub answers_preferring : Temporality → ReaderAnswers
answers_preferring temporality = answers_by (λ kind. temporality_preference kind temporality)

-- the answer for a kind that has none
abbrev pub no_answer : Answer
no_answer = record { temporality = Cumulative; limit = None; aggregation = None }

-- the answer for a kind
abbrev pub answer_for : ReaderAnswers → InstrumentKind → Answer
answer_for answers kind = by (slice_get answers (kind_number kind))
  where
    by : Option Answer → Answer
    by None = no_answer
    by (Some answer) = answer
