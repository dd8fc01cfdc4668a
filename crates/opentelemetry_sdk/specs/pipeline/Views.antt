-- What views answered for an instrument (Metrics SDK, "View").
use Rattle.std.specs.Prelude.{Bool, true, false, not, ◌&&◌, ◌||◌, ℕ, List, [], ◌∷◌, map, filter, is_some, Option, None, Some}
use Rattle.std.specs.List.{list_any}
use Rattle.otel_common.specs.declared.metrics.Aggregation.{Aggregation}
use Rattle.otel_common.specs.declared.scopes.InstrumentationScope.{InstrumentationScope}
use Rattle.otel_model.specs.Calls.{About, InstrumentKind}
use Rattle.otel_model.specs.Demands.{Demand, ReaderAnswers, StreamSpec, Views, add_answer, fits, is_compatible, view_demands}

-- views that give these answers for every instrument
abbrev pub views_answering : List (Option StreamSpec) → Views
views_answering answers = map (λ answer instrument. answer) answers

-- the compatible demands of views with these answers
abbrev pub usable_demands : ReaderAnswers → InstrumentationScope → About → List (Option StreamSpec) → List Demand
usable_demands answers scope about answered = filter is_compatible (view_demands (views_answering answered) answers scope about)

-- the same for the answer of one view
abbrev pub usable_answer : ReaderAnswers → InstrumentationScope → About → Option StreamSpec → List Demand
usable_answer answers scope about answer = filter is_compatible (add_answer answers scope about answer [])

-- whether the aggregation can be used with the kind; having none is always possible
abbrev pub can_keep : InstrumentKind → Option Aggregation → Bool
can_keep kind None = true
can_keep kind (Some aggregation) = fits kind aggregation

-- whether a view answered with an aggregation that can't be used with the kind
abbrev pub is_unfit : InstrumentKind → Option StreamSpec → Bool
is_unfit kind None = false
is_unfit kind (Some s) = not (can_keep kind s.aggregation)

-- whether the list is empty
abbrev pub has_none : List ℕ → Bool
has_none [] = true
has_none (n ∷ ns) = false

-- whether the instrument demands its own stream: no view answered, or one answered with an aggregation that can't be
-- used and the instrument feeds no stream
abbrev pub demands_own : InstrumentKind → List (Option StreamSpec) → List ℕ → Bool
demands_own kind answered feeds = not (list_any is_some answered) || (list_any (is_unfit kind) answered && has_none feeds)
