-- Which streams a build demands of a reader, and the fate of each demand (Metrics SDK, "View" and "MetricReader").
use Rattle.std.specs.Prelude.{ℕ, ℤ, pos, Bool, true, false, cond, ◌&&◌, ◌||◌, not, is_none, List, [], ◌∷◌, ◌++◌, map, filter, Option, Some, None}
use Rattle.std.specs.Bool.{beq}
use Rattle.std.specs.List.{list_any}
use Rattle.otel_common.specs.Equality.{bytes_eq}
use Rattle.otel_common.specs.Scopes.{scope_eq}
pub use Rattle.otel_common.specs.Temporalities.{resets}
pub use Rattle.otel_common.specs.declared.metrics.Temporality.{Temporality}
pub use Rattle.otel_common.specs.declared.metrics.Temporality.TheVariants.{Cumulative, Delta, LowMemory}
use Rattle.otel_common.specs.declared.scopes.InstrumentationScope.{InstrumentationScope}
pub use Rattle.otel_common.specs.declared.metrics.Aggregation.{Aggregation}
pub use Rattle.otel_common.specs.declared.metrics.Aggregation.TheVariants.{Drop, Default, Sum, LastValue, ExplicitBucketHistogram}
pub use Rattle.otel_common.specs.Aggregations.{is_valid}
pub use Rattle.otel_stream.specs.Answers.{kinds, ReaderAnswers, answers_by, answers_preferring, no_answer, answer_for}
pub use Rattle.otel_stream.specs.Compatible.{fits}
pub use Rattle.otel_stream.specs.Preferences.{temporality_preference}
pub use Rattle.otel_stream.specs.Settings.{nothing_said}
pub use Rattle.otel_stream.specs.declared.answers.Answer.{Answer}
pub use Rattle.otel_stream.specs.declared.demand.Demand.{Demand}
pub use Rattle.otel_stream.specs.declared.demand.Identity.{Identity}
pub use Rattle.otel_stream.specs.declared.instrument.Instrument.{Instrument}
pub use Rattle.otel_stream.specs.declared.stream_spec.StreamSpec.{StreamSpec}
use Rattle.otel_model.specs.Checks.{is_good_name, optional_unit_fault, rises}
use Rattle.otel_model.specs.Calls.{Text, ascii_lowercase, or_else, InstrumentKind, Counter, UpDownCounter, Histogram, ObservableCounter, ObservableUpDownCounter, Gauge, ObservableGauge, kind_eq, About}

-- ======== identities ========
-- whether two identities are the same (Metrics SDK, "Duplicate instrument registration")
abbrev pub identity_eq : Identity → Identity → Bool
identity_eq a b = scope_eq a.scope b.scope && (kind_eq a.kind b.kind && (beq a.signed b.signed && (bytes_eq a.description b.description && (bytes_eq a.unit b.unit && bytes_eq a.name b.name))))

-- ======== aggregations ========
-- whether the aggregation is `Drop`
abbrev pub is_drop : Aggregation → Bool
is_drop Drop = true
is_drop Default = false
is_drop Sum = false
is_drop LastValue = false
is_drop (ExplicitBucketHistogram bounds m) = false

-- the bucket bounds of the default histogram (Metrics SDK, "Explicit Bucket Histogram Aggregation")
abbrev pub default_bounds : List ℤ
default_bounds = pos 0 ∷ pos 5 ∷ pos 10 ∷ pos 25 ∷ pos 50 ∷ pos 75 ∷ pos 100 ∷ pos 250 ∷ pos 500 ∷ pos 750 ∷ pos 1000 ∷ pos 2500 ∷ pos 5000 ∷ pos 7500 ∷ pos 10000 ∷ []

-- the default aggregation of a kind of instrument (Metrics SDK, "Default Aggregation")
abbrev pub kind_default : InstrumentKind → Aggregation
kind_default Counter = Sum
kind_default UpDownCounter = Sum
kind_default Histogram = ExplicitBucketHistogram default_bounds true
kind_default ObservableCounter = Sum
kind_default ObservableUpDownCounter = Sum
kind_default Gauge = LastValue
kind_default ObservableGauge = LastValue

-- ======== views and readers ========
-- a view: what it says about the stream of an instrument, if it matches the instrument
abbrev pub View : Type 0
View = Instrument → Option StreamSpec

-- the views of a provider, in order
abbrev pub Views : Type 0
Views = List View

-- ======== demands ========
-- the reader's default aggregation: the one that it answers, if that is valid and fits the kind, otherwise the kind's
abbrev pub default_from : InstrumentKind → Option Aggregation → Aggregation
default_from kind None = kind_default kind
default_from kind (Some Default) = kind_default kind
default_from kind (Some a) = cond (is_valid a && fits kind a) a (kind_default kind)

-- the default aggregation of a kind at a reader with these answers
abbrev pub reader_default : ReaderAnswers → InstrumentKind → Aggregation
reader_default answers kind = default_from kind (answer_for answers kind).aggregation

-- the aggregation, a histogram with the instrument's own bounds if there are any
abbrev pub with_bounds : Option (List ℤ) → Aggregation → Aggregation
with_bounds (Some own) (ExplicitBucketHistogram bounds m) = ExplicitBucketHistogram own m
with_bounds own a = a

-- the same, where only a histogram instrument's own bounds are looked at
abbrev pub with_own : InstrumentKind → Option (List ℤ) → Aggregation → Aggregation
with_own Histogram own a = with_bounds own a
with_own kind own a = a

-- the aggregation of a demand: the one that the view gives, if that isn't `Default`; the reader's default for
-- `Default`; and if none is given, the reader's default with the histogram instrument's own bounds
abbrev pub resolved_aggregation : ReaderAnswers → About → Option Aggregation → Aggregation
resolved_aggregation answers about None = with_own about.kind about.bounds (reader_default answers about.kind)
resolved_aggregation answers about (Some Default) = reader_default answers about.kind
resolved_aggregation answers about (Some a) = a

-- the description of an instrument; empty if none is given
abbrev pub description_of : About → Text
description_of about = or_else about.description []

-- the unit of an instrument; empty if none is given
abbrev pub unit_of : About → Text
unit_of about = or_else about.unit []

-- the instrument of a build, as views see it
abbrev pub instrument_of : InstrumentationScope → About → Instrument
instrument_of scope about = record { name = about.name; description = description_of about; kind = about.kind; unit = unit_of about; scope = scope }

-- the limit of a stream if neither the view nor the reader gives one (Metrics SDK, "Cardinality limits")
abbrev pub default_limit : ℕ
default_limit = 2000

-- the demand that a view's answer makes of a reader
abbrev pub demand_of : ReaderAnswers → InstrumentationScope → About → StreamSpec → Demand
demand_of answers scope about s = record {
  identity = record {
    scope = scope;
    kind = about.kind;
    signed = about.signed;
    description = or_else s.description (description_of about);
    unit = or_else s.unit (unit_of about);
    name = ascii_lowercase (or_else s.name about.name);
  };
  spelling = or_else s.name about.name;
  aggregation = resolved_aggregation answers about s.aggregation;
  allow = s.allow;
  limit = or_else s.limit (or_else (answer_for answers about.kind).limit default_limit);
}

-- the instrument's own demand, with nothing said by a view
abbrev pub own_demand : ReaderAnswers → InstrumentationScope → About → Demand
own_demand answers scope about = demand_of answers scope about nothing_said

-- the demand of a view's answer, if it has one, before the others
abbrev pub add_answer : ReaderAnswers → InstrumentationScope → About → Option StreamSpec → List Demand → List Demand
add_answer answers scope about None ds = ds
add_answer answers scope about (Some s) ds = demand_of answers scope about s ∷ ds

-- the demands of the views that answer, one each, in order
abbrev pub view_demands : Views → ReaderAnswers → InstrumentationScope → About → List Demand
view_demands [] answers scope about = []
view_demands (view ∷ views) answers scope about = add_answer answers scope about (view (instrument_of scope about)) (view_demands views answers scope about)

-- whether the aggregation of a demand fits the kind of its instrument
abbrev pub is_compatible : Demand → Bool
is_compatible d = fits d.identity.kind d.aggregation

-- ======== fates ========
-- the fate of an identity: its first demand in the list
abbrev pub fate_of : List Demand → Identity → Option Demand
fate_of [] x = None
fate_of (d ∷ ds) x = cond (identity_eq d.identity x) (Some d) (fate_of ds x)

-- whether the fate is `Drop`
abbrev pub is_drop_fate : Option Demand → Bool
is_drop_fate None = false
is_drop_fate (Some d) = is_drop d.aggregation

-- whether the identity is dropped by its first demand
abbrev pub is_dropped : List Demand → Identity → Bool
is_dropped ds x = is_drop_fate (fate_of ds x)

-- whether the identity was demanded
abbrev pub is_known : List Demand → Identity → Bool
is_known ds x = list_any (λ d. identity_eq d.identity x) ds

-- whether there are no demands
abbrev pub is_empty : List Demand → Bool
is_empty [] = true
is_empty (d ∷ ds) = false

-- whether the instrument's own demand is made: no view answered, or some demand is incompatible and the fate of each
-- compatible one is `Drop`
abbrev pub needs_own : (Identity → Bool) → List Demand → Bool
needs_own dropped ds = is_empty ds || (list_any (λ d. not (is_compatible d)) ds && not (list_any (λ d. not (dropped d.identity)) (filter is_compatible ds)))

-- the compatible demands of the views, then the instrument's own if it is made. `dropped` tells which identities have
-- the fate `Drop` after the given demands
abbrev pub demands_with : (List Demand → Identity → Bool) → Views → ReaderAnswers → InstrumentationScope → About → List Demand
demands_with dropped views answers scope about =
    filter is_compatible (view_demands views answers scope about)
    ++ cond (needs_own (dropped (filter is_compatible (view_demands views answers scope about))) (view_demands views answers scope about)) (own_demand answers scope about ∷ []) []

-- whether the bounds are valid: they rise if the instrument is a histogram, and are not looked at otherwise
abbrev pub are_good_bounds : InstrumentKind → Option (List ℤ) → Bool
are_good_bounds Histogram (Some bounds) = rises bounds
are_good_bounds kind bounds = true

-- whether a build has a valid name, unit and bounds
abbrev pub is_good : About → Bool
is_good about = is_good_name about.name && (is_none (optional_unit_fault about.unit) && are_good_bounds about.kind about.bounds)

-- the demands of a build: none without a meter or with an invalid name, unit or bounds
abbrev pub demands_on : (List Demand → Identity → Bool) → Views → ReaderAnswers → Option InstrumentationScope → About → List Demand
demands_on dropped views answers None about = []
demands_on dropped views answers (Some scope) about = cond (is_good about) (demands_with dropped views answers scope about) []

-- whether the identity is in the list
abbrev pub has_identity : List Identity → Identity → Bool
has_identity xs x = list_any (λ y. identity_eq y x) xs

-- the distinct identities, in order of first occurrence, without those of `seen`
abbrev pub each_once : List Identity → List Identity → List Identity
each_once seen [] = []
each_once seen (x ∷ xs) = cond (has_identity seen x) (each_once seen xs) (x ∷ each_once (x ∷ seen) xs)

-- the identities of the streams that an instrument with these demands feeds: each once, and none that is dropped
abbrev pub fed_identities : (Identity → Bool) → List Demand → List Identity
fed_identities dropped ds = filter (λ x. not (dropped x)) (each_once [] (map (λ (d : Demand). d.identity) ds))
