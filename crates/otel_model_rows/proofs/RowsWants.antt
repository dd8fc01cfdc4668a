-- Worked rows on what readers want and what is set for streams.
use Rattle.std.specs.Prelude.{◌≡◌, ℕ, pos, cond, Bool, true, false, List, [], ◌∷◌, map, replicate, Option, Some, None, codes}
use Rattle.std.proofs.Common.{refl, sym, ap, ◌∙◌}
use Rattle.std.specs.declared.dyn_box.DynBox.{DynBox}
use Rattle.otel_common.specs.declared.metrics.Aggregation.{Aggregation}
use Rattle.otel_common.specs.declared.metrics.Aggregation.TheVariants.{Drop, Default, Sum, LastValue, ExplicitBucketHistogram}
use Rattle.otel_common.specs.declared.metrics.Temporality.{Temporality}
use Rattle.otel_common.specs.declared.metrics.Temporality.TheVariants.{Cumulative, Delta, LowMemory}
use Rattle.otel_common.specs.declared.scopes.InstrumentationScope.{InstrumentationScope}
use Rattle.otel_stream.specs.Answers.{kind_eq, kinds, ReaderAnswers, answer_wanting, answers_wanting, answers_by, answers_preferring, answer_for}
use Rattle.otel_stream.specs.Boxes.{Becomes}
use Rattle.otel_stream.specs.ByKind.{at_kind, for_no_kind}
use Rattle.otel_stream.specs.Requests.{wanted_by}
use Rattle.otel_stream.specs.Selectors.{some_end, byte_and, one_sign, matches, is_named, is_text, is_met, selects_scope, selects, any_instrument, stream_for}
use Rattle.otel_stream.specs.Settings.{nothing_said, fault_by_unit, limit_fault, optional_limit_fault, optional_bounds_fault, bounds_of, settings_fault, IsLawful}
use Rattle.otel_stream.specs.Units.{Long, NotAscii}
use Rattle.otel_stream.specs.Wants.{temporality_alone, limit_of, aggregation_of}
use Rattle.otel_stream.specs.declared.answers.Answer.{Answer}
use Rattle.otel_stream.specs.declared.by_kind.ByKind.{ByKind}
use Rattle.otel_stream.specs.declared.instrument.Instrument.{Instrument}
use Rattle.otel_stream.specs.declared.instrument.InstrumentKind.{InstrumentKind}
use Rattle.otel_stream.specs.declared.instrument.InstrumentKind.TheVariants.{Counter, UpDownCounter, Histogram, ObservableCounter, ObservableUpDownCounter, Gauge, ObservableGauge}
use Rattle.otel_stream.specs.declared.selector.InstrumentSelector.{InstrumentSelector}
use Rattle.otel_stream.specs.declared.selector.NameCriterion.TheVariants.{Exact, Prefix, Pattern}
use Rattle.otel_stream.specs.declared.stream_fault.StreamFault.TheVariants.{UnitLength, UnitInvalidChar, LimitZero, LimitMax, Boundaries}
use Rattle.otel_stream.specs.declared.stream_spec.StreamSpec.{StreamSpec}
use Rattle.otel_stream.specs.declared.wants.Wants.{Wants}

-- ======== kinds ========
abbrev seven : List InstrumentKind
seven = Counter ∷ UpDownCounter ∷ Histogram ∷ ObservableCounter ∷ ObservableUpDownCounter ∷ Gauge ∷ ObservableGauge ∷ []

pub all_kinds : kinds ≡ seven
all_kinds = refl

abbrev values : ByKind ℕ
values = record { counter = 10; up_down_counter = 11; histogram = 12; observable_counter = 13; observable_up_down_counter = 14; gauge = 15; observable_gauge = 16 }

pub value_of_each : map (at_kind values) seven ≡ 10 ∷ 11 ∷ 12 ∷ 13 ∷ 14 ∷ 15 ∷ 16 ∷ []
value_of_each = refl

pub no_values : map (at_kind (for_no_kind {A = ℕ})) seven ≡ replicate 7 None
no_values = refl

-- ======== answers ========
-- a reader that is delta for histograms alone, has a limit for counters, and drops gauges
abbrev temporality : InstrumentKind → Temporality
temporality kind = cond (kind_eq kind Histogram) Delta Cumulative

abbrev limit : InstrumentKind → Option ℕ
limit kind = cond (kind_eq kind Counter) (Some 5) None

abbrev aggregation : InstrumentKind → Option Aggregation
aggregation kind = cond (kind_eq kind Gauge) (Some Drop) None

abbrev plain : Answer
plain = record { temporality = Cumulative; limit = None; aggregation = None }

abbrev wanting : ReaderAnswers
wanting = record plain { limit = Some 5 } ∷ plain ∷ record plain { temporality = Delta } ∷ plain ∷ plain ∷ record plain { aggregation = Some Drop } ∷ plain ∷ []

pub one_answer : map (answer_wanting temporality limit aggregation) (Counter ∷ Histogram ∷ Gauge ∷ []) ≡ record plain { limit = Some 5 } ∷ record plain { temporality = Delta } ∷ record plain { aggregation = Some Drop } ∷ []
one_answer = refl

pub answers : answers_wanting temporality limit aggregation ≡ wanting
answers = refl

pub answer_of_each : map (answer_for wanting) seven ≡ wanting
answer_of_each = refl

pub temporalities_alone : answers_by temporality ≡ plain ∷ plain ∷ record plain { temporality = Delta } ∷ plain ∷ plain ∷ plain ∷ plain ∷ []
temporalities_alone = refl

abbrev delta : Answer
delta = record plain { temporality = Delta }

-- low memory is delta for counters and histograms
pub preferring : answers_preferring LowMemory ≡ delta ∷ plain ∷ delta ∷ plain ∷ plain ∷ plain ∷ plain ∷ []
preferring = refl

-- a reader is a number, its limit for each kind
pub wanted : wanted_by (λ reader. temporality) (λ reader kind. Some reader) (λ reader. aggregation) 5 ≡ record { temporality = temporality; limit = λ kind. Some 5; aggregation = aggregation }
wanted = refl

-- ======== manual readers ========
abbrev limits : ByKind (Option ℕ)
limits = record for_no_kind { counter = Some 5 }

abbrev aggregations : ByKind (Option Aggregation)
aggregations = record for_no_kind { gauge = Some Drop }

abbrev wants : Wants
wants = record { temporality = Delta; limits = limits; aggregations = aggregations }

pub wanted_limits : map (limit_of wants) seven ≡ Some 5 ∷ None ∷ None ∷ None ∷ None ∷ None ∷ None ∷ []
wanted_limits = refl

pub wanted_aggregations : map (aggregation_of wants) seven ≡ None ∷ None ∷ None ∷ None ∷ None ∷ Some Drop ∷ None ∷ []
wanted_aggregations = refl

pub wants_no_more : temporality_alone Delta ≡ record wants { limits = record limits { counter = None }; aggregations = record aggregations { gauge = None } }
wants_no_more = refl

-- ======== boxes ========
-- the box holds an object of the same type, which is the one that is spoken of
pub type_of_object : {Z : Type 0} (before after : DynBox ℕ Z (λ _. ℕ)) → Becomes before after (λ object. Unit {0}) → before.vtable ≡ after.vtable
type_of_object before after h = ap (λ p. p.0) h.1

pub object_spoken_of : {Z : Type 0} (before after : DynBox ℕ Z (λ _. ℕ)) → Becomes before after (λ object. object ≡ 5) → after.value ≡ 5
object_spoken_of before after h = sym (ap (λ (p : ℕ × ℕ). p.1) h.1) ∙ h.2

pub object_stays : {Z : Type 0} (box : DynBox ℕ Z (λ _. ℕ)) → Becomes box box (λ object. object ≡ box.value)
object_stays box = (box.value, refl, refl)

-- ======== selectors ========
pub star_alone : map (matches (codes "*")) (codes "" ∷ codes "a" ∷ codes "a.b" ∷ []) ≡ true ∷ true ∷ true ∷ []
star_alone = refl

pub empty_pattern : map (matches []) (codes "" ∷ codes "a" ∷ []) ≡ true ∷ false ∷ []
empty_pattern = refl

pub star_inside : map (matches (codes "http.*.size")) (codes "http.a.b.size" ∷ codes "http..size" ∷ codes "http.size" ∷ codes "http.a.sizes" ∷ codes "xhttp.a.size" ∷ []) ≡ true ∷ true ∷ false ∷ false ∷ false ∷ []
star_inside = refl

-- a later place than the first that fits
pub stars : map (matches (codes "*ab*ab")) (codes "abcab" ∷ codes "xxabab" ∷ codes "ab" ∷ codes "aba" ∷ codes "abab" ∷ []) ≡ true ∷ true ∷ false ∷ false ∷ true ∷ []
stars = refl

pub one_byte : map (matches (codes "a?c")) (codes "abc" ∷ codes "ac" ∷ codes "abbc" ∷ codes "abd" ∷ codes "a?c" ∷ []) ≡ true ∷ false ∷ false ∷ false ∷ true ∷ []
one_byte = refl

pub star_and_byte : map (matches (codes "*?")) (codes "" ∷ codes "a" ∷ codes "ab" ∷ []) ≡ false ∷ true ∷ true ∷ []
star_and_byte = refl

pub no_signs : map (matches (codes "ab")) (codes "ab" ∷ codes "a" ∷ codes "abc" ∷ codes "AB" ∷ []) ≡ true ∷ false ∷ false ∷ false ∷ []
no_signs = refl

pub ends : map (λ text. some_end (matches text) (codes "abc")) (codes "abc" ∷ codes "bc" ∷ codes "" ∷ codes "ab" ∷ codes "c" ∷ []) ≡ true ∷ true ∷ true ∷ false ∷ true ∷ []
ends = refl

pub bytes_behind : map (λ any. map (byte_and any 97 (matches (codes "b"))) (codes "ab" ∷ codes "xb" ∷ codes "b" ∷ codes "" ∷ [])) (true ∷ false ∷ []) ≡ (true ∷ true ∷ false ∷ false ∷ []) ∷ (true ∷ false ∷ false ∷ false ∷ []) ∷ []
bytes_behind = refl

pub signs : map (λ star. map (one_sign star 63 (matches (codes "b"))) (codes "aab" ∷ codes "ab" ∷ codes "b" ∷ [])) (true ∷ false ∷ []) ≡ (true ∷ true ∷ true ∷ []) ∷ (false ∷ true ∷ false ∷ []) ∷ []
signs = refl

abbrev scope : InstrumentationScope
scope = record { name = codes "shop"; version = Some (codes "1.0"); schema_url = None; attributes = [] }

abbrev instrument : Instrument
instrument = record { name = codes "requests"; description = []; kind = Counter; unit = codes "ms"; scope = scope }

-- a name is the whole name, with its capitals
pub names : map (is_named instrument.name) (Exact (codes "requests") ∷ Exact (codes "request") ∷ Exact (codes "requests2") ∷ Exact (codes "Requests") ∷ Exact (codes "*") ∷ []) ≡ true ∷ false ∷ false ∷ false ∷ false ∷ []
names = refl

pub prefixes : map (is_named instrument.name) (Prefix (codes "req") ∷ Prefix [] ∷ Prefix (codes "requests") ∷ Prefix (codes "requests2") ∷ Prefix (codes "quests") ∷ Prefix (codes "*") ∷ []) ≡ true ∷ true ∷ true ∷ false ∷ false ∷ false ∷ []
prefixes = refl

pub patterns : map (is_named instrument.name) (Pattern (codes "re*s") ∷ Pattern (codes "re*") ∷ Pattern (codes "re") ∷ []) ≡ true ∷ true ∷ false ∷ []
patterns = refl

pub texts : map (λ text. map (is_text text) (codes "1.0" ∷ codes "1" ∷ [] ∷ [])) (Some (codes "1.0") ∷ None ∷ []) ≡ (true ∷ false ∷ false ∷ []) ∷ (false ∷ false ∷ false ∷ []) ∷ []
texts = refl

pub met : map (is_met (is_text (Some (codes "a")))) (None ∷ Some (codes "a") ∷ Some (codes "b") ∷ []) ≡ true ∷ true ∷ false ∷ []
met = refl

-- each criterion alone, met and not
abbrev selecting : List InstrumentSelector → List Bool
selecting selectors = map (λ selector. selects selector instrument) selectors

pub nothing_asked : selects any_instrument instrument ≡ true
nothing_asked = refl

pub names_selected : selecting (record any_instrument { name = Some (Pattern (codes "re*")) } ∷ record any_instrument { name = Some (Prefix (codes "s")) } ∷ []) ≡ true ∷ false ∷ []
names_selected = refl

pub kinds_selected : selecting (map (λ kind. record any_instrument { kind = Some kind }) seven) ≡ true ∷ false ∷ false ∷ false ∷ false ∷ false ∷ false ∷ []
kinds_selected = refl

pub units_selected : selecting (map (λ unit. record any_instrument { unit = Some unit }) (codes "ms" ∷ codes "s" ∷ [] ∷ [])) ≡ true ∷ false ∷ false ∷ []
units_selected = refl

pub scope_names_selected : selecting (map (λ name. record any_instrument { scope_name = Some name }) (codes "shop" ∷ codes "sho*" ∷ codes "requests" ∷ [])) ≡ true ∷ false ∷ false ∷ []
scope_names_selected = refl

pub versions_selected : selecting (map (λ version. record any_instrument { scope_version = Some version }) (codes "1.0" ∷ codes "1" ∷ [] ∷ [])) ≡ true ∷ false ∷ false ∷ []
versions_selected = refl

-- the scope has no schema URL
pub urls_selected : selecting (map (λ url. record any_instrument { scope_schema_url = Some url }) (codes "1.0" ∷ [] ∷ [])) ≡ false ∷ false ∷ []
urls_selected = refl

pub scopes_selected : map (λ selector. selects_scope selector (record scope { schema_url = Some (codes "u") })) (any_instrument ∷ record any_instrument { scope_schema_url = Some (codes "u") } ∷ record any_instrument { scope_schema_url = Some (codes "u"); scope_name = Some (codes "u") } ∷ []) ≡ true ∷ true ∷ false ∷ []
scopes_selected = refl

-- all criteria at once, and then one that is not met
abbrev all_asked : InstrumentSelector
all_asked = record { name = Some (Pattern (codes "*")); kind = Some Counter; unit = Some (codes "ms"); scope_name = Some (codes "shop"); scope_version = Some (codes "1.0"); scope_schema_url = None }

pub all_selected : selecting (all_asked ∷ record all_asked { name = Some (Pattern (codes "?")) } ∷ record all_asked { kind = Some Gauge } ∷ record all_asked { unit = Some [] } ∷ record all_asked { scope_name = Some [] } ∷ record all_asked { scope_version = Some [] } ∷ record all_asked { scope_schema_url = Some [] } ∷ []) ≡ true ∷ false ∷ false ∷ false ∷ false ∷ false ∷ false ∷ []
all_selected = refl

abbrev limited : StreamSpec
limited = record nothing_said { limit = Some 5 }

pub streams : map (λ kind. stream_for (record { selector = record any_instrument { kind = Some kind }; stream = limited }) instrument) (Counter ∷ Gauge ∷ []) ≡ Some limited ∷ None ∷ []
streams = refl

-- ======== settings ========
pub nothing : nothing_said ≡ record { name = None; description = None; unit = None; aggregation = None; allow = None; limit = None }
nothing = refl

pub unit_faults : map fault_by_unit (None ∷ Some Long ∷ Some NotAscii ∷ []) ≡ None ∷ Some UnitLength ∷ Some UnitInvalidChar ∷ []
unit_faults = refl

pub limit_faults : map limit_fault (0 ∷ 1 ∷ 18446744073709551614 ∷ 18446744073709551615 ∷ []) ≡ Some LimitZero ∷ None ∷ None ∷ Some LimitMax ∷ []
limit_faults = refl

pub optional_limit_faults : map optional_limit_fault (None ∷ Some 0 ∷ Some 1 ∷ []) ≡ None ∷ Some LimitZero ∷ None ∷ []
optional_limit_faults = refl

pub bounds_faults : map optional_bounds_fault (None ∷ Some [] ∷ Some (pos 1 ∷ pos 2 ∷ []) ∷ Some (pos 2 ∷ pos 2 ∷ []) ∷ []) ≡ None ∷ None ∷ None ∷ Some Boundaries ∷ []
bounds_faults = refl

abbrev falling : Aggregation
falling = ExplicitBucketHistogram (pos 2 ∷ pos 1 ∷ []) true

pub bounds_of_each : map bounds_of (None ∷ Some Drop ∷ Some Default ∷ Some Sum ∷ Some LastValue ∷ Some falling ∷ []) ≡ None ∷ None ∷ None ∷ None ∷ None ∷ Some (pos 2 ∷ pos 1 ∷ []) ∷ []
bounds_of_each = refl

-- the first fault of all three, of two, and of one; a name is not looked at
abbrev bad_bounds : StreamSpec
bad_bounds = record nothing_said { name = Some []; aggregation = Some falling }

abbrev bad_limit : StreamSpec
bad_limit = record bad_bounds { limit = Some 0 }

abbrev bad_unit : StreamSpec
bad_unit = record bad_limit { unit = Some (233 ∷ []) }

pub first_faults : map settings_fault (bad_unit ∷ bad_limit ∷ bad_bounds ∷ record nothing_said { name = Some [] } ∷ []) ≡ Some UnitInvalidChar ∷ Some LimitZero ∷ Some Boundaries ∷ None ∷ []
first_faults = refl

pub lawful : IsLawful nothing_said
lawful = refl

pub unlawful : IsLawful bad_bounds → ⊥
unlawful e = cc
