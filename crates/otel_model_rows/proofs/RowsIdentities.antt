-- Worked rows on what makes a stream the same stream, which demand decides, allow-lists, and instruments that ignore.
use Rattle.std.specs.Prelude.{◌≡◌, pos, Bool, true, cond, List, [], ◌∷◌, ◌++◌, replicate, Some, None, codes}
use Rattle.std.proofs.Common.{refl}
use Rattle.otel_common.specs.Canonical.{canon}
use Rattle.otel_common.specs.Equality.{bytes_eq}
use Rattle.otel_common.specs.Scopes.{scope_eq}
use Rattle.otel_common.specs.declared.attributes.KeyValue.{KeyValue}
use Rattle.otel_model_stream.specs.Sets.{over_set, set_of}
use Rattle.otel_model.specs.Calls.{Text, kind_eq, Counter, Histogram, ObservableCounter, Gauge, About, Call, Meter, Build, Record, Collect}
use Rattle.otel_model.specs.Demands.{Instrument, Views, nothing_said}
use Rattle.otel_model_rows.specs.Rows.{a, b, m, scope_named, about, with_own_bounds, u64, i64, x1, y1, pair, if_named, limited, named, cumulative, delta, AloneShows, one, delta_sum, cumulative_sum, last_values, cumulative_histogram, spread, on, add, observe}

-- 1 at the first and 2 at the second of two instruments
abbrev both : About → About → List Call
both i j = on i (Build (Some 0) j 100 ∷ add 1 [] ∷ Record 1 (u64 2) [] ∷ Collect 0 200 [] ∷ [])

abbrev counter : About
counter = about Counter a

abbrev described : Text → About
described description = record counter { description = Some description }

abbrev measured_in : Text → About
measured_in unit = record counter { unit = Some unit }

-- ======== the same or not ========
pub two_descriptions : AloneShows [] cumulative (both (described (codes "d")) (described (codes "D")))
    ((one a (cumulative_sum (([], 1) ∷ [])) ++ one a (cumulative_sum (([], 2) ∷ []))) ∷ [])
unfolding canon
two_descriptions = (refl, refl)

pub two_units : AloneShows [] cumulative (both (measured_in (codes "s")) (measured_in (codes "S")))
    ((one a (cumulative_sum (([], 1) ∷ [])) ++ one a (cumulative_sum (([], 2) ∷ []))) ∷ [])
unfolding canon
two_units = (refl, refl)

-- a description is no unit
pub description_or_unit : AloneShows [] cumulative (both (described (codes "s")) (measured_in (codes "s")))
    ((one a (cumulative_sum (([], 1) ∷ [])) ++ one a (cumulative_sum (([], 2) ∷ []))) ∷ [])
unfolding canon
description_or_unit = (refl, refl)

pub two_kinds : AloneShows [] cumulative (both counter (about Gauge a)) ((one a (cumulative_sum (([], 1) ∷ [])) ++ one a (last_values (([], 2) ∷ []))) ∷ [])
unfolding canon
two_kinds = (refl, refl)

-- a counter and an observable counter
pub two_counters : AloneShows [] cumulative (on counter (Build (Some 0) (about ObservableCounter a) 100 ∷ add 1 [] ∷ Collect 0 200 (observe 1 2 [] ∷ []) ∷ []))
    ((one a (cumulative_sum (([], 1) ∷ [])) ++ one a (cumulative_sum (([], 2) ∷ []))) ∷ [])
unfolding canon
two_counters = (refl, refl)

pub two_number_types : AloneShows [] cumulative (on (about Gauge a) (Build (Some 0) (record (about Gauge a) { signed = true }) 100 ∷ add 1 [] ∷ Record 1 (i64 2 (pos 2)) [] ∷ Collect 0 200 [] ∷ []))
    ((one a (last_values (([], 1) ∷ [])) ++ one a (last_values (([], 2) ∷ []))) ∷ [])
unfolding canon
two_number_types = (refl, refl)

-- meters that differ in their version
pub two_scopes : AloneShows [] cumulative (Meter m ∷ Meter (record m { version = Some (codes "1") }) ∷ Build (Some 0) counter 100 ∷ Build (Some 1) counter 100 ∷ add 1 [] ∷ Record 1 (u64 2) [] ∷ Collect 0 200 [] ∷ [])
    ((one a (cumulative_sum (([], 1) ∷ [])) ++ one a (cumulative_sum (([], 2) ∷ []))) ∷ [])
unfolding canon
two_scopes = (refl, refl)

pub two_names : AloneShows [] cumulative (both counter (about Counter b)) ((one a (cumulative_sum (([], 1) ∷ [])) ++ one b (cumulative_sum (([], 2) ∷ []))) ∷ [])
unfolding canon
two_names = (refl, refl)

-- an absent description is the empty one, and so an absent unit
pub absent_is_empty : AloneShows [] cumulative (both (described []) counter) (one a (cumulative_sum (([], 3) ∷ [])) ∷ [])
unfolding canon
absent_is_empty = (refl, refl)

pub absent_unit_is_empty : AloneShows [] cumulative (both counter (measured_in [])) (one a (cumulative_sum (([], 3) ∷ [])) ∷ [])
unfolding canon
absent_unit_is_empty = (refl, refl)

-- own bounds make no difference: the first build's count
pub first_bounds : AloneShows [] cumulative (both (with_own_bounds (pos 5 ∷ []) (about Histogram a)) (with_own_bounds [] (about Histogram a))) (one a (cumulative_histogram [] (spread (pos 5 ∷ []) 2 3 1 2 (2 ∷ 0 ∷ []))) ∷ [])
unfolding canon
first_bounds = (refl, refl)

-- ======== what views say ========
pub view_description : AloneShows (if_named a (record nothing_said { description = Some [] }) ∷ []) cumulative (both (described (codes "d")) (described (codes "D"))) (one a (cumulative_sum (([], 3) ∷ [])) ∷ [])
unfolding canon
view_description = (refl, refl)

pub view_unit : AloneShows (if_named a (record nothing_said { unit = Some (codes "ms") }) ∷ []) cumulative (both (measured_in (codes "s")) (measured_in (codes "S"))) (one a (cumulative_sum (([], 3) ∷ [])) ∷ [])
unfolding canon
view_unit = (refl, refl)

-- of two demands of one identity the first decides, and the record is made once
pub first_decides : AloneShows (if_named a (record nothing_said { allow = Some (a ∷ []); limit = Some 1 }) ∷ if_named a nothing_said ∷ []) cumulative (on counter (add 1 (pair 97 1 ∷ pair 98 1 ∷ []) ∷ add 2 (pair 97 2 ∷ []) ∷ Collect 0 200 [] ∷ []))
    (one a (cumulative_sum ((pair 97 1 ∷ [], 1) ∷ (over_set, 2) ∷ [])) ∷ [])
unfolding canon
first_decides = (refl, refl)

-- each view that answers demands a stream, in order
pub all_views : AloneShows (if_named a (named b) ∷ if_named (codes "other") (named (codes "other")) ∷ if_named a (limited 1) ∷ []) cumulative (on counter (add 1 x1 ∷ add 2 y1 ∷ Collect 0 200 [] ∷ []))
    ((one b (cumulative_sum ((x1, 1) ∷ (y1, 2) ∷ [])) ++ one a (cumulative_sum ((x1, 1) ∷ (over_set, 2) ∷ []))) ∷ [])
unfolding canon
all_views = (refl, refl)

-- views are asked with the instrument's name as it was given
pub views_see_case : AloneShows (if_named (codes "A") (named b) ∷ []) cumulative (on counter (add 1 [] ∷ Collect 0 200 [] ∷ [])) (one a (cumulative_sum (([], 1) ∷ [])) ∷ [])
unfolding canon
views_see_case = (refl, refl)

-- and with its description, unit, kind and scope
abbrev renamed_if : (Instrument → Bool) → Views
renamed_if test = (λ i. cond (test i) (Some (named b)) None) ∷ []

abbrev full : About
full = record counter { description = Some (codes "d"); unit = Some (codes "u") }

abbrev one_record : List Call
one_record = on full (add 1 [] ∷ Collect 0 200 [] ∷ [])

pub views_see_description : AloneShows (renamed_if (λ i. bytes_eq i.description (codes "d"))) cumulative one_record (one b (cumulative_sum (([], 1) ∷ [])) ∷ [])
unfolding canon
views_see_description = (refl, refl)

pub views_see_unit : AloneShows (renamed_if (λ i. bytes_eq i.unit (codes "u"))) cumulative one_record (one b (cumulative_sum (([], 1) ∷ [])) ∷ [])
unfolding canon
views_see_unit = (refl, refl)

pub views_see_kind : AloneShows (renamed_if (λ i. kind_eq i.kind Counter)) cumulative (on (about Gauge a) (Build (Some 0) full 100 ∷ add 1 [] ∷ Record 1 (u64 2) [] ∷ Collect 0 200 [] ∷ []))
    ((one a (last_values (([], 1) ∷ [])) ++ one b (cumulative_sum (([], 2) ∷ []))) ∷ [])
unfolding canon
views_see_kind = (refl, refl)

pub views_see_scope : AloneShows (renamed_if (λ i. scope_eq i.scope m)) cumulative (Meter m ∷ Meter (scope_named b) ∷ Build (Some 0) full 100 ∷ Build (Some 1) full 100 ∷ add 1 [] ∷ Record 1 (u64 2) [] ∷ Collect 0 200 [] ∷ [])
    ((one b (cumulative_sum (([], 1) ∷ [])) ++ one a (cumulative_sum (([], 2) ∷ []))) ∷ [])
unfolding canon
views_see_scope = (refl, refl)

-- without places all but the empty set overflows
pub no_places : AloneShows (if_named a (limited 0) ∷ []) delta (on counter (add 1 [] ∷ add 2 x1 ∷ Collect 0 200 [] ∷ [])) (one a (delta_sum (([], 1) ∷ (over_set, 2) ∷ [])) ∷ [])
unfolding canon
no_places = (refl, refl)

-- ======== allow-lists ========
abbrev several : List KeyValue
several = pair 99 1 ∷ pair 97 2 ∷ pair 97 3 ∷ pair 98 4 ∷ []

-- keys of the list that no attribute has, or that stand in it twice, change nothing
pub allowed : set_of (Some ((122 ∷ []) ∷ b ∷ a ∷ a ∷ [])) several ≡ pair 97 2 ∷ pair 98 4 ∷ []
unfolding canon
allowed = refl

pub none_allowed : set_of (Some ((122 ∷ []) ∷ [])) several ≡ []
unfolding canon
none_allowed = refl

pub all_allowed : set_of None several ≡ pair 97 2 ∷ pair 98 4 ∷ pair 99 1 ∷ []
unfolding canon
all_allowed = refl

-- records and observations of what is not allowed are counted with the rest
pub allowed_records : AloneShows (if_named a (record nothing_said { allow = Some ((120 ∷ []) ∷ []) }) ∷ []) cumulative (on counter (add 1 (y1 ++ x1) ∷ add 2 x1 ∷ add 4 y1 ∷ Collect 0 200 [] ∷ []))
    (one a (cumulative_sum (([], 4) ∷ (x1, 3) ∷ [])) ∷ [])
unfolding canon
allowed_records = (refl, refl)

pub allowed_observations : AloneShows (if_named a (record nothing_said { allow = Some ((120 ∷ []) ∷ []) }) ∷ []) cumulative (on (about ObservableCounter a) (Collect 0 200 (observe 0 1 (y1 ++ x1) ∷ observe 0 2 x1 ∷ observe 0 4 y1 ∷ []) ∷ []))
    (one a (cumulative_sum (([], 4) ∷ (x1, 2) ∷ [])) ∷ [])
unfolding canon
allowed_observations = (refl, refl)

-- ======== instruments that ignore ========
pub bad_unit : AloneShows [] cumulative (on (measured_in (233 ∷ [])) (add 1 [] ∷ Collect 0 200 [] ∷ [])) ([] ∷ [])
unfolding canon
bad_unit = (refl, refl)

pub long_unit : AloneShows [] cumulative (on (measured_in (replicate 64 115)) (add 1 [] ∷ Collect 0 200 [] ∷ [])) ([] ∷ [])
unfolding canon
long_unit = (refl, refl)

pub longest_unit : AloneShows [] cumulative (on (measured_in (replicate 63 115)) (add 1 [] ∷ Collect 0 200 [] ∷ [])) (one a (cumulative_sum (([], 1) ∷ [])) ∷ [])
unfolding canon
longest_unit = (refl, refl)

-- a view does not mend it
pub view_of_bad_unit : AloneShows (if_named a (record nothing_said { unit = Some (codes "s") }) ∷ []) cumulative (on (measured_in (233 ∷ [])) (add 1 [] ∷ Collect 0 200 [] ∷ [])) ([] ∷ [])
unfolding canon
view_of_bad_unit = (refl, refl)

-- a description may have any characters
pub any_description : AloneShows [] cumulative (on (described (replicate 70 233)) (add 1 [] ∷ Collect 0 200 [] ∷ [])) (one a (cumulative_sum (([], 1) ∷ [])) ∷ [])
unfolding canon
any_description = (refl, refl)
