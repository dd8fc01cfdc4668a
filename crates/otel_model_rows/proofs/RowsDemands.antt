-- Worked rows on demands: identities, fates, which demands a build makes, and what an instrument feeds.
use Rattle.std.specs.Prelude.{◌≡◌, ℕ, ℤ, pos, true, false, List, [], ◌∷◌, ◌++◌, map, Option, Some, None, codes}
use Rattle.std.proofs.Common.{refl}
use Rattle.otel_common.specs.Canonical.{canon}
use Rattle.otel_model.specs.Calls.{Counter, Histogram, Gauge, About, Call, Build, Record, Collect}
use Rattle.otel_model.specs.Demands.{Aggregation, Drop, Default, Sum, LastValue, ExplicitBucketHistogram, Identity, Demand, StreamSpec, Views, ReaderAnswers, identity_eq, is_drop, default_limit, default_bounds, demand_of, own_demand, add_answer, view_demands, is_compatible, fate_of, is_drop_fate, is_dropped, is_known, is_empty, needs_own, demands_with, are_good_bounds, is_good, demands_on, has_identity, each_once, fed_identities, nothing_said}
use Rattle.otel_model_rows.specs.Rows.{a, b, m, scope_named, about, u64, if_named, named, aggregating, but_for, limit_of, cumulative, AloneShows, one, cumulative_sum, on, add}

-- ======== identities ========
abbrev counter : Identity
counter = record { scope = m; kind = Counter; signed = false; description = codes "d"; unit = codes "u"; name = a }

-- all parts count, each by its bytes
pub same_identities : map (identity_eq counter)
    (counter
    ∷ record counter { scope = scope_named b }
    ∷ record counter { scope = record m { version = Some [] } }
    ∷ record counter { kind = Gauge }
    ∷ record counter { signed = true }
    ∷ record counter { description = codes "D" }
    ∷ record counter { unit = codes "U" }
    ∷ record counter { name = codes "A" }
    ∷ record counter { description = codes "u"; unit = codes "d" }
    ∷ [])
    ≡ true ∷ false ∷ false ∷ false ∷ false ∷ false ∷ false ∷ false ∷ false ∷ []
same_identities = refl

abbrev other : Identity
other = record counter { name = b }

abbrev third : Identity
third = record counter { name = codes "c" }

pub identities_there : map (has_identity (counter ∷ other ∷ [])) (counter ∷ other ∷ third ∷ []) ≡ true ∷ true ∷ false ∷ []
identities_there = refl

-- each where it stands first, but for those that were seen
pub each_of_them : (each_once [] (counter ∷ other ∷ counter ∷ third ∷ other ∷ []) ≡ counter ∷ other ∷ third ∷ []) × (each_once (other ∷ []) (counter ∷ other ∷ counter ∷ []) ≡ counter ∷ [])
each_of_them = (refl, refl)

-- ======== what demands say ========
pub drops : map is_drop (Drop ∷ Default ∷ Sum ∷ LastValue ∷ ExplicitBucketHistogram [] true ∷ []) ≡ true ∷ false ∷ false ∷ false ∷ false ∷ []
drops = refl

pub usual_numbers : (default_limit ≡ 2000) × (default_bounds ≡ pos 0 ∷ pos 5 ∷ pos 10 ∷ pos 25 ∷ pos 50 ∷ pos 75 ∷ pos 100 ∷ pos 250 ∷ pos 500 ∷ pos 750 ∷ pos 1000 ∷ pos 2500 ∷ pos 5000 ∷ pos 7500 ∷ pos 10000 ∷ [])
usual_numbers = (refl, refl)

-- an `i64` histogram with bounds of its own
abbrev instrument : About
instrument = record { kind = Histogram; signed = true; name = codes "Hi"; description = Some (codes "d"); unit = Some (codes "u"); bounds = Some (pos 5 ∷ []) }

abbrev own : Demand
own = record {
  identity = record { scope = m; kind = Histogram; signed = true; description = codes "d"; unit = codes "u"; name = codes "hi" };
  spelling = codes "Hi";
  aggregation = ExplicitBucketHistogram (pos 5 ∷ []) true;
  allow = None;
  limit = 2000;
}

pub own_demands : own_demand cumulative m instrument ≡ own
own_demands = refl

abbrev said : StreamSpec
said = record { name = Some (codes "Lo"); description = Some (codes "D"); unit = Some (codes "U"); aggregation = Some Sum; allow = Some (a ∷ []); limit = Some 7 }

pub said_by_view : demand_of cumulative m instrument said ≡ record {
  identity = record { scope = m; kind = Histogram; signed = true; description = codes "D"; unit = codes "U"; name = codes "lo" };
  spelling = codes "Lo";
  aggregation = Sum;
  allow = Some (a ∷ []);
  limit = 7;
}
said_by_view = refl

abbrev limited_reader : ReaderAnswers
limited_reader = but_for Histogram (limit_of 3) cumulative

-- the view's limit, or else the reader's
pub limits : ((own_demand limited_reader m instrument).limit ≡ 3) × ((demand_of limited_reader m instrument said).limit ≡ 7)
limits = (refl, refl)

abbrev two_views : Views
two_views = if_named (codes "other") said ∷ if_named (codes "Hi") said ∷ if_named (codes "Hi") nothing_said ∷ []

-- of the views that answer, in order
pub demands_of_views : (view_demands two_views cumulative m instrument ≡ demand_of cumulative m instrument said ∷ own ∷ []) × (view_demands [] cumulative m instrument ≡ [])
demands_of_views = (refl, refl)

pub answers_added : (add_answer cumulative m instrument None (own ∷ []) ≡ own ∷ []) × (add_answer cumulative m instrument (Some said) (own ∷ []) ≡ demand_of cumulative m instrument said ∷ own ∷ [])
answers_added = (refl, refl)

-- ======== fates ========
abbrev demand : Identity → Aggregation → Demand
demand x aggregation = record { identity = x; spelling = x.name; aggregation = aggregation; allow = None; limit = 2000 }

pub fitting : map is_compatible (demand counter Sum ∷ demand counter LastValue ∷ demand counter Drop ∷ demand (record counter { kind = Gauge }) LastValue ∷ demand (record counter { kind = Gauge }) Sum ∷ []) ≡ true ∷ false ∷ true ∷ true ∷ false ∷ []
fitting = refl

-- the first demand decides
abbrev earlier : List Demand
earlier = demand counter Sum ∷ demand other Drop ∷ demand counter Drop ∷ demand other Sum ∷ []

pub fates : map (fate_of earlier) (counter ∷ other ∷ third ∷ []) ≡ Some (demand counter Sum) ∷ Some (demand other Drop) ∷ None ∷ []
fates = refl

pub dropped_by_fate : map is_drop_fate (None ∷ Some (demand counter Sum) ∷ Some (demand counter Drop) ∷ []) ≡ false ∷ false ∷ true ∷ []
dropped_by_fate = refl

pub dropped : map (is_dropped earlier) (counter ∷ other ∷ third ∷ []) ≡ false ∷ true ∷ false ∷ []
dropped = refl

pub demanded : map (is_known earlier) (counter ∷ other ∷ third ∷ []) ≡ true ∷ true ∷ false ∷ []
demanded = refl

pub empty : map is_empty ([] ∷ earlier ∷ []) ≡ true ∷ false ∷ []
empty = refl

-- no demand; one that fits; one that does not; one that does not beside one that fits, has a stream, or is dropped; all
-- dropped
pub own_needed : map (needs_own (is_dropped earlier))
    ([]
    ∷ (demand counter Sum ∷ [])
    ∷ (demand counter LastValue ∷ [])
    ∷ (demand third Sum ∷ demand counter LastValue ∷ [])
    ∷ (demand counter LastValue ∷ demand counter Sum ∷ [])
    ∷ (demand other Sum ∷ demand counter LastValue ∷ [])
    ∷ (demand other Sum ∷ demand counter LastValue ∷ demand third Sum ∷ [])
    ∷ (demand other Sum ∷ [])
    ∷ [])
    ≡ true ∷ false ∷ true ∷ false ∷ false ∷ true ∷ false ∷ false ∷ []
own_needed = refl

pub identities_fed : fed_identities (is_dropped earlier) (demand counter Sum ∷ demand other Sum ∷ demand third Sum ∷ demand counter Drop ∷ []) ≡ counter ∷ third ∷ []
identities_fed = refl

-- ======== demands of a build ========
abbrev summing : About
summing = about Counter a

abbrev own_sum : Demand
own_sum = own_demand cumulative m summing

-- by these views, where nothing was demanded before
abbrev demands : Views → List Demand
demands views = demands_with is_dropped views cumulative m summing

abbrev x_spec : Aggregation → StreamSpec
x_spec aggregation = record (named (codes "x")) { aggregation = Some aggregation }

abbrev x_demand : Aggregation → Demand
x_demand aggregation = demand_of cumulative m summing (x_spec aggregation)

pub demands_made : (demands [] ≡ own_sum ∷ [])
    × (demands (if_named a (x_spec Sum) ∷ []) ≡ x_demand Sum ∷ [])
    × (demands (if_named a (x_spec LastValue) ∷ []) ≡ own_sum ∷ [])
    × (demands (if_named a (x_spec Sum) ∷ if_named a (aggregating LastValue) ∷ []) ≡ x_demand Sum ∷ [])
    × (demands (if_named a (x_spec Drop) ∷ []) ≡ x_demand Drop ∷ [])
    × (demands (if_named a (x_spec Drop) ∷ if_named a (aggregating LastValue) ∷ []) ≡ x_demand Drop ∷ own_sum ∷ [])
    × (demands (if_named a (x_spec LastValue) ∷ if_named a (x_spec Drop) ∷ []) ≡ x_demand Drop ∷ own_sum ∷ [])
demands_made = (refl, refl, refl, refl, refl, refl, refl)

abbrev five_five : Option (List ℤ)
five_five = Some (pos 5 ∷ pos 5 ∷ [])

pub good_bounds : (are_good_bounds Histogram None ≡ true) × (are_good_bounds Histogram (Some (pos 5 ∷ [])) ≡ true) × (are_good_bounds Histogram five_five ≡ false) × (are_good_bounds Counter five_five ≡ true) × (are_good_bounds Gauge five_five ≡ true)
good_bounds = (refl, refl, refl, refl, refl)

-- good, and with a bad name, a bad unit, bad bounds, and bounds that are not looked at
pub good_builds : map is_good (summing ∷ record summing { name = [] } ∷ record summing { unit = Some (233 ∷ []) } ∷ record (about Histogram a) { bounds = five_five } ∷ record summing { bounds = five_five } ∷ []) ≡ true ∷ false ∷ false ∷ false ∷ true ∷ []
good_builds = refl

-- none without a meter or of what is not good
pub demands_of_builds : (demands_on is_dropped [] cumulative None summing ≡ []) × (demands_on is_dropped [] cumulative (Some m) summing ≡ own_sum ∷ []) × (demands_on is_dropped [] cumulative (Some m) (record summing { name = [] }) ≡ [])
demands_of_builds = (refl, refl, refl)

-- ======== by a machine and read off the calls ========
abbrev one_record : List Call
one_record = on summing (add 1 [] ∷ Collect 0 200 [] ∷ [])

abbrev x : List ℕ
x = codes "x"

-- where a view's stream is there, one that does not fit brings no own stream
pub no_own_beside_stream : AloneShows (if_named a (named x) ∷ if_named a (aggregating LastValue) ∷ []) cumulative one_record (one x (cumulative_sum (([], 1) ∷ [])) ∷ [])
unfolding canon
no_own_beside_stream = (refl, refl)

-- where it is dropped by the same build, it does
pub own_beside_dropped : AloneShows (if_named a (x_spec Drop) ∷ if_named a (aggregating LastValue) ∷ []) cumulative one_record (one a (cumulative_sum (([], 1) ∷ [])) ∷ [])
unfolding canon
own_beside_dropped = (refl, refl)

-- a demand that does not fit decides no fate
pub unfit_decides_nothing : AloneShows (if_named a (x_spec LastValue) ∷ if_named a (x_spec Drop) ∷ []) cumulative one_record (one a (cumulative_sum (([], 1) ∷ [])) ∷ [])
unfolding canon
unfit_decides_nothing = (refl, refl)

-- and so it leaves the stream to a demand that comes later
pub unfit_leaves_stream : AloneShows (if_named a (x_spec LastValue) ∷ if_named b (named x) ∷ []) cumulative (on summing (Build (Some 0) (about Counter b) 100 ∷ add 1 [] ∷ Record 1 (u64 2) [] ∷ Collect 0 200 [] ∷ []))
    ((one a (cumulative_sum (([], 1) ∷ [])) ++ one x (cumulative_sum (([], 2) ∷ []))) ∷ [])
unfolding canon
unfit_leaves_stream = (refl, refl)
