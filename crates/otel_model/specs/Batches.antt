-- Records made as a batch, series by series. A batch is a list of records, each a number for its series and a value; two
-- numbers may be of one series.
use Rattle.std.specs.Prelude.{◌≡◌, ℕ, ◌==◌, Bool, cond, List, [], ◌∷◌, ◌++◌, map, filter, fold, length, None}
use Rattle.std.specs.List.{list_any, AllByRecursion as EachOf}
use Rattle.otel_model_stream.specs.Totals.{has_number}
use Rattle.otel_model.specs.Calls.{Number, Call, Reply}
use Rattle.otel_model.specs.Demands.{Views}
use Rattle.otel_model.specs.State.{State}
use Rattle.otel_model.specs.Refusals.{refusal}
use Rattle.otel_model.specs.Steps.{Step}
use Rattle.otel_model.specs.Lawful.{IsLawful}
use Rattle.otel_model.specs.Places.{Series, call_at, placed_in, written_in}

-- ======== lists of records ========
-- the numbers that are not among `seen`, each once, in order
abbrev pub firsts : List ℕ → List ℕ → List ℕ
firsts seen [] = []
firsts seen (n ∷ ns) = cond (has_number n seen) (firsts seen ns) (n ∷ firsts (n ∷ seen) ns)

-- the series, in order of the first record of each
abbrev pub firsts_of : {V : Type 0} → List (ℕ × V) → List ℕ
firsts_of rs = firsts [] (map (λ r. r.0) rs)

-- whether there is a record of this series
abbrev pub occurs : {V : Type 0} → ℕ → List (ℕ × V) → Bool
occurs n rs = list_any (λ r. r.0 == n) rs

-- the series, in order of the last record of each
abbrev pub lasts_of : {V : Type 0} → List (ℕ × V) → List ℕ
lasts_of [] = []
lasts_of (r ∷ rs) = cond (occurs r.0 rs) (lasts_of rs) (r.0 ∷ lasts_of rs)

-- the values of the records of a series, in order
abbrev pub values_of : {V : Type 0} → ℕ → List (ℕ × V) → List V
values_of n rs = map (λ r. r.1) (filter (λ r. r.0 == n) rs)

-- the series, in order of the last record of each, with the values of its records
abbrev pub values_each : {V : Type 0} → List (ℕ × V) → List (ℕ × List V)
values_each rs = map (λ n. (n, values_of n rs)) (lasts_of rs)

-- ======== a batch ========
-- the calls that make the records one by one
abbrev pub calls_of : (ℕ → Series) → List (ℕ × Number) → List Call
calls_of series rs = map (λ (r : ℕ × Number). call_at (series r.0) r.1) rs

-- the provider once these series have their places
abbrev pub placed_each : (ℕ → Series) → List ℕ → State → State
placed_each series ns st = fold (λ (st : State) (n : ℕ). placed_in (series n) st) st ns

-- the provider after records of these values of a series that has its places
abbrev pub written_all : Series → List Number → State → State
written_all s vs st = fold (λ (st : State) (v : Number). written_in s v st) st vs

-- the provider after the records of each of these series
abbrev pub written_each : (ℕ → Series) → List (ℕ × List Number) → State → State
written_each series gs st = fold (λ (st : State) (g : ℕ × List Number). written_all (series g.0) g.1 st) st gs

-- the provider after a batch: each series gets its places, in order of first records, and then, in order of last records,
-- the values of each are written
abbrev pub batch_after : (ℕ → Series) → List (ℕ × Number) → State → State
batch_after series rs st = written_each series (values_each rs) (placed_each series (firsts_of rs) st)

-- ======== calls that are made ========
-- the call is answered by `Done`, whatever the views
abbrev pub IsDone : State → Call → State → Type 0
IsDone old call new = (views : Views) → Step views old call Reply.Done new

-- the calls are made one after another, and each is answered by `Done`
abbrev pub AreDone : State → List Call → State → Type 0
AreDone old [] new = new ≡ old
AreDone old (call ∷ calls) new = (mid : State) × IsDone old call mid × AreDone mid calls new

-- none of the calls has a fault, other than that memory may be refused
abbrev pub AreAccepted : State → List Call → Type 0
AreAccepted st calls = EachOf (λ (call : Call). refusal st.shared (length st.readers) call ≡ None) calls

-- ======== the laws ========
-- a batch of records that have no fault is these records, made one by one
abbrev pub BatchesGroup : Type 0
BatchesGroup = (series : ℕ → Series) (st : State) (rs : List (ℕ × Number)) → IsLawful st → AreAccepted st (calls_of series rs)
    → AreDone st (calls_of series rs) (batch_after series rs st)

-- the fault of a record, if it has one, is the same before and after a batch
abbrev pub RefusalsStay : Type 0
RefusalsStay = (series : ℕ → Series) (st : State) (rs : List (ℕ × Number)) (s : Series) (v : Number)
    → refusal (batch_after series rs st).shared (length (batch_after series rs st).readers) (call_at s v) ≡ refusal st.shared (length st.readers) (call_at s v)

-- the series of a beginning of the records are a beginning of their series: if there is no memory for a series' places,
-- the records before its first one are a batch whose series have theirs
abbrev pub FirstsOfBeginning : Type 0
FirstsOfBeginning = (rs later : List (ℕ × Number)) → (rest : List ℕ) × (firsts_of (rs ++ later) ≡ firsts_of rs ++ rest)
