-- Lists of records that wait.
use Rattle.std.proofs.Common.{position, IfSome, IfNone, Option, Some, None, is_some, true, true≢false, Contains, ◌≡◌, ◌∙◌, ℕ, ◌+◌, ◌<◌, List, [], ◌∷◌, ◌++◌, map, length, get_or, slice_get, drop, refl, sym, ap, add-one, arith, drop-cons, ltb-true}
use Rattle.std.proofs.Math.Dec.{ltb}
use Rattle.std.proofs.lemmas.List.{drop-drop, drop-map, get_or_append_left}
use Rattle.std.proofs.lemmas.List.Folds.{list_any_at}
use Rattle.std.proofs.lemmas.List.Quantifiers.{position-Some}
use Rattle.std.proofs.lemmas.Option.{get_or_from_slice_get}
use Rattle.std.specs.List.{AllByRecursion, list_any}
use Rattle.otel_data.specs.declared.numbers.NumberValue.{NumberValue}
use Rattle.opentelemetry_sdk.specs.Series.{series, series_eq, series_eq-Decides}
use Rattle.opentelemetry_sdk.specs.Waiting.{HasSeries, plain, record_in}
use Rattle.opentelemetry_sdk.specs.declared.metrics.shared.pending.PendingRecord.TheVariants as pending
use Rattle.opentelemetry_sdk.specs.declared.metrics.shared.pending.WaitingRecord.{WaitingRecord}
use Rattle.opentelemetry_sdk.specs.declared.metrics.shared.pending.WaitingRecord.TheVariants as waiting
use Rattle.opentelemetry_sdk.specs.declared.metrics.shared.series.Series.{Series}
use Rattle.opentelemetry_sdk.proofs.pipeline.Builds.{any-position}

-- one is passed
pub passed : {X Y : Type 0} (f : X → Y) (xs : List X) (n : ℕ) → map f (drop (n + 1) xs) ≡ drop 1 (map f (drop n xs))
passed f xs n = ap (map f) (sym (drop-drop 1 n xs)) ∙ sym (drop-map f 1 (drop n xs))

-- one of a series is there
pub taken : (ss : List Series) (rs xs : List WaitingRecord) (n place : ℕ) (value : NumberValue) (r : WaitingRecord) (s : Series)
    → xs ≡ rs → true ≡ ltb n (length xs) → r ≡ get_or xs n r → r ≡ waiting.Plain place value → slice_get ss place ≡ Some s
    → map (record_in ss) (drop n rs) ≡ pending.Plain s.instrument value s.attributes ∷ map (record_in ss) (drop (n + 1) rs)
taken ss rs xs n place value r s same lt get is at =
    rw (sym same, add-one, drop-cons xs n r (ltb-true n (length xs) (sym lt)), sym get ∙ is, get_or_from_slice_get ss place s (series 0 []) at) refl

-- ======== series ========
module _ (q : Series) where
  -- what a look-up answers
  pub place-there : (ss : List Series) (r : Option ℕ) → r ≡ position (series_eq q) ss → IfSome r (λ n. (n < length ss) × (get_or ss n (series 0 []) ≡ q))
  place-there ss None e = tt
  place-there ss (Some n) e =
      let p = position-Some (series_eq q) ss n (series 0 []) (sym e) in
      (p.0, sym ((series_eq-Decides q (get_or ss n (series 0 []))).0 p.1))

  pub place-unknown : (ss : List Series) (r : Option ℕ) → r ≡ position (series_eq q) ss → IfNone r (¬ Contains ss q)
  place-unknown ss None e = λ there.
      (let found : list_any (series_eq q) ss ≡ true = list_any_at (series_eq q) ss there.0 q there.1 ((series_eq-Decides q (get_or ss there.0 q)).1 (sym there.2)) in
      true≢false (sym found ∙ sym (any-position (series_eq q) ss) ∙ ap is_some (sym e)))
  place-unknown ss (Some n) e = tt

-- a list of series goes on
grown-at : (ss more : List Series) (r : WaitingRecord) → HasSeries (length ss) r → record_in (ss ++ more) r ≡ record_in ss r
grown-at ss more (waiting.Plain place value) has = ap (λ s. plain s (waiting.Plain place value)) (get_or_append_left ss more (series 0 []) place has)
grown-at ss more (waiting.Bound handle value) has = refl

pub grown : (ss more : List Series) (rs : List WaitingRecord) → AllByRecursion (HasSeries (length ss)) rs → map (record_in (ss ++ more)) rs ≡ map (record_in ss) rs
grown ss more [] all = refl
grown ss more (r ∷ rs) all = (λ i. grown-at ss more r all.0 i ∷ grown ss more rs all.1 i)

pub has-grown : (n : ℕ) (rs : List WaitingRecord) → AllByRecursion (HasSeries n) rs → AllByRecursion (HasSeries (n + 1)) rs
has-grown n [] all = tt
has-grown n (waiting.Plain place value ∷ rs) all = (omega (arith, all.0), has-grown n rs all.1)
has-grown n (waiting.Bound handle value ∷ rs) all = (tt, has-grown n rs all.1)
