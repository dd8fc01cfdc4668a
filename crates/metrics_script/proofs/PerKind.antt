-- What the kinds of instruments have, one kind after the other.
use Rattle.std.proofs.Common.{◌≡◌, ◌<◌, ◌≤◌, ◌≢◌, ◌+◌, ℕ, zero, suc, false, List, get_or, Option, None, refl, ap, ◌∙◌, sym, subst, inl, inr, lit<, arith}
use Rattle.std.proofs.lemmas.Bool.Decides.{eqb_tells}
use Rattle.otel_stream.specs.Answers.{kind_number, kind_eq, kinds}
use Rattle.otel_stream.specs.Wants.{limit_of, aggregation_of}
use Rattle.otel_stream.specs.declared.instrument.InstrumentKind.{InstrumentKind}
use Rattle.otel_stream.specs.declared.instrument.InstrumentKind.TheVariants.{Counter, UpDownCounter, Histogram, ObservableCounter, ObservableUpDownCounter, Gauge, ObservableGauge}
use Rattle.otel_stream.specs.declared.wants.Wants.{Wants}
use Rattle.metrics_script.specs.Aggregations.{IsAggregationWord}
use Rattle.metrics_script.specs.Options.{ReadsOption}
use Rattle.metrics_script.specs.Readers.{ReadsKind, ReadsLimit, aggregation_name}

-- each kind stands at its number
at_number : (kind : InstrumentKind) → get_or kinds (kind_number kind) Counter ≡ kind
at_number Counter = refl
at_number UpDownCounter = refl
at_number Histogram = refl
at_number ObservableCounter = refl
at_number ObservableUpDownCounter = refl
at_number Gauge = refl
at_number ObservableGauge = refl

number_at : (i : ℕ) (d : InstrumentKind) → i < 7 → kind_number (get_or kinds i d) ≡ i
number_at zero d inside = refl
number_at (suc zero) d inside = refl
number_at (suc (suc zero)) d inside = refl
number_at (suc (suc (suc zero))) d inside = refl
number_at (suc (suc (suc (suc zero)))) d inside = refl
number_at (suc (suc (suc (suc (suc zero))))) d inside = refl
number_at (suc (suc (suc (suc (suc (suc zero)))))) d inside = refl
number_at (suc (suc (suc (suc (suc (suc (suc i))))))) d inside = absurd (omega (arith, inside))

below_seven : (kind : InstrumentKind) → kind_number kind < 7
below_seven Counter = lit< tt
below_seven UpDownCounter = lit< tt
below_seven Histogram = lit< tt
below_seven ObservableCounter = lit< tt
below_seven ObservableUpDownCounter = lit< tt
below_seven Gauge = lit< tt
below_seven ObservableGauge = lit< tt

-- kinds of one number are the same
same_kind : (a b : InstrumentKind) → kind_number a ≡ kind_number b → a ≡ b
same_kind a b e = sym (at_number a) ∙ (ap (λ n. get_or kinds n Counter) e ∙ at_number b)

-- what is read for a kind depends on what the reader has for it alone
read_alike : (words : List (List ℕ)) (limit : Option ℕ) (old new : Wants) (kind : InstrumentKind) → (limit_of new kind ≡ limit_of old kind) × (aggregation_of new kind ≡ aggregation_of old kind) → ReadsKind words limit old kind → ReadsKind words limit new kind
read_alike words limit old new kind same read = (subst (ReadsLimit words limit kind) (sym same.0) read.0, subst (ReadsOption IsAggregationWord (aggregation_name kind) words) (sym same.1) read.1)

-- a kind of another number is another
other_kind : (kind : InstrumentKind) (i : ℕ) (d : InstrumentKind) → i < 7 → kind_number kind ≢ i → kind_eq kind (get_or kinds i d) ≡ false
other_kind kind i d inside other =
    elim (eqb_tells (kind_number kind) i) [
      | inl same ↦ absurd (other same.1)
      | inr test ↦ rw (number_at i d inside) test.0
    ]

-- a kind more has what is said for it
pub read_more : (words : List (List ℕ)) (limit : Option ℕ) (old new : Wants) (i : ℕ) (d : InstrumentKind) → i < 7
    → ((kind : InstrumentKind) → kind_number kind < i → ReadsKind words limit old kind)
    → ((kind : InstrumentKind) → i ≤ kind_number kind → (limit_of old kind ≡ None) × (aggregation_of old kind ≡ None))
    → (limit_of old (get_or kinds i d) ≡ None → aggregation_of old (get_or kinds i d) ≡ None → ReadsKind words limit new (get_or kinds i d))
    → ((other : InstrumentKind) → kind_eq other (get_or kinds i d) ≡ false → (limit_of new other ≡ limit_of old other) × (aggregation_of new other ≡ aggregation_of old other))
    → (kind : InstrumentKind) → kind_number kind < i + 1 → ReadsKind words limit new kind
read_more words limit old new i d inside done rest given others kind before =
    let number = number_at i d inside in
    let here : i ≤ kind_number (get_or kinds i d) = omega (arith, number) in
    let none = rest (get_or kinds i d) here in
    elim (eqb_tells (kind_number kind) i) [
      | inl same ↦ subst (ReadsKind words limit new) (sym (same_kind kind (get_or kinds i d) (same.1 ∙ sym number))) (given none.0 none.1)
      | inr other ↦ (let earlier : kind_number kind < i = omega (arith, before, other.1) in read_alike words limit old new kind (others kind (other_kind kind i d inside other.1)) (done kind earlier))
    ]

-- the others still have nothing
pub rest_unread : (old new : Wants) (i : ℕ) (d : InstrumentKind) → i < 7
    → ((kind : InstrumentKind) → i ≤ kind_number kind → (limit_of old kind ≡ None) × (aggregation_of old kind ≡ None))
    → ((other : InstrumentKind) → kind_eq other (get_or kinds i d) ≡ false → (limit_of new other ≡ limit_of old other) × (aggregation_of new other ≡ aggregation_of old other))
    → (kind : InstrumentKind) → i + 1 ≤ kind_number kind → (limit_of new kind ≡ None) × (aggregation_of new kind ≡ None)
rest_unread old new i d inside rest others kind after =
    let later : i ≤ kind_number kind = omega (arith, after) in
    let other : kind_number kind ≢ i = omega (arith, after) in
    let same = others kind (other_kind kind i d inside other) in
    let none = rest kind later in
    (same.0 ∙ none.0, same.1 ∙ none.1)

-- no kind is left
pub each_read : (words : List (List ℕ)) (limit : Option ℕ) (reader : Wants) (i : ℕ) → 7 ≤ i → ((kind : InstrumentKind) → kind_number kind < i → ReadsKind words limit reader kind) → (kind : InstrumentKind) → ReadsKind words limit reader kind
each_read words limit reader i end done kind = let below = below_seven kind in done kind (omega (arith, below, end))
