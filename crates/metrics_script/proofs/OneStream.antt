-- The words of a stream say one stream.
use Rattle.std.proofs.Common.{◌≡◌, ◌==◌, ℕ, ℤ, Bool, true, false, List, [], ◌∷◌, Option, Some, None, length, get_or, codes, if◌then◌else◌, refl, ap, sym, subst, ◌∙◌, arith}
use Rattle.std.specs.Bool.{MatchBool}
use Rattle.std.specs.List.{AllZip, slice_split}
use Rattle.std.specs.Option.{option_to_list}
use Rattle.otel_common.specs.declared.metrics.Aggregation.{Aggregation}
use Rattle.otel_common.specs.declared.metrics.Aggregation.TheVariants.{Drop, Default, Sum, LastValue, ExplicitBucketHistogram}
use Rattle.otel_stream.specs.declared.stream_spec.StreamSpec.{StreamSpec}
use Rattle.metrics_script.specs.Aggregations.{IsAggregationWord}
use Rattle.metrics_script.specs.Attributes.{is_comma}
use Rattle.metrics_script.specs.Boundaries.{IsBoundaryWord, ReadsBoundaries}
use Rattle.metrics_script.specs.Calls.{IsIndexWord}
use Rattle.metrics_script.specs.Keys.{IsKeyWord, ReadsKeys}
use Rattle.metrics_script.specs.Options.{ReadsOption, ReadsText, values_named}
use Rattle.metrics_script.specs.Streams.{ReadsStream}

-- a word stands for one thing
abbrev IsClear : {X : Type 0} → (List ℕ → X → Type 0) → Type 0
IsClear {X} R = (word : List ℕ) (x y : X) → R word x → R word y → x ≡ y

one_list : {X : Type 0} (R : List ℕ → X → Type 0) → IsClear R → (words : List (List ℕ)) (xs ys : List X) → AllZip R words xs → AllZip R words ys → xs ≡ ys
one_list R clear [] [] [] a b = refl
one_list R clear [] [] (y ∷ ys) a b = absurd b
one_list R clear [] (x ∷ xs) ys a b = absurd a
one_list R clear (w ∷ words) [] ys a b = absurd a
one_list R clear (w ∷ words) (x ∷ xs) [] a b = absurd b
one_list R clear (w ∷ words) (x ∷ xs) (y ∷ ys) a b = λ i. clear w x y a.0 b.0 i ∷ one_list R clear words xs ys a.1 b.1 i

same_option : {X : Type 0} (x y : Option X) → option_to_list x ≡ option_to_list y → x ≡ y
same_option None None e = refl
same_option None (Some y) e = cc
same_option (Some x) None e = cc
same_option (Some x) (Some y) e = cc

one_option : {X : Type 0} (R : List ℕ → X → Type 0) → IsClear R → (name : List ℕ) (words : List (List ℕ)) (x y : Option X) → ReadsOption R name words x → ReadsOption R name words y → x ≡ y
one_option R clear name words x y a b = same_option x y (one_list R clear (values_named name words) (option_to_list x) (option_to_list y) a b)

one_text : IsClear ReadsText
one_text word x y a b = a.0 ∙ sym b.0

one_index : IsClear IsIndexWord
one_index word x y a b = a.1 ∙ sym b.1

one_key : IsClear IsKeyWord
one_key word x y a b = a.0 ∙ sym b.0

one_boundary : IsClear IsBoundaryWord
one_boundary word x y a b = a.1 ∙ sym b.1

listed : {X : Type 0} (R : List ℕ → X → Type 0) → IsClear R → (empty : Bool) (words : List (List ℕ)) (xs ys : List X) → MatchBool empty (xs ≡ []) (AllZip R words xs) → MatchBool empty (ys ≡ []) (AllZip R words ys) → xs ≡ ys
listed R clear true words xs ys a b = a ∙ sym b
listed R clear false words xs ys a b = one_list R clear words xs ys a b

one_keys : IsClear ReadsKeys
one_keys word x y a b = listed IsKeyWord one_key (length word == 0) (slice_split is_comma word) x y a b

one_bounds : IsClear ReadsBoundaries
one_bounds word x y a b = listed IsBoundaryWord one_boundary (length word == 0) (slice_split is_comma word) x y a b

one_histogram : (m n : Bool) (word : List ℕ) (x y : List ℤ) → IsAggregationWord word (ExplicitBucketHistogram x m) → IsAggregationWord word (ExplicitBucketHistogram y n) → ExplicitBucketHistogram x m ≡ ExplicitBucketHistogram y n
one_histogram true true word x y a b =
    let rest : a.0 ≡ b.0 = let e = a.1 in let f = b.1 in cc in
    ap (λ (bounds : List ℤ). ExplicitBucketHistogram bounds true) (one_bounds b.0 x y (subst (λ (w : List ℕ). ReadsBoundaries w x) rest a.2) b.2)
one_histogram false false word x y a b =
    let rest : a.0 ≡ b.0 = let e = a.1 in let f = b.1 in cc in
    ap (λ (bounds : List ℤ). ExplicitBucketHistogram bounds false) (one_bounds b.0 x y (subst (λ (w : List ℕ). ReadsBoundaries w x) rest a.2) b.2)
one_histogram true false word x y a b = let first : ◌≡◌ {A = ℕ} 104 112 = ap (λ (w : List ℕ). get_or w 0 0) (sym a.1 ∙ b.1) in absurd (omega (arith, first))
one_histogram false true word x y a b = let first : ◌≡◌ {A = ℕ} 112 104 = ap (λ (w : List ℕ). get_or w 0 0) (sym a.1 ∙ b.1) in absurd (omega (arith, first))

-- the second letter of an aggregation's name tells which one it is; both kinds of histograms are one here
abbrev letter : List ℕ → ℕ
letter word = if get_or word 1 0 == 108 then 105 else get_or word 1 0

abbrev letter_for : Aggregation → ℕ
letter_for Drop = 114
letter_for Default = 101
letter_for Sum = 117
letter_for LastValue = 97
letter_for (ExplicitBucketHistogram bounds record_min_max) = 105

letter_of : (word : List ℕ) (a : Aggregation) → IsAggregationWord word a → letter word ≡ letter_for a
letter_of word Drop is = ap letter is
letter_of word Default is = ap letter is
letter_of word Sum is = ap letter is
letter_of word LastValue is = ap letter is
letter_of word (ExplicitBucketHistogram bounds true) is = ap letter is.1
letter_of word (ExplicitBucketHistogram bounds false) is = ap letter is.1

by_letter : (word : List ℕ) (x y : Aggregation) → IsAggregationWord word x → IsAggregationWord word y → letter_for x ≡ letter_for y → x ≡ y
by_letter word Drop Drop a b e = refl
by_letter word Default Default a b e = refl
by_letter word Sum Sum a b e = refl
by_letter word LastValue LastValue a b e = refl
by_letter word (ExplicitBucketHistogram x m) (ExplicitBucketHistogram y n) a b e = one_histogram m n word x y a b
by_letter word x y a b e = absurd (omega (arith, e))

one_aggregation : IsClear IsAggregationWord
one_aggregation word x y a b = by_letter word x y a b (sym (letter_of word x a) ∙ letter_of word y b)

pub one_stream : (words : List (List ℕ)) (x y : StreamSpec) → ReadsStream words x → ReadsStream words y → x ≡ y
one_stream words x y a b = λ i. record {
  name = one_option ReadsText one_text (codes "name") words x.name y.name a.1 b.1 i;
  description = one_option ReadsText one_text (codes "description") words x.description y.description a.2 b.2 i;
  unit = one_option ReadsText one_text (codes "unit") words x.unit y.unit a.3 b.3 i;
  limit = one_option IsIndexWord one_index (codes "limit") words x.limit y.limit a.4 b.4 i;
  allow = one_option ReadsKeys one_keys (codes "keys") words x.allow y.allow a.5 b.5 i;
  aggregation = one_option IsAggregationWord one_aggregation (codes "agg") words x.aggregation y.aggregation a.6 b.6 i;
}
