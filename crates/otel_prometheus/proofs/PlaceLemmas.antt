-- Where a label belongs among others.
use Rattle.std.proofs.Common.{◌≡◌, ℕ, zero, suc, ◌<◌, List, [], ◌∷◌, ◌++◌, length, take, drop, slice_set, slice_index_or, refl, sym, ap, ◌∙◌, arith, drop-cons}
use Rattle.std.specs.Cmp.Lexicographic.{slice_cmp}
use Rattle.std.specs.Ordering.{nat_cmp}
use Rattle.std.specs.declared.cmp.Ordering.{Ordering}
use Rattle.std.specs.declared.cmp.Ordering.TheVariants.{Equal}
use Rattle.otel_prometheus.specs.Samples.{Pair, joined}
use Rattle.otel_prometheus.specs.Labels.{placed, with_label}
use Rattle.otel_prometheus.specs.Places.{IsAt}

-- the label belongs behind the first i
abbrev pub Behind : List Pair → List ℕ → ℕ → Type 0
Behind ls n i = (v : List ℕ) → with_label ls (n, v) ≡ take i ls ++ with_label (drop i ls) (n, v)

set_at : (ls : List Pair) (i : ℕ) (y : Pair) → i < length ls → slice_set ls i y ≡ take i ls ++ y ∷ drop (suc i) ls
set_at [] i y h = absurd (omega (arith, h))
set_at (l ∷ ls) zero y h = refl
set_at (l ∷ ls) (suc i) y h = ap (λ t. l ∷ t) (set_at ls i y (omega (arith, h)))

-- the first label that is left
opened : (ls : List Pair) (n v : List ℕ) (i : ℕ) (l d : Pair) (o : Ordering) → i < length ls → l ≡ slice_index_or ls i d → slice_cmp nat_cmp n l.0 ≡ o
    → with_label (drop i ls) (n, v) ≡ placed o (n, v) l (drop (suc i) ls) (with_label (drop (suc i) ls) (n, v))
opened ls n v i l d o h e f =
    ap (λ t. with_label t (n, v)) (drop-cons ls i d h)
    ∙ (ap (λ x. with_label (x ∷ drop (suc i) ls) (n, v)) (sym e)
    ∙ ap (λ t. placed t (n, v) l (drop (suc i) ls) (with_label (drop (suc i) ls) (n, v))) f)

-- at a place that there is no default counts
any_default : (ls : List Pair) (i : ℕ) (d e : Pair) → i < length ls → slice_index_or ls i d ≡ slice_index_or ls i e
any_default [] i d e h = absurd (omega (arith, h))
any_default (l ∷ ls) zero d e h = refl
any_default (l ∷ ls) (suc i) d e h = any_default ls i d e (omega (arith, h))

pub at_place : (ls : List Pair) (n : List ℕ) (i : ℕ) (l : Pair) → Behind ls n i → i < length ls → l ≡ slice_index_or ls i l → slice_cmp nat_cmp n l.0 ≡ Equal → IsAt ls n i
at_place ls n i l b h e f = record {
  within = h;
  more = λ v d.
      b v
      ∙ (ap (λ t. take i ls ++ t) (opened ls n v i l l Equal h e f)
      ∙ (ap (λ x. take i ls ++ joined x v ∷ drop (suc i) ls) (e ∙ any_default ls i l d h)
      ∙ sym (set_at ls i (joined (slice_index_or ls i d) v) h)));
}
