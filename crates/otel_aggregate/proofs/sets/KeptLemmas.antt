-- What an allow-list keeps, one attribute after another.
use Rattle.std.proofs.Common.{arith, ℕ, ◌+◌, ◌-◌, ◌<◌, ◌≤◌, ◌≡◌, ◌∙◌, List, [], ◌∷◌, Bool, cond, None, Some, drop, length, slice_index_or, refl, ap, sym}
use Rattle.std.proofs.lemmas.List.{drop_more}
use Rattle.std.proofs.Math.ListN.{drop_of_length-le}
use Rattle.otel_common.specs.declared.attributes.KeyValue.{KeyValue}
use Rattle.otel_model_stream.specs.Sets.{AllowList, allowed_part}
use Rattle.otel_aggregate.specs.sets.Keys.{is_kept}

pub kept-cons : (allow : AllowList) (x : KeyValue) (xs : List KeyValue) → allowed_part allow (x ∷ xs) ≡ cond (is_kept allow x.key) (x ∷ allowed_part allow xs) (allowed_part allow xs)
kept-cons None x xs = refl
kept-cons (Some allow) x xs = refl

-- what is kept from the i-th attribute on
pub kept-step : (allow : AllowList) (l : List KeyValue) (i : ℕ) (x : KeyValue) (b : Bool) → i < length l → x ≡ slice_index_or l i x → is_kept allow x.key ≡ b
    → allowed_part allow (drop i l) ≡ cond b (x ∷ allowed_part allow (drop (i + 1) l)) (allowed_part allow (drop (i + 1) l))
kept-step allow l i x b within at e =
    ap (allowed_part allow) (drop_more l i x within ∙ ap (λ y. y ∷ drop (i + 1) l) (sym at)) ∙ kept-cons allow x (drop (i + 1) l)
    ∙ ap (λ t. cond t (x ∷ allowed_part allow (drop (i + 1) l)) (allowed_part allow (drop (i + 1) l))) e

-- nothing is left
pub kept-end : (allow : AllowList) (l : List KeyValue) (i : ℕ) → length l ≤ i → allowed_part allow (drop i l) ≡ []
kept-end allow l i h = ap (allowed_part allow) (drop_of_length-le l h) ∙ nothing allow
  where
    nothing : (allow : AllowList) → allowed_part allow [] ≡ []
    nothing None = refl
    nothing (Some allow) = refl

-- what is kept of a list from one attribute earlier on
pub kept-before : (allow : AllowList) (l : List KeyValue) (left : ℕ) (x : KeyValue) (b : Bool) → 0 < left → left ≤ length l → x ≡ slice_index_or l (left - 1) x → is_kept allow x.key ≡ b
    → allowed_part allow (drop (left - 1) l) ≡ cond b (x ∷ allowed_part allow (drop left l)) (allowed_part allow (drop left l))
kept-before allow l left x b some within at e =
    kept-step allow l (left - 1) x b inside at e ∙ ap (λ (n : ℕ). cond b (x ∷ allowed_part allow (drop n l)) (allowed_part allow (drop n l))) again
  where
    again : (left - 1) + 1 ≡ left
    again = omega (arith, some)

    inside : left - 1 < length l
    inside = omega (arith, some, within)

-- ======== lists compared attribute by attribute ========
