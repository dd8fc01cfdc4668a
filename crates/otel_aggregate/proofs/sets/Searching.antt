-- What a binary search in keys that are in byte order finds.
use Rattle.std.proofs.Common.{arith, ◌≡◌, ◌∙◌, ℕ, ◌<◌, nat_lt, Bool, true, false, true≢false, List, length, slice_index_or, Result, Ok, Err, is_ok, ap, sym, refl}
use Rattle.std.specs.declared.cmp.Ordering.TheVariants.{Equal}
use Rattle.std.specs.Ordering.{is_eq}
use Rattle.std.specs.List.{list_any}
use Rattle.std.specs.List.Sorted.{IsSorted, IsSearchInRange, IsBinarySearchResult}
use Rattle.std.specs.Cmp.{tied_itself}
use Rattle.std.specs.Cmp.Lexicographic.{nat_list_cmp_total, bytes_decides}
use Rattle.std.proofs.lemmas.Bool.Decides.{nat_tests}
use Rattle.std.proofs.lemmas.List.Folds.{list_any_at, list_any_none}
use Rattle.std.proofs.lemmas.List.Sorted.{searchable_from_sorted}
use Rattle.otel_common.specs.Canonical.{key_cmp}
use Rattle.otel_common.specs.Equality.{bytes_eq}
use Rattle.otel_common.proofs.CanonLaws.{key_cmp-IsAntisymmetric}

module _ (key : List ℕ) where
  same : (x : List ℕ) → key_cmp x key ≡ Equal → bytes_eq key x ≡ true
  same x tied = (bytes_decides key x).1 (sym (key_cmp-IsAntisymmetric x key tied))

  other : (x : List ℕ) → is_eq (key_cmp x key) ≡ false → (b : Bool) → bytes_eq key x ≡ b → b ≡ false
  other x untied true e = absurd (true≢false (sym (ap is_eq (tied_itself nat_list_cmp_total x)) ∙ ap (λ (y : List ℕ). is_eq (key_cmp x y)) (sym ((bytes_decides key x).0 e)) ∙ untied))
  other x untied false e = refl

  -- a key is found exactly if it is one of them
  pub searched : (keys : List (List ℕ)) (r : Result ℕ ℕ) → IsSorted key_cmp keys → IsSearchInRange r (length keys) → IsBinarySearchResult (λ x. key_cmp x key) keys r → is_ok r ≡ list_any (bytes_eq key) keys
  searched keys (Ok at) up within found = sym (list_any_at (bytes_eq key) keys at key within (same (slice_index_or keys at key) (found key)))
  searched keys (Err at) up within parted = sym (list_any_none (bytes_eq key) keys (λ k d inside. other (slice_index_or keys k d) (untied k d inside (nat_lt k at) refl) _ refl))
    where
      untied : (k : ℕ) (d : List ℕ) → k < length keys → (b : Bool) → nat_lt k at ≡ b → is_eq (key_cmp (slice_index_or keys k d) key) ≡ false
      untied k d inside true e = ap is_eq ((parted (searchable_from_sorted nat_list_cmp_total (λ x. x) keys key up)).0 k d (omega arith) (grind (arith, nat_tests, e)))
      untied k d inside false e = ap is_eq ((parted (searchable_from_sorted nat_list_cmp_total (λ x. x) keys key up)).1 k d (grind (arith, nat_tests, e)) inside)
