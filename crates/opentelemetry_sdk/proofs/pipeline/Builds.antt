-- Which of a reader's streams an identity has.
use Rattle.std.proofs.Common.{◌≡◌, ℕ, zero, suc, ◌+◌, Bool, true, false, cond, not, ◌||◌, List, [], ◌∷◌, length, get_or, Some, None, slice_get, refl, sym, ◌∙◌, ap, arith, option_map, is_some, nat_lt, position}
use Rattle.std.specs.List.{list_any, position_or_len, IsDistinct}
use Rattle.std.proofs.lemmas.Bool.Decides.{nat_tests}
use Rattle.std.proofs.lemmas.List.Quantifiers.{position-Some}
use Rattle.std.proofs.lemmas.List.Sums.{position_or_len_is}
use Rattle.std.proofs.lemmas.Option.{slice_get-get_or, slice_get-map}
use Rattle.otel_model.specs.Demands as model
use Rattle.otel_model.specs.Demands.{Identity, identity_eq}
use Rattle.otel_model.proofs.Amounts.{each_at}
use Rattle.otel_model.proofs.Gather.{identity_eq_true, identity_eq_self}
use Rattle.otel_model.proofs.Single.{some_is}
use Rattle.opentelemetry_sdk.specs.pipeline.Pipelines.{identity_of, fates_of, stream_identities, stream_number}
use Rattle.opentelemetry_sdk.specs.pipeline.Streams.{StreamContents}
use Rattle.opentelemetry_sdk.proofs.pipeline.Identities.{test-flip}

-- ======== the place of the first that passes ========
-- what isn't found isn't there
pub any-position : {X : Type 0} (p : X → Bool) (xs : List X) → is_some (position p xs) ≡ list_any p xs
any-position p [] = refl
any-position p (x ∷ xs) = by (p x) (any-position p xs)
  where
    by : (b : Bool) → is_some (position p xs) ≡ list_any p xs
        → is_some (cond (nat_lt (cond (not b) (1 + position_or_len p xs) 0) (suc (length xs))) (Some (cond (not b) (1 + position_or_len p xs) 0)) None) ≡ (b || list_any p xs)
    by true rest = grind (arith, nat_tests, rest)
    by false rest = grind (arith, nat_tests, rest)

-- what is found passes
pub position-at : {X : Type 0} (p : X → Bool) (xs : List X) (n : ℕ) (d : X) → position p xs ≡ Some n → (n ≡ position_or_len p xs) × (slice_get xs n ≡ Some (get_or xs n d)) × (p (get_or xs n d) ≡ true)
position-at p xs n d e =
    let first = position-Some p xs n d e in
    (sym (position_or_len_is p xs n d (omega (arith, first.0)) first.2 (λ _. first.1)), slice_get-get_or xs n d first.0, first.1)

-- ======== what is known ========
pub known : (x : Identity) (ks : List StreamContents) → model.is_known (fates_of ks) x ≡ is_some (stream_number x (stream_identities ks))
known x ks = flipped ks ∙ sym (any-position (identity_eq x) (stream_identities ks))
  where
    flipped : (ks : List StreamContents) → model.is_known (fates_of ks) x ≡ list_any (identity_eq x) (stream_identities ks)
    flipped [] = refl
    flipped (k ∷ ks) = λ i. test-flip x (identity_of k) i || flipped ks i

pub found : (x : Identity) (ks : List StreamContents) (n : ℕ) → stream_number x (stream_identities ks) ≡ Some n → slice_get (stream_identities ks) n ≡ Some x
found x ks n e =
    let at = position-at (identity_eq x) (stream_identities ks) n x e in
    at.1 ∙ ap (λ y. Some y) (sym (identity_eq_true x (get_or (stream_identities ks) n x) at.2))

-- the demand of a stream decides whether its identity drops
pub fate-at : (ks : List StreamContents) (n : ℕ) (k : StreamContents) → IsDistinct identity_eq (stream_identities ks) → slice_get ks n ≡ Some k → model.is_dropped (fates_of ks) (identity_of k) ≡ model.is_drop k.stream.demand.aggregation
unfolding IsDistinct
fate-at [] n k apart at = absurd (cc)
fate-at (x ∷ ks) zero k apart at = rw (← some_is x k at, identity_eq_self (identity_of x)) refl
fate-at (x ∷ ks) (suc n) k apart at =
    rw (each_at (λ y. identity_eq (identity_of x) y ≡ false) (stream_identities ks) n (identity_of k) apart.0 (slice_get-map identity_of ks n ∙ ap (option_map identity_of) at)) (fate-at ks n k apart.1 at)
