-- The test of identities is equality, whichever stands first.
use Rattle.std.proofs.Common.{◌≡◌, ⊎_elim, ℕ, ◌<◌, Bool, true, ◌&&◌, List, Some, slice_get, position, refl, sym, ◌∙◌, ap, true≢false, eq-eqb, bytes_eq}
use Rattle.std.proofs.lemmas.Bool.{cases_order}
use Rattle.std.proofs.lemmas.Map.Keys.{apart_from_distinct}
use Rattle.std.specs.Bool.{beq, Decides}
use Rattle.std.specs.Cmp.{both_ways}
use Rattle.std.specs.List.{IsDistinct}
use Rattle.otel_common.specs.Scopes.{scope_eq, scope_eq-Decides}
use Rattle.otel_common.specs.declared.scopes.InstrumentationScope.{InstrumentationScope}
use Rattle.otel_model.specs.Calls.{InstrumentKind, kind_eq, kind_number}
use Rattle.std.proofs.lemmas.Option.{get_or_from_slice_get, slice_get_within}
use Rattle.otel_model.specs.Demands.{Identity, identity_eq}
use Rattle.otel_model.proofs.Gather.{kind_eq_true, identity_eq_true, identity_eq_self}
use Rattle.otel_model.proofs.Single.{get_map}
use Rattle.opentelemetry_sdk.specs.pipeline.Pipelines.{identity_of, stream_identities}
use Rattle.opentelemetry_sdk.specs.pipeline.Streams.{StreamContents}

-- the same answer, with the two turned round
flip : {X : Type 0} (eq : X → X → Bool) → ((x y : X) → eq x y ≡ true → x ≡ y) → ((x : X) → eq x x ≡ true) → (x y : X) → eq x y ≡ eq y x
flip eq is self x y = both_ways (eq x y) (eq y x) (λ p. ap (λ z. eq z x) (sym (is x y p)) ∙ self x) (λ q. ap (λ z. eq z y) (sym (is y x q)) ∙ self y)

pub test-flip : (x y : Identity) → identity_eq y x ≡ identity_eq x y
test-flip x y = flip identity_eq identity_eq_true identity_eq_self y x

pub scope-flip : (x y : InstrumentationScope) → scope_eq x y ≡ scope_eq y x
scope-flip x y = flip scope_eq (λ a b. (scope_eq-Decides a b).0) (λ a. (scope_eq-Decides a a).1 refl) x y

-- a test of kinds that decides equality is the one of their numbers, and so of identities
module _ (same : InstrumentKind → InstrumentKind → Bool) (law : (x y : InstrumentKind) → Decides (same x y) (x ≡ y)) where
  kind-same : (a b : InstrumentKind) → same a b ≡ kind_eq a b
  kind-same a b = both_ways (same a b) (kind_eq a b) (λ e. ap (kind_eq a) (sym ((law a b).0 e)) ∙ eq-eqb (kind_number a) (kind_number a) refl) (λ f. (law a b).1 (kind_eq_true a b f))

  abbrev pub test_of : Identity → Identity → Bool
  test_of x y = scope_eq x.scope y.scope && (same x.kind y.kind && (beq x.signed y.signed && (bytes_eq x.description y.description && (bytes_eq x.unit y.unit && bytes_eq x.name y.name))))

  pub position-same : (x : Identity) (xs : List Identity) → position (test_of x) xs ≡ position (identity_eq x) xs
  position-same x xs = λ i. position (λ y. scope_eq x.scope y.scope && (kind-same x.kind y.kind i && (beq x.signed y.signed && (bytes_eq x.description y.description && (bytes_eq x.unit y.unit && bytes_eq x.name y.name))))) xs

not-below : (xs : List Identity) → IsDistinct identity_eq xs → (i j : ℕ) (x y : Identity) → slice_get xs i ≡ Some x → slice_get xs j ≡ Some y → identity_eq x y ≡ true → i < j → ⊥
not-below xs distinct i j x y p q t h =
    true≢false (sym t ∙ (λ k. identity_eq (sym (get_or_from_slice_get xs i x x p) k) (sym (get_or_from_slice_get xs j y x q) k)) ∙ apart_from_distinct identity_eq xs i j x distinct h (slice_get_within xs j y q))

-- no identity stands twice among the streams
abbrev pub AreApart : List StreamContents → Type 0
AreApart ks = (i j : ℕ) (a b : StreamContents) → slice_get ks i ≡ Some a → slice_get ks j ≡ Some b → identity_eq (identity_of a) (identity_of b) ≡ true → i ≡ j

pub are_apart : (ks : List StreamContents) → IsDistinct identity_eq (stream_identities ks) → AreApart ks
are_apart ks distinct i j a b p q t =
    let xs : List Identity = stream_identities ks in
    let at : slice_get xs i ≡ Some (identity_of a) = get_map identity_of ks i a p in
    let also : slice_get xs j ≡ Some (identity_of b) = get_map identity_of ks j b q in
    ⊎_elim (λ e. e)
    (⊎_elim (λ h. absurd (not-below xs distinct i j (identity_of a) (identity_of b) at also t h)) (λ h. absurd (not-below xs distinct j i (identity_of b) (identity_of a) also at (test-flip (identity_of a) (identity_of b) ∙ t) h)))
    (cases_order i j)
