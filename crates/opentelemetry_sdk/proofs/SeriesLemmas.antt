-- Tables of series.
use Rattle.std.proofs.Common.{zero, suc, ◌≡◌, ◌∙◌, ℕ, Bool, false, List, [], ◌∷◌, map, position, slice_get, Option, Some, None, is_some, refl, sym, ap, true≢false, option_map}
use Rattle.std.specs.List.{AllByRecursion}
use Rattle.std.proofs.lemmas.Option.{slice_get-map}
use Rattle.std.specs.Map.{lookup}
use Rattle.indexmap.proofs.MapLemmas.{some_index}
use Rattle.indexmap.specs.Layout.{set_value_at}
use Rattle.otel_model.proofs.Amounts.{each_at}
use Rattle.otel_model.proofs.Single.{get_map, some_is}
use Rattle.opentelemetry_sdk.specs.Lent.{shared_list}
use Rattle.opentelemetry_sdk.specs.Series.{IsListOf}
use Rattle.opentelemetry_sdk.specs.declared.calls.record_attributes.SharedAttributes.{SharedAttributes}
use Rattle.opentelemetry_sdk.specs.declared.metrics.shared.series.Series.{Series}

nothing : {X : Type 0} (o : Option X) → is_some o ≡ false → o ≡ None
nothing None e = refl
nothing (Some x) e = absurd (true≢false e)

-- a key without a place is not in the map
pub absent : {K X : Type 0} (t : K → Bool) (es : List (K × X)) → position t (map (λ e. e.0) es) ≡ None → lookup t es ≡ None
absent t es none = nothing (lookup t es) (sym (some_index t es) ∙ ap is_some none)

-- the series at a place
pub key-at : (es : List (Series × SharedAttributes)) (i : ℕ) (e : Series × SharedAttributes) → Some e ≡ slice_get es i → slice_get (map (λ e. e.0) es) i ≡ Some e.0
key-at es i e at = slice_get-map (λ e. e.0) es i ∙ ap (option_map (λ e. e.0)) (sym at)

-- the list of a series gets another owner
pub lists-kept : (es : List (Series × SharedAttributes)) (i : ℕ) (v w : SharedAttributes) → slice_get (map (λ e. e.1) es) i ≡ Some v → shared_list w ≡ shared_list v → AllByRecursion IsListOf es → AllByRecursion IsListOf (set_value_at es i w)
lists-kept [] i v w at same all = tt
lists-kept (e ∷ es) zero v w at same all =
    let is : v ≡ e.1 = cc in
    (same ∙ ap shared_list is ∙ all.0, all.1)
lists-kept (e ∷ es) (suc i) v w at same all = (all.0, lists-kept es i v w at same all.1)

-- the list at a place is that of its series
pub list-at : (es : List (Series × SharedAttributes)) (i : ℕ) (e : Series × SharedAttributes) (v : SharedAttributes) → Some e ≡ slice_get es i → Some v ≡ slice_get (map (λ e. e.1) es) i → AllByRecursion IsListOf es → shared_list v ≡ e.0.attributes
list-at es i e v at is all = ap shared_list (some_is v e.1 (is ∙ get_map (λ (x : Series × SharedAttributes). x.1) es i e (sym at))) ∙ each_at IsListOf es i e all (sym at)
