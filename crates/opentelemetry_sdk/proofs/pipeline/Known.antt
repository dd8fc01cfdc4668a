-- What the streams of these numbers know, by their identities.
use Rattle.std.proofs.Common.{◌≡◌, ℕ, suc, ◌<◌, Bool, true, ◌&&◌, ◌||◌, List, [], ◌∷◌, ◌++◌, map, filter, length, get_or, Option, None, Some, option_map, slice_get, refl, sym, ◌∙◌, ap, subst, All}
use Rattle.std.proofs.Math.Bool.{and-false}
use Rattle.std.specs.List.{list_all, list_any, AllByRecursion as EachOf}
use Rattle.std.specs.Cmp.{both_ways}
use Rattle.std.proofs.lemmas.Bool.{and_parts, cond_both}
use Rattle.std.proofs.lemmas.List.Folds.{Any-from_list_any}
use Rattle.std.proofs.lemmas.List.Sums.{AllPass-from_list_all}
use Rattle.std.proofs.lemmas.Map.Keys.{any_passes_from_place}
use Rattle.std.proofs.lemmas.Option.{slice_get-map, slice_get_read}
use Rattle.otel_common.specs.declared.attributes.KeyValue.{KeyValue}
use Rattle.otel_model_stream.specs.Totals.{has_number}
use Rattle.otel_model.specs.Calls.{or_else}
use Rattle.otel_model.specs.Demands.{Identity, identity_eq}
use Rattle.otel_model.specs.Places.{Listed, IsPlaced}
use Rattle.otel_model.specs.State.{Stream}
use Rattle.otel_model.proofs.Gather.{identity_eq_self}
use Rattle.otel_model.proofs.Single.{some_is}
use Rattle.opentelemetry_sdk.specs.pipeline.Known.{is_known_to, is_known_by, is_known_at, are_known, knows, IsKnownIfThere}
use Rattle.opentelemetry_sdk.specs.pipeline.Pipelines.{IsLawful, Piped, all_without_pending, fed_by, identity_of, is_streamed, model_streams, named_identities, part_of}
use Rattle.opentelemetry_sdk.specs.pipeline.Streams.{StreamContents, without_pending}
use Rattle.opentelemetry_sdk.proofs.pipeline.Identities.{AreApart, are_apart}
use Rattle.opentelemetry_sdk.proofs.pipeline.Records.{HaveStreams, fed-at, fed-named, fed-numbers, identity_at-is, numbers-named, there-at}

-- ======== what streams know, by their numbers ========
module _ (l : List KeyValue) where
  -- what is read of a stream that knows as much as it did
  pub knows-at : (old new : List StreamContents) (n : ℕ) (x : StreamContents) → map (knows l) new ≡ map (knows l) old → n < length new → x ≡ get_or new n x → or_else (option_map (knows l) (slice_get old n)) true ≡ knows l x
  knows-at old new n x same inside at =
      ap (λ o. or_else o true) (sym (slice_get-map (knows l) old n) ∙ ap (λ bs. slice_get bs n) (sym same) ∙ slice_get-map (knows l) new n)
      ∙ ap (λ o. or_else (option_map (knows l) o) true) (slice_get_read new (length new) n x refl inside at)

  -- what streams know by an identity, whether they drop or not
  abbrev knows_as : Identity → StreamContents → Bool
  knows_as x k = identity_eq (identity_of k) x && knows l k

  any-known : (x : Identity) (ks : List StreamContents) → is_known_by l (model_streams ks) x ≡ list_any (knows_as x) ks
  any-known x [] = refl
  any-known x (k ∷ ks) = cond_both (is_streamed k) (k ∷ filter is_streamed ks) (filter is_streamed ks) (λ (hs : List StreamContents). is_known_by l (map (λ (h : StreamContents). h.stream) hs) x ≡ list_any (knows_as x) (k ∷ ks))
      (λ t i. (identity_eq (identity_of k) x && (sym t i && is_known_to l k.stream)) || any-known x ks i)
      (λ f. any-known x ks ∙ ap (λ b. b || list_any (knows_as x) ks) (sym (and-false (identity_eq (identity_of k) x))) ∙ λ i. (identity_eq (identity_of k) x && (sym f i && is_known_to l k.stream)) || list_any (knows_as x) ks)

  -- where identities are apart that is what the stream of this number knows
  module _ (ks : List StreamContents) (apart : AreApart ks) where
    known-by : (n : ℕ) (m : StreamContents) → slice_get ks n ≡ Some m → is_known_by l (model_streams ks) (identity_of m) ≡ knows l m
    known-by n m at = any-known (identity_of m) ks ∙ both_ways (list_any (knows_as (identity_of m)) ks) (knows l m)
        (λ e.
        let some = Any-from_list_any (knows_as (identity_of m)) ks e in
        let there : slice_get ks some.0 ≡ Some some.1 = slice_get_read ks (length ks) some.0 some.1 refl some.2 (sym some.3) in
        let parts = and_parts (identity_eq (identity_of some.1) (identity_of m)) (knows l some.1) some.4 in
        subst (λ (k : StreamContents). knows l k ≡ true) (some_is some.1 m (sym there ∙ ap (slice_get ks) (apart some.0 n some.1 m there at parts.0) ∙ at)) parts.1)
        (λ e. any_passes_from_place (knows_as (identity_of m)) ks n m at (λ i. identity_eq_self (identity_of m) i && e i))

    known-named : (ns : List ℕ) → HaveStreams ns ks → list_all (is_known_by l (model_streams ks)) (named_identities ks ns) ≡ are_known l ks ns
    known-named [] all = refl
    known-named (n ∷ ns) all =
        ap (λ xs. list_all (is_known_by l (model_streams ks)) (xs ++ named_identities ks ns)) (identity_at-is ks n all.0.0 all.0.1)
        ∙ λ i. (known-by n all.0.0 all.0.1 ∙ sym (ap (λ o. or_else (option_map (knows l) o) true) all.0.1)) i && known-named ns all.1 i

  -- what an instrument feeds knows them by its numbers exactly if it does by its identities
  pub known-fed : (p : Piped) → IsLawful p → (n : ℕ) → is_known_at n l (part_of p) ≡ are_known l p.streams (fed_by n p)
  known-fed p lawful n =
      ap (list_all (is_known_by l (model_streams p.streams))) (fed-named p.streams p.feeds n)
      ∙ known-named p.streams (are_apart p.streams lawful.apart) (fed_by n p) (numbers-named p.streams (fed_by n p) (fed-numbers p.streams p.feeds n lawful.numbers))

  fed-there : (p : Piped) → IsLawful p → (n : ℕ) → is_known_at n l (part_of p) ≡ true → All (λ m. or_else (option_map (knows l) (slice_get p.streams m)) true ≡ true) (fed_by n p)
  fed-there p lawful n known = AllPass-from_list_all (λ m. or_else (option_map (knows l) (slice_get p.streams m)) true) (fed_by n p) (sym (known-fed p lawful n) ∙ known)

  -- the streams that it feeds know them then
  pub fed-known : (p : Piped) → IsLawful p → (n : ℕ) → is_known_at n l (part_of p) ≡ true → (j : ℕ) (k : StreamContents) → slice_get p.streams j ≡ Some k → has_number j (fed_by n p) ≡ true → is_known_to l k.stream ≡ true
  fed-known p lawful n known j k at h = (and_parts (is_streamed k) (is_known_to l k.stream) (there-at (λ o. or_else (option_map (knows l) o) true ≡ true) p.streams (fed_by n p) (fed-there p lawful n known) j k at h)).1

  pub known-at : (p : Piped) → IsLawful p → (n : ℕ) → is_known_at n l (part_of p) ≡ true → All (λ k. IsKnownIfThere l (slice_get (all_without_pending p.streams) k)) (fed_by n p)
  known-at p lawful n known = λ i d h. subst (IsKnownIfThere l) (sym (slice_get-map without_pending p.streams (get_or (fed_by n p) i d))) (by (slice_get p.streams (get_or (fed_by n p) i d)) (fed-there p lawful n known i d h))
    where
      by : (o : Option StreamContents) → or_else (option_map (knows l) o) true ≡ true → IsKnownIfThere l (option_map without_pending o)
      by None e = tt
      by (Some k) e = (and_parts (is_streamed k) (is_known_to l k.stream) e).1

  each-streamed : (P : Stream → Type 0) (ks : List StreamContents) → ((i : ℕ) (k : StreamContents) → slice_get ks i ≡ Some k → P k.stream) → EachOf P (model_streams ks)
  each-streamed P [] all = tt
  each-streamed P (k ∷ ks) all =
      let rest : EachOf P (model_streams ks) = each-streamed P ks (λ i m at. all (suc i) m at) in
      cond_both (is_streamed k) (k ∷ filter is_streamed ks) (filter is_streamed ks) (λ (hs : List StreamContents). EachOf P (map (λ (h : StreamContents). h.stream) hs)) (λ _. (all 0 k refl, rest)) (λ _. rest)

  -- and then each of its streams has a place for them
  pub placed-fed : (p : Piped) → IsLawful p → (n : ℕ) → is_known_at n l (part_of p) ≡ true → EachOf (IsPlaced (part_of p).feeds (Listed n l)) (part_of p).streams
  placed-fed p lawful n known = each-streamed (IsPlaced (part_of p).feeds (Listed n l)) p.streams (λ i k at fed. fed-known p lawful n known i k at (sym (fed-at p lawful n i k at) ∙ fed))
