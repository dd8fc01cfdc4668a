-- What calls leave of a reader's streams: their identities, and so their number.
use Rattle.std.proofs.Common.{Bool, ◌≡◌, ℕ, zero, suc, List, [], ◌∷◌, ◌++◌, map, filter, length, Option, Some, None, slice_get, refl, sym, ◌∙◌, ap, subst, arith, All}
use Rattle.std.specs.List.{AllByRecursion, IsDistinct}
use Rattle.std.proofs.lemmas.Simd.{map-map}
use Rattle.otel_aggregate.proofs.All.{filter-map}
use Rattle.otel_model.specs.Demands.{Identity, Demand, ReaderAnswers, identity_eq}
use Rattle.opentelemetry_sdk.specs.pipeline.Pipelines.{AreAnswered, AreFedOnce, AreNumbers, IsLawful, Piped, all_without_pending, fates_of, stream_identities, part_by, named_identities, identity_at, is_streamed}
use Rattle.opentelemetry_sdk.specs.pipeline.Streams.{StreamContents, without_pending}
use Rattle.opentelemetry_sdk.proofs.pipeline.Answered.{answer_of, answered-same}
use Rattle.opentelemetry_sdk.proofs.pipeline.Writes.{length-seen}

-- ======== what is read off the demands ========
pub fates-same : (a b : List StreamContents) → map answer_of a ≡ map answer_of b → fates_of a ≡ fates_of b
fates-same a b e = sym (map-map (λ (p : Bool × Demand). p.1) answer_of a) ∙ (ap (map (λ (p : Bool × Demand). p.1)) e ∙ map-map (λ (p : Bool × Demand). p.1) answer_of b)

pub identities-same : (a b : List StreamContents) → fates_of a ≡ fates_of b → stream_identities a ≡ stream_identities b
identities-same a b e = sym (identities-demands a) ∙ (ap (map (λ (d : Demand). d.identity)) e ∙ identities-demands b)
  where
    identities-demands : (ks : List StreamContents) → map (λ (d : Demand). d.identity) (fates_of ks) ≡ stream_identities ks
    identities-demands ks = map-map (λ (d : Demand). d.identity) (λ (h : StreamContents). h.stream.demand) ks

abbrev one_named : Option Demand → List Identity
one_named None = []
one_named (Some d) = d.identity ∷ []

identity_at-demands : (ks : List StreamContents) (n : ℕ) → identity_at ks n ≡ one_named (slice_get (fates_of ks) n)
identity_at-demands [] n = refl
identity_at-demands (k ∷ ks) zero = refl
identity_at-demands (k ∷ ks) (suc n) = identity_at-demands ks n

named-same : (a b : List StreamContents) → fates_of a ≡ fates_of b → (ns : List ℕ) → named_identities a ns ≡ named_identities b ns
named-same a b e [] = refl
named-same a b e (n ∷ ns) = λ i. (identity_at-demands a n ∙ (ap (λ ds. one_named (slice_get ds n)) e ∙ sym (identity_at-demands b n))) i ++ named-same a b e ns i

pub feeds-same : (a b : List StreamContents) → fates_of a ≡ fates_of b → (feeds : List (List ℕ)) → map (named_identities a) feeds ≡ map (named_identities b) feeds
feeds-same a b e feeds = λ i. map (λ ns. named-same a b e ns i) feeds

-- ======== what stays true ========
-- numbers of as many streams
pub numbers-kept : (a b : List StreamContents) (feeds : List (List ℕ)) → length a ≡ length b → All (AreNumbers a) feeds → All (AreNumbers b) feeds
numbers-kept a b feeds e all k d h k' d' h' = let q = all k d h k' d' h' in omega arith

-- the same reader with other streams of the same demands
pub lawful-same : (p : Piped) (ks : List StreamContents) → fates_of ks ≡ fates_of p.streams → IsLawful p → IsLawful (record p { streams = ks })
lawful-same p ks e is = record {
  apart = subst (IsDistinct identity_eq) (sym (identities-same ks p.streams e)) is.apart;
  numbers = numbers-kept p.streams ks p.feeds (length-seen (λ (k : StreamContents). k.stream.demand) (λ (k : StreamContents). k.stream.demand) p.streams ks (sym e)) is.numbers;
  once = is.once;
}

-- what holds of a reader's streams and of their keys
abbrev IsSound : ReaderAnswers → List Identity → List (List ℕ) → List StreamContents → Type 0
IsSound answers keys feeds ks = (keys ≡ stream_identities ks) × All (AreNumbers ks) feeds × AreAnswered answers ks × AllByRecursion AreFedOnce feeds

pub sound-same : (answers : ReaderAnswers) (keys : List Identity) (feeds : List (List ℕ)) (old new : List StreamContents) → map answer_of new ≡ map answer_of old → IsSound answers keys feeds old → IsSound answers keys feeds new
sound-same answers keys feeds old new e sound = (
  sound.0 ∙ sym (identities-same new old (fates-same new old e)),
  numbers-kept old new feeds (length-seen answer_of answer_of old new (sym e)) sound.1,
  answered-same answers new old e sound.2,
  sound.3,
)

-- ======== the model's part ========
part-settled : (answers : ReaderAnswers) (ks : List StreamContents) (feeds : List (List ℕ)) → part_by answers (all_without_pending ks) feeds ≡ part_by answers ks feeds
part-settled answers ks feeds =
    let same : fates_of (all_without_pending ks) ≡ fates_of ks = map-map (λ (h : StreamContents). h.stream.demand) without_pending ks in
    λ i. record { answers = answers; fates = same i; streams = (ap (map (λ (h : StreamContents). h.stream)) (filter-map without_pending is_streamed ks) ∙ map-map (λ (h : StreamContents). h.stream) without_pending (filter is_streamed ks)) i; feeds = feeds-same (all_without_pending ks) ks same feeds i }

pub settled-part : (answers : ReaderAnswers) (a b : List StreamContents) (feeds : List (List ℕ)) → all_without_pending a ≡ all_without_pending b → part_by answers a feeds ≡ part_by answers b feeds
settled-part answers a b feeds e = sym (part-settled answers a feeds) ∙ (ap (λ ks. part_by answers ks feeds) e ∙ part-settled answers b feeds)
