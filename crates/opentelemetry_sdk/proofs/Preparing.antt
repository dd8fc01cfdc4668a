-- Records of series that are prepared at all readers: the next one is taken in, and the others stay prepared.
use Rattle.std.proofs.Common.{◌≡◌, ◌∙◌, ℕ, true, List, [], ◌∷◌, drop, map, refl, subst}
use Rattle.std.proofs.lemmas.Bool.{and_parts, cond_both}
use Rattle.std.specs.List.{AllByRecursion as EachOf, list_all}
use Rattle.otel_data.specs.declared.numbers.NumberValue.{NumberValue}
use Rattle.otel_aggregate.specs.Any.{is_signed_value}
use Rattle.otel_aggregate.specs.value_map.Contents.{is_next_placed}
use Rattle.otel_model.specs.Batches.{written_all}
use Rattle.otel_model.specs.Machine.{changed_at}
use Rattle.otel_model.specs.State.{InstrumentState, ReaderPart, State}
use Rattle.otel_model.proofs.Amounts.{each_weaker}
use Rattle.opentelemetry_sdk.specs.Batches.{AreReadyIn, IsKnownGroup, prepared_for}
use Rattle.opentelemetry_sdk.specs.Correspondence.{number_of}
use Rattle.opentelemetry_sdk.specs.Groups.{listed_at, series_at}
use Rattle.opentelemetry_sdk.specs.States.{FeedType}
use Rattle.opentelemetry_sdk.specs.pipeline.Known.{is_known_at}
use Rattle.opentelemetry_sdk.specs.pipeline.Pipelines.{FeedsType, IsLawful, Piped, changed_by, fed_by, part_after_each, part_of}
use Rattle.opentelemetry_sdk.specs.pipeline.Streams.{StreamContents, contents_after_next, without_pending}
use Rattle.opentelemetry_sdk.specs.declared.metrics.shared.series.Series.{Series}
use Rattle.opentelemetry_sdk.proofs.Grouping.{group-made, group-typed, groups-kept, instrument_after_each}
use Rattle.opentelemetry_sdk.proofs.pipeline.PipelineLemmas.{settled-part}
use Rattle.opentelemetry_sdk.proofs.pipeline.Writes.{unseen-each}
use Rattle.opentelemetry_sdk.proofs.pipeline.Prepared.{Knows, lawful-before, next-recorded, part-recorded, recorded_by}

module _ (ss : List Series) where
  -- a reader is lawful if it is so with records prepared
  lawful-each : (gs : List (ℕ × List NumberValue)) (ps : List Piped) → EachOf IsLawful (map (prepared_for ss gs) ps) → EachOf IsLawful ps
  lawful-each gs [] all = tt
  lawful-each gs (p ∷ ps) all = (lawful-before ss gs p all.0, lawful-each gs ps all.1)

  -- all readers know the series of this group
  abbrev AllKnow : List ReaderPart → ℕ × List NumberValue → Type 0
  AllKnow qs h = list_all (is_known_at (series_at ss h.0).instrument (series_at ss h.0).attributes) qs ≡ true

  -- so each of them does
  knows-each : (gs : List (ℕ × List NumberValue)) (ps : List Piped) → EachOf (AllKnow (map part_of ps)) gs → EachOf (λ (p : Piped). EachOf (Knows ss p) gs) ps
  knows-each gs [] known = tt
  knows-each gs (p ∷ ps) known = (
    each_weaker (AllKnow (map part_of (p ∷ ps))) (Knows ss p) gs (λ h e. (and_parts _ _ e).0) known,
    knows-each gs ps (each_weaker (AllKnow (map part_of (p ∷ ps))) (AllKnow (map part_of ps)) gs (λ h e. (and_parts _ _ e).1) known),
  )

  -- the records of the first series are taken in at each reader
  next-each : (g : ℕ × List NumberValue) (gs : List (ℕ × List NumberValue)) (ps : List Piped) → EachOf IsLawful ps → EachOf (λ (p : Piped). EachOf (Knows ss p) (g ∷ gs)) ps
      → map (changed_by (contents_after_next g.1) (series_at ss g.0).instrument) (map (prepared_for ss (g ∷ gs)) ps) ≡ map (prepared_for ss gs) (map (recorded_by (series_at ss g.0) g.1) ps)
  next-each g gs [] lawful knows = refl
  next-each g gs (p ∷ ps) lawful knows = λ i. next-recorded ss g gs p lawful.0 knows.0 i ∷ next-each g gs ps lawful.1 knows.1 i

-- and so its part has them
parts-recorded : (s : Series) (vs : List NumberValue) (ps : List Piped) → EachOf IsLawful ps → EachOf (λ (v : NumberValue). FeedType s.instrument (number_of v) (map part_of ps)) vs
    → map part_of (map (recorded_by s vs) ps) ≡ map (part_after_each s.instrument vs s.attributes) (map part_of ps)
parts-recorded s vs [] lawful typed = refl
parts-recorded s vs (p ∷ ps) lawful typed = λ i.
    part-recorded s vs p lawful.0 (each_weaker (λ (v : NumberValue). FeedType s.instrument (number_of v) (map part_of (p ∷ ps))) (λ (v : NumberValue). FeedsType s.instrument (is_signed_value v) (part_of p)) vs (λ v t. t.0) typed) i
    ∷ parts-recorded s vs ps lawful.1 (each_weaker (λ (v : NumberValue). FeedType s.instrument (number_of v) (map part_of (p ∷ ps))) (λ (v : NumberValue). FeedType s.instrument (number_of v) (map part_of ps)) vs (λ v t. t.1) typed) i

-- once the records of the first series are made, the others are ready
pub ready-next : (ss : List Series) (k : ℕ) (vs : List NumberValue) (gs : List (ℕ × List NumberValue)) (s : Series) → s ≡ series_at ss k → (old new : List Piped) (is more : List InstrumentState)
    → EachOf IsLawful old → new ≡ map (changed_by (contents_after_next vs) s.instrument) old → more ≡ changed_at s.instrument (instrument_after_each vs) is
    → (st : State) → AreReadyIn ss ((k, vs) ∷ gs) st old is → AreReadyIn ss gs (written_all (listed_at ss k) (map number_of vs) st) new more
ready-next ss k vs gs s at old new is more lawful made accepted st ready = record {
  readers = map (recorded_by (series_at ss k) vs) ready.readers;
  prepared = made
      ∙ (λ i. map (changed_by (contents_after_next vs) (at i).instrument) (ready.prepared i))
      ∙ next-each ss (k, vs) gs ready.readers each-lawful (knows-each ss ((k, vs) ∷ gs) ready.readers (subst (λ (qs : List ReaderPart). EachOf (AllKnow ss qs) ((k, vs) ∷ gs)) ready.inside.readers (each_weaker (IsKnownGroup ss st) (AllKnow ss st.readers) ((k, vs) ∷ gs) (λ h is. is.known) ready.known)));
  inside = group-made ss k vs (series_at ss k) refl (map part_of ready.readers) is more (map part_of (map (recorded_by (series_at ss k) vs) ready.readers))
      (λ known. parts-recorded (series_at ss k) vs ready.readers each-lawful typed)
      (subst (λ (s : Series). more ≡ changed_at s.instrument (instrument_after_each vs) is) at accepted)
      st ready.inside ready.known.0;
  known = groups-kept ss (listed_at ss) ((k, map number_of vs) ∷ []) st gs ready.known.1;
}
  where
    each-lawful : EachOf IsLawful ready.readers
    each-lawful = lawful-each ss ((k, vs) ∷ gs) ready.readers (subst (EachOf IsLawful) ready.prepared lawful)

    typed : EachOf (λ (v : NumberValue). FeedType (series_at ss k).instrument (number_of v) (map part_of ready.readers)) vs
    typed = subst (λ (ps : List ReaderPart). EachOf (λ (v : NumberValue). FeedType (series_at ss k).instrument (number_of v) ps) vs) ready.inside.readers
        (group-typed (series_at ss k).instrument vs st ready.inside.sound ready.known.0.taken)

-- ======== records that are given up ========
-- records of no values take what is prepared next out, and change nothing else
idle-one : (k : StreamContents) → without_pending (contents_after_next [] k) ≡ without_pending k
idle-one k = cond_both (is_next_placed k.pending k.stream.machine.table.entries) (record k { pending = drop 1 k.pending }) k (λ (h : StreamContents). without_pending h ≡ without_pending k) (λ _. refl) (λ _. refl)

pub idle-parts : (n : ℕ) (ps : List Piped) → map part_of (map (changed_by (contents_after_next []) n) ps) ≡ map part_of ps
idle-parts n [] = refl
idle-parts n (p ∷ ps) = λ i. settled-part p.answers (changed_by (contents_after_next []) n p).streams p.streams p.feeds (unseen-each without_pending (contents_after_next []) idle-one (fed_by n p) p.streams) i ∷ idle-parts n ps i
