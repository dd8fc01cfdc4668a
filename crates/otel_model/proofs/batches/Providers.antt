-- Places and writes in all streams of all readers, and at the instruments.
use Rattle.std.proofs.Common.{◌≡◌, ℕ, zero, suc, ◌+◌, List, [], ◌∷◌, map, Option, Some, None, refl, sym, ap, ◌∙◌, subst}
use Rattle.std.specs.List.{AllByRecursion as EachOf}
use Rattle.otel_model_stream.specs.Folds.{Amount, wrap}
use Rattle.otel_model.specs.Calls.{Number}
use Rattle.otel_model.specs.Demands.{Identity, Views}
use Rattle.otel_model.specs.State.{InstrumentState, Stream, ReaderPart, State}
use Rattle.otel_model.specs.Machine.{changed_at, instrument_after_record, accepted_by, stream_after, part_after_call, accepted_after}
use Rattle.otel_model.specs.Batches.{firsts_of, values_each}
use Rattle.otel_model.specs.Places.{Series, Listed, Held, call_at, instrument_at, stream_placed, entry_at, stream_written, each_stream, placed_in, written_in, IsPlaced, HasPlaces, SeriesStayPlaced}
use Rattle.otel_model.proofs.Amounts.{each_map}
use Rattle.otel_model.proofs.Gather.{map_both}
use Rattle.otel_model.proofs.batches.Grouping.{places, records, grouped, grouped_law, places_law}
use Rattle.otel_model.proofs.batches.Writes.{wrap_twice}
use Rattle.otel_model.proofs.batches.Streams.{IsHeldThere, placed_once, placed_stays, placed_rests, placed_written, held_placed, held_written, stream_apart, stream_blurred, stream_cleared, stream_blurred_twice, stream_swapped, record_is}

-- ======== each stream ========
-- a change of each stream of one reader
abbrev Change : Type 0
Change = List (List Identity) → Stream → Stream

abbrev changed : Change → ReaderPart → ReaderPart
changed f p = record p { streams = map (f p.feeds) p.streams }

-- a statement about each stream
abbrev pub OfStreams : (List (List Identity) → Stream → Type 0) → List ReaderPart → Type 0
OfStreams P ps = EachOf (λ (p : ReaderPart). EachOf (P p.feeds) p.streams) ps

twice : (f g h : Change) → ((feeds : List (List Identity)) (q : Stream) → f feeds (g feeds q) ≡ h feeds q) → (ps : List ReaderPart) → each_stream f (each_stream g ps) ≡ each_stream h ps
twice f g h e ps = map_both (changed f) (changed g) (changed h) ps (λ p i. record p { streams = map_both (f p.feeds) (g p.feeds) (h p.feeds) p.streams (e p.feeds) i })

thrice : (f g h k : Change) → ((feeds : List (List Identity)) (q : Stream) → f feeds (g feeds (h feeds q)) ≡ k feeds q)
    → (ps : List ReaderPart) → each_stream f (each_stream g (each_stream h ps)) ≡ each_stream k ps
thrice f g h k e ps = ap (each_stream f) (twice g h (λ feeds q. g feeds (h feeds q)) (λ feeds q. refl) ps) ∙ twice f (λ feeds q. g feeds (h feeds q)) k e ps

map_where : {X : Type 0} (P Q : X → Type 0) (f g : X → X) → ((x : X) → P x → Q x → f x ≡ g x) → (xs : List X) → EachOf P xs → EachOf Q xs → map f xs ≡ map g xs
map_where P Q f g e [] h k = refl
map_where P Q f g e (x ∷ xs) h k = λ i. e x h.0 k.0 i ∷ map_where P Q f g e xs h.1 k.1 i

streams_where : (P Q : List (List Identity) → Stream → Type 0) (f g : Change) → ((feeds : List (List Identity)) (q : Stream) → P feeds q → Q feeds q → f feeds q ≡ g feeds q)
    → (ps : List ReaderPart) → OfStreams P ps → OfStreams Q ps → each_stream f ps ≡ each_stream g ps
streams_where P Q f g e ps h k = map_where (λ (p : ReaderPart). EachOf (P p.feeds) p.streams) (λ (p : ReaderPart). EachOf (Q p.feeds) p.streams) (changed f) (changed g)
    (λ p a b i. record p { streams = map_where (P p.feeds) (Q p.feeds) (f p.feeds) (g p.feeds) (e p.feeds) p.streams a b i }) ps h k

pub map_rests : {X : Type 0} (P : X → Type 0) (f : X → X) → ((x : X) → P x → f x ≡ x) → (xs : List X) → EachOf P xs → map f xs ≡ xs
map_rests P f e [] h = refl
map_rests P f e (x ∷ xs) h = λ i. e x h.0 i ∷ map_rests P f e xs h.1 i

streams_keep : (P Q : List (List Identity) → Stream → Type 0) (f : Change) → ((feeds : List (List Identity)) (q : Stream) → P feeds q → Q feeds (f feeds q))
    → (ps : List ReaderPart) → OfStreams P ps → OfStreams Q (each_stream f ps)
streams_keep P Q f e ps h = each_map (λ (p : ReaderPart). EachOf (P p.feeds) p.streams) (λ (p : ReaderPart). EachOf (Q p.feeds) p.streams) (changed f) ps
    (λ p k. each_map (P p.feeds) (Q p.feeds) (f p.feeds) p.streams (e p.feeds) k) h

pub each_any : {X : Type 0} (xs : List X) → EachOf (λ x. Unit {0}) xs
each_any [] = tt
each_any (x ∷ xs) = (tt, each_any xs)

-- ======== having places ========
once : (s : Series) (st : State) → HasPlaces s (placed_in s st)
once s st = each_map (λ p. Unit {0}) (λ (p : ReaderPart). EachOf (IsPlaced p.feeds s) p.streams) (changed (λ feeds. stream_placed feeds s)) st.readers
    (λ p a. each_map (λ q. Unit {0}) (IsPlaced p.feeds s) (stream_placed p.feeds s) p.streams (λ q b. placed_once p.feeds s q) (each_any p.streams)) (each_any st.readers)

stays : (s t : Series) (st : State) → HasPlaces s st → HasPlaces s (placed_in t st)
stays s t st h = streams_keep (λ feeds. IsPlaced feeds s) (λ feeds. IsPlaced feeds s) (λ feeds. stream_placed feeds t) (λ feeds q k. placed_stays feeds s t q k) st.readers h

pub stays_written : (s t : Series) (w : Number) (st : State) → HasPlaces s st → HasPlaces s (written_in t w st)
stays_written s t w st h = streams_keep (λ feeds. IsPlaced feeds s) (λ feeds. IsPlaced feeds s) (λ feeds. stream_written feeds t w)
    (λ feeds q k. placed_written feeds s (entry_at feeds t q) w.amount q k) st.readers h

pub rests : (s : Series) (st : State) → HasPlaces s st → placed_in s st ≡ st
rests s st h = λ i. record st {
  readers = map_rests (λ (p : ReaderPart). EachOf (IsPlaced p.feeds s) p.streams) (changed (λ feeds. stream_placed feeds s))
      (λ p k j. record p { streams = map_rests (IsPlaced p.feeds s) (stream_placed p.feeds s) (placed_rests p.feeds s) p.streams k j }) st.readers h i;
}

-- the entries of all live handles are there
abbrev pub AreHeldThere : State → Type 0
AreHeldThere st = OfStreams (λ feeds. IsHeldThere) st.readers

there_placed : (s : Series) (st : State) → AreHeldThere st → AreHeldThere (placed_in s st)
there_placed s st h = streams_keep (λ feeds. IsHeldThere) (λ feeds. IsHeldThere) (λ feeds. stream_placed feeds s) (λ feeds q k. held_placed feeds s q k) st.readers h

there_written : (s : Series) (v : Number) (st : State) → AreHeldThere st → AreHeldThere (written_in s v st)
there_written s v st h = streams_keep (λ feeds. IsHeldThere) (λ feeds. IsHeldThere) (λ feeds. stream_written feeds s v) (λ feeds q k. held_written feeds (entry_at feeds s q) v.amount q k) st.readers h

-- a place and a write, in either order
apart : (s t : Series) (w : Number) (st : State) → HasPlaces t st → AreHeldThere st → placed_in s (written_in t w st) ≡ written_in t w (placed_in s st)
apart s t w st h there = λ i. record (written_in t w st) {
  readers = (twice P W (λ feeds q. P feeds (W feeds q)) (λ feeds q. refl) st.readers
      ∙ (streams_where (λ feeds. IsPlaced feeds t) (λ feeds. IsHeldThere) (λ feeds q. P feeds (W feeds q)) (λ feeds q. W feeds (P feeds q)) (λ feeds. stream_apart feeds s t w) st.readers h there
      ∙ sym (twice W P (λ feeds q. W feeds (P feeds q)) (λ feeds q. refl) st.readers))) i;
}
  where
    P : Change
    P feeds q = stream_placed feeds s q

    W : Change
    W feeds q = stream_written feeds t w q

-- ======== two writes ========
changed_twice : {X : Type 0} (n m : ℕ) (f g : X → X) (xs : List X) → ((x : X) → f (g x) ≡ g (f x)) → changed_at m f (changed_at n g xs) ≡ changed_at n g (changed_at m f xs)
changed_twice n m f g [] e = refl
changed_twice zero zero f g (x ∷ xs) e = λ i. e x i ∷ xs
changed_twice zero (suc m) f g (x ∷ xs) e = refl
changed_twice (suc n) zero f g (x ∷ xs) e = refl
changed_twice (suc n) (suc m) f g (x ∷ xs) e = ap (λ l. x ∷ l) (changed_twice n m f g xs e)

accepted_twice : (o p : Option ℕ) (u w : Amount) (is : List InstrumentState) → accepted_by p w (accepted_by o u is) ≡ accepted_by o u (accepted_by p w is)
accepted_twice None p u w is = refl
accepted_twice (Some n) None u w is = refl
accepted_twice (Some n) (Some m) u w is = changed_twice n m (instrument_after_record w) (instrument_after_record u) is
    (λ i j. record i { count = wrap (wrap (i.count + 1) + 1); sum = wrap_twice i.sum u.bits w.bits j })

-- the provider without what the next write of the series does away with
abbrev blurred_in : Series → State → State
blurred_in s st = record st { readers = each_stream (λ feeds. stream_blurred feeds s) st.readers }

cleared : (s : Series) (v : Number) (st : State) → written_in s v (blurred_in s st) ≡ written_in s v st
cleared s v st = λ i. record (written_in s v st) {
  readers = twice (λ feeds. stream_written feeds s v) (λ feeds. stream_blurred feeds s) (λ feeds. stream_written feeds s v) (λ feeds q. stream_cleared feeds s v q) st.readers i;
}

blurred : (s t : Series) (w : Number) (st : State) → blurred_in s (written_in t w (blurred_in s st)) ≡ blurred_in s (written_in t w st)
blurred s t w st = λ i. record (written_in t w st) {
  readers = (thrice B W B (λ feeds q. B feeds (W feeds q)) (λ feeds. stream_blurred_twice feeds s t w) st.readers
      ∙ sym (twice B W (λ feeds q. B feeds (W feeds q)) (λ feeds q. refl) st.readers)) i;
}
  where
    B : Change
    B feeds q = stream_blurred feeds s q

    W : Change
    W feeds q = stream_written feeds t w q

swapped : (s t : Series) (u w : Number) (st : State) → blurred_in s (written_in t w (written_in s u st)) ≡ blurred_in s (written_in s u (written_in t w st))
swapped s t u w st = λ i. record st {
  shared = record st.shared { instruments = accepted_twice (instrument_at s st.shared.live) (instrument_at t st.shared.live) u.amount w.amount st.shared.instruments i };
  readers = (thrice B W U (λ feeds q. B feeds (U feeds (W feeds q))) (λ feeds. stream_swapped feeds s t u w) st.readers
      ∙ sym (thrice B U W (λ feeds q. B feeds (U feeds (W feeds q))) (λ feeds q. refl) st.readers)) i;
}
  where
    B : Change
    B feeds q = stream_blurred feeds s q

    U : Change
    U feeds q = stream_written feeds s u q

    W : Change
    W feeds q = stream_written feeds t w q

-- ======== batches ========
module _ (series : ℕ → Series) where
  abbrev pub placing : ℕ → State → State
  placing n st = placed_in (series n) st

  abbrev pub writing : ℕ → Number → State → State
  writing n v st = written_in (series n) v st

  pub batch_law : (rs : List (ℕ × Number)) (st : State) → AreHeldThere st → records placing writing rs st ≡ grouped writing (values_each rs) (places placing (firsts_of rs) st)
  batch_law rs st there =
      places_law placing writing AreHeldThere (λ n st. HasPlaces (series n) st × AreHeldThere st) (λ n. there_placed (series n)) (λ n. there_written (series n))
      (λ n st h. (once (series n) st, there_placed (series n) st h)) (λ n st h. rests (series n) st h.0) (λ n m st h. (stays (series n) (series m) st h.0, there_placed (series m) st h.1))
      (λ n m w st h. apart (series n) (series m) w st h.0 h.1) rs st there
      ∙ grouped_law writing (λ n. blurred_in (series n)) (λ n. cleared (series n)) (λ n m. blurred (series n) (series m)) (λ n m. swapped (series n) (series m)) rs (places placing (firsts_of rs) st)

-- ======== the machine ========
-- a record that is accepted is a place and a write
pub accepted_is : (views : Views) (st : State) (s : Series) (v : Number) → accepted_after views st (call_at s v) ≡ written_in s v (placed_in s st)
accepted_is views st s v = go s
  where
    parts : (s : Series) → map (part_after_call st.shared.next (call_at s v)) st.readers ≡ each_stream (λ feeds. stream_written feeds s v) (each_stream (λ feeds. stream_placed feeds s) st.readers)
    parts s = sym (map_both (changed (λ feeds. stream_written feeds s v)) (changed (λ feeds. stream_placed feeds s)) (part_after_call st.shared.next (call_at s v)) st.readers
        (λ p i. record p {
          streams = map_both (stream_written p.feeds s v) (stream_placed p.feeds s) (stream_after p.answers p.feeds st.shared.next (call_at s v)) p.streams (λ q. sym (record_is p.feeds p.answers st.shared.next s v q)) i;
        }))

    go : (s : Series) → accepted_after views st (call_at s v) ≡ written_in s v (placed_in s st)
    go (Listed n l) = λ i. record { shared = (written_in (Listed n l) v st).shared; readers = parts (Listed n l) i }
    go (Held h) = λ i. record { shared = (written_in (Held h) v st).shared; readers = parts (Held h) i }

pub placed_law : SeriesStayPlaced
placed_law views st s t v w = record {
  once = subst (HasPlaces s) (sym (accepted_is views st s v)) (stays_written s s v (placed_in s st) (once s st));
  stays = λ h. subst (HasPlaces s) (sym (accepted_is views st t w)) (stays_written s t w (placed_in t st) (stays s t st h));
  rests = λ h. accepted_is views st s v ∙ ap (written_in s v) (rests s st h);
}
