-- Places and writes in one stream.
use Rattle.std.proofs.Common.{◌≡◌, ℕ, ◌+◌, List, [], ◌∷◌, Bool, true, false, cond, Option, Some, None, refl, sym, ap, ◌∙◌}
use Rattle.std.proofs.lemmas.Bool.{true≢false}
use Rattle.otel_common.specs.declared.attributes.KeyValue.{KeyValue}
use Rattle.otel_model_stream.specs.Sets.{AttributeSet}
use Rattle.otel_model_stream.specs.Folds.{Amount, Fold, Sample, wrap, empty_of, sample_of}
use Rattle.otel_model_stream.specs.Events.{Event, held_by}
use Rattle.otel_model_stream.specs.Entries.{Entry, entry_for, at_entry, write, entries_with_place}
use Rattle.otel_model_stream.specs.Machine.{through}
use Rattle.otel_model_stream.specs.Totals.{size}
use Rattle.otel_model.specs.Calls.{Number}
use Rattle.otel_model.specs.Demands.{Identity, ReaderAnswers}
use Rattle.otel_model.specs.Streams.{aggregate_of}
use Rattle.otel_model.specs.State.{Stream}
use Rattle.otel_model.specs.Sent.{is_fed, set_for}
use Rattle.otel_model.specs.Machine.{stream_after, machine_after, recorded_after, if_held}
use Rattle.otel_model.specs.Places.{Series, Listed, Held, call_at, with_table, set_placed, stream_placed, entry_at, written_at, stream_written, is_settled, IsPlaced}
use Rattle.otel_model.proofs.Single.{some_is}
use Rattle.otel_model.proofs.batches.Tables.{Keeps, is_there, there-on, entry_for-on, settled-on, settled_stays, there_stays, settled_rests, settled_once, entry_stays, settled_there, apart_table}
use Rattle.otel_model.proofs.batches.Writes.{blurred, write-keeps, blurred-keeps, cleared_table, blurred_table, blurred_twice, swapped_table, wrap_twice}

-- what a stream keeps, how its entries begin, and what it makes of a value
abbrev entries_in : Stream → List Entry
entries_in q = q.machine.table.entries

abbrev empty_in : Stream → Fold
empty_in q = empty_of (aggregate_of q.demand)

abbrev sample_in : Stream → Amount → Sample
sample_in q v = sample_of (aggregate_of q.demand) v

-- the entry of each live handle is there
abbrev pub IsHeldThere : Stream → Type 0
IsHeldThere q = (h : ℕ) (g : AttributeSet) → held_by h q.machine.live ≡ Some g → is_there g (entries_in q) ≡ true

module _ (feeds : List (List Identity)) where
  -- ======== having a place ========
  -- what holds of a stream, and of it with one more set placed, holds once a series has its place
  placed_keeps : (P : Stream → Type 0) (s : Series) (q : Stream) → P q → ((l : List KeyValue) → P (set_placed l q)) → P (stream_placed feeds s q)
  placed_keeps P (Listed n l) q old more = go (is_fed feeds n q.demand.identity)
    where
      go : (b : Bool) → P (cond b (set_placed l q) q)
      go true = more l
      go false = old
  placed_keeps P (Held h) q old more = old

  pub placed_once : (s : Series) (q : Stream) → IsPlaced feeds s (stream_placed feeds s q)
  placed_once (Listed n l) q = go (is_fed feeds n q.demand.identity) refl
    where
      go : (b : Bool) → is_fed feeds n q.demand.identity ≡ b → IsPlaced feeds (Listed n l) (cond b (set_placed l q) q)
      go true e = λ fed. settled_once q.demand.limit (empty_in q) (set_for q.demand l) (entries_in q)
      go false e = λ fed. absurd (true≢false (sym fed ∙ e))
  placed_once (Held h) q = tt

  pub placed_stays : (s t : Series) (q : Stream) → IsPlaced feeds s q → IsPlaced feeds s (stream_placed feeds t q)
  placed_stays (Listed n l) t q h = placed_keeps (IsPlaced feeds (Listed n l)) t q h
      (λ m fed. settled_stays q.demand.limit (empty_in q) (set_for q.demand l) (set_for q.demand m) (entries_in q) (h fed))
  placed_stays (Held k) t q h = tt

  pub placed_rests : (s : Series) (q : Stream) → IsPlaced feeds s q → stream_placed feeds s q ≡ q
  placed_rests (Listed n l) q h = go (is_fed feeds n q.demand.identity) h
    where
      go : (b : Bool) → (b ≡ true → is_settled q.demand.limit (set_for q.demand l) (entries_in q) ≡ true) → cond b (set_placed l q) q ≡ q
      go true h = λ i. with_table (record q.machine.table { entries = settled_rests q.demand.limit (empty_in q) (set_for q.demand l) (entries_in q) (h refl) i }) q
      go false h = refl
  placed_rests (Held k) q h = refl

  pub placed_written : (s : Series) (o : Option AttributeSet) (v : Amount) (q : Stream) → IsPlaced feeds s q → IsPlaced feeds s (written_at o v q)
  placed_written s None v q h = h
  placed_written (Listed n l) (Some g) v q h = λ fed. settled-on q.demand.limit (set_for q.demand l) g (write (sample_in q v)) (write-keeps (sample_in q v)) (entries_in q) ∙ h fed
  placed_written (Held k) (Some g) v q h = tt

  pub held_placed : (s : Series) (q : Stream) → IsHeldThere q → IsHeldThere (stream_placed feeds s q)
  held_placed s q there = placed_keeps IsHeldThere s q there (λ l h g e. there_stays q.demand.limit (empty_in q) g (set_for q.demand l) (entries_in q) (there h g e))

  pub held_written : (o : Option AttributeSet) (v : Amount) (q : Stream) → IsHeldThere q → IsHeldThere (written_at o v q)
  held_written None v q there = there
  held_written (Some g) v q there = λ h x e. there-on x g (write (sample_in q v)) (write-keeps (sample_in q v)) (entries_in q) ∙ there h x e

  -- ======== the entry of a series ========
  entry_on : (s : Series) (g : AttributeSet) (f : Entry → Entry) → Keeps f → (q : Stream) → entry_at feeds s (with_table (at_entry g f q.machine.table) q) ≡ entry_at feeds s q
  entry_on (Listed n l) g f k q = ap (λ x. cond (is_fed feeds n q.demand.identity) (Some x) None) (entry_for-on (set_for q.demand l) g f k (entries_in q))
  entry_on (Held h) g f k q = refl

  entry_written : (s : Series) (o : Option AttributeSet) (v : Amount) (q : Stream) → entry_at feeds s (written_at o v q) ≡ entry_at feeds s q
  entry_written s None v q = refl
  entry_written (Listed n l) (Some g) v q = entry_on (Listed n l) g (write (sample_in q v)) (write-keeps (sample_in q v)) q
  entry_written (Held h) (Some g) v q = refl

  -- that of a series that has its place is there, and stays the same
  entry_there : (t : Series) (q : Stream) (g : AttributeSet) → IsPlaced feeds t q → IsHeldThere q → entry_at feeds t q ≡ Some g → is_there g (entries_in q) ≡ true
  entry_there (Listed n l) q g h there e = go (is_fed feeds n q.demand.identity) h e
    where
      go : (b : Bool) → (b ≡ true → is_settled q.demand.limit (set_for q.demand l) (entries_in q) ≡ true)
          → cond b (Some (entry_for (set_for q.demand l) (entries_in q))) None ≡ Some g → is_there g (entries_in q) ≡ true
      go true h e = ap (λ x. is_there x (entries_in q)) (sym (some_is (entry_for (set_for q.demand l) (entries_in q)) g e))
          ∙ settled_there q.demand.limit (empty_in q) (set_for q.demand l) (entries_in q) (h refl)
      go false h e = absurd (cc)
  entry_there (Held k) q g h there e = there k g e

  entry_kept : (t : Series) (q : Stream) (m : List KeyValue) → IsPlaced feeds t q → entry_at feeds t (set_placed m q) ≡ entry_at feeds t q
  entry_kept (Listed n l) q m h = go (is_fed feeds n q.demand.identity) h
    where
      go : (b : Bool) → (b ≡ true → is_settled q.demand.limit (set_for q.demand l) (entries_in q) ≡ true)
          → cond b (Some (entry_for (set_for q.demand l) (entries_with_place q.demand.limit (empty_in q) (set_for q.demand m) (entries_in q)))) None
          ≡ cond b (Some (entry_for (set_for q.demand l) (entries_in q))) None
      go true h = ap Some (entry_stays q.demand.limit (empty_in q) (set_for q.demand l) (set_for q.demand m) (entries_in q) (h refl))
      go false h = refl
  entry_kept (Held k) q m h = refl

  -- ======== a place and a write ========
  set_apart : (t : Series) (w : Number) (m : List KeyValue) (q : Stream) → IsPlaced feeds t q → IsHeldThere q → set_placed m (stream_written feeds t w q) ≡ stream_written feeds t w (set_placed m q)
  set_apart t w m q h there = go (entry_at feeds t q) refl ∙ ap (λ o. written_at o w.amount (set_placed m q)) (sym (entry_kept t q m h))
    where
      go : (o : Option AttributeSet) → entry_at feeds t q ≡ o → set_placed m (written_at o w.amount q) ≡ written_at o w.amount (set_placed m q)
      go None e = refl
      go (Some g) e = λ i. record q {
        machine = record q.machine { table = apart_table q.demand.limit (empty_in q) (set_for q.demand m) g (write (sample_in q w.amount)) (write-keeps (sample_in q w.amount)) q.machine.table (entry_there t q g h there e) i };
        recorded = wrap (q.recorded + size (aggregate_of q.demand) w.amount);
      }

  -- a write leaves the demand
  demand_written : (o : Option AttributeSet) (v : Amount) (q : Stream) → (written_at o v q).demand ≡ q.demand
  demand_written None v q = refl
  demand_written (Some g) v q = refl

  pub stream_apart : (s t : Series) (w : Number) (q : Stream) → IsPlaced feeds t q → IsHeldThere q
      → stream_placed feeds s (stream_written feeds t w q) ≡ stream_written feeds t w (stream_placed feeds s q)
  stream_apart (Listed n m) t w q h there =
      ap (λ d. cond (is_fed feeds n d.identity) (set_placed m (stream_written feeds t w q)) (stream_written feeds t w q)) (demand_written (entry_at feeds t q) w.amount q)
      ∙ go (is_fed feeds n q.demand.identity)
    where
      go : (b : Bool) → cond b (set_placed m (stream_written feeds t w q)) (stream_written feeds t w q) ≡ stream_written feeds t w (cond b (set_placed m q) q)
      go true = set_apart t w m q h there
      go false = refl
  stream_apart (Held k) t w q h there = refl

  -- ======== two writes ========
  -- the stream without what the next write of the series does away with
  abbrev pub blurred_at : Option AttributeSet → Stream → Stream
  blurred_at None q = q
  blurred_at (Some g) q = with_table (at_entry g blurred q.machine.table) q

  abbrev pub stream_blurred : Series → Stream → Stream
  stream_blurred s q = blurred_at (entry_at feeds s q) q

  entry_blurred : (s : Series) (o : Option AttributeSet) (q : Stream) → entry_at feeds s (blurred_at o q) ≡ entry_at feeds s q
  entry_blurred s None q = refl
  entry_blurred s (Some g) q = entry_on s g blurred blurred-keeps q

  pub stream_cleared : (s : Series) (v : Number) (q : Stream) → stream_written feeds s v (stream_blurred s q) ≡ stream_written feeds s v q
  stream_cleared s v q = ap (λ o. written_at o v.amount (stream_blurred s q)) (entry_blurred s (entry_at feeds s q) q) ∙ go (entry_at feeds s q)
    where
      go : (o : Option AttributeSet) → written_at o v.amount (blurred_at o q) ≡ written_at o v.amount q
      go None = refl
      go (Some g) = λ i. record q {
        machine = record q.machine { table = cleared_table g (sample_in q v.amount) q.machine.table i };
        recorded = wrap (q.recorded + size (aggregate_of q.demand) v.amount);
      }

  pub stream_blurred_twice : (s t : Series) (w : Number) (q : Stream) → stream_blurred s (stream_written feeds t w (stream_blurred s q)) ≡ stream_blurred s (stream_written feeds t w q)
  stream_blurred_twice s t w q =
      ap (stream_blurred s) (ap (λ p. written_at p w.amount z) (entry_blurred t o q))
      ∙ (ap (λ p. blurred_at p (written_at (entry_at feeds t q) w.amount z)) (entry_written s (entry_at feeds t q) w.amount z ∙ entry_blurred s o q)
      ∙ (go o (entry_at feeds t q) ∙ ap (λ p. blurred_at p (stream_written feeds t w q)) (sym (entry_written s (entry_at feeds t q) w.amount q))))
    where
      o : Option AttributeSet
      o = entry_at feeds s q

      z : Stream
      z = stream_blurred s q

      go : (o p : Option AttributeSet) → blurred_at o (written_at p w.amount (blurred_at o q)) ≡ blurred_at o (written_at p w.amount q)
      go None p = refl
      go (Some g) None = λ i. with_table (blurred_twice g q.machine.table i) q
      go (Some g) (Some h) = λ i. record q {
        machine = record q.machine { table = blurred_table g h (sample_in q w.amount) q.machine.table i };
        recorded = wrap (q.recorded + size (aggregate_of q.demand) w.amount);
      }

  pub stream_swapped : (s t : Series) (u w : Number) (q : Stream)
      → stream_blurred s (stream_written feeds t w (stream_written feeds s u q)) ≡ stream_blurred s (stream_written feeds s u (stream_written feeds t w q))
  stream_swapped s t u w q =
      ap (stream_blurred s) (ap (λ x. written_at x w.amount (written_at o u.amount q)) (entry_written t o u.amount q))
      ∙ (ap (λ x. blurred_at x (written_at p w.amount (written_at o u.amount q))) (entry_written s p w.amount (written_at o u.amount q) ∙ entry_written s o u.amount q)
      ∙ (go o p
      ∙ (ap (λ x. blurred_at x (written_at o u.amount (written_at p w.amount q))) (sym (entry_written s o u.amount (written_at p w.amount q) ∙ entry_written s p w.amount q))
      ∙ ap (stream_blurred s) (ap (λ x. written_at x u.amount (written_at p w.amount q)) (sym (entry_written s p w.amount q))))))
    where
      o : Option AttributeSet
      o = entry_at feeds s q

      p : Option AttributeSet
      p = entry_at feeds t q

      go : (o p : Option AttributeSet) → blurred_at o (written_at p w.amount (written_at o u.amount q)) ≡ blurred_at o (written_at o u.amount (written_at p w.amount q))
      go None p = refl
      go (Some g) None = refl
      go (Some g) (Some h) = λ i. record q {
        machine = record q.machine { table = swapped_table g h (sample_in q u.amount) (sample_in q w.amount) q.machine.table i };
        recorded = wrap_twice q.recorded (size (aggregate_of q.demand) u.amount) (size (aggregate_of q.demand) w.amount) i;
      }

  -- ======== the machine ========
  -- a record is a place and a write
  pub record_is : (answers : ReaderAnswers) (next : ℕ) (s : Series) (v : Number) (q : Stream) → stream_after answers feeds next (call_at s v) q ≡ stream_written feeds s v (stream_placed feeds s q)
  record_is answers next (Listed n l) v q = go (is_fed feeds n q.demand.identity) refl
    where
      sent : Bool → List Event
      sent b = cond b (Event.Record (set_for q.demand l) v.amount ∷ []) []

      go : (b : Bool) → is_fed feeds n q.demand.identity ≡ b
          → record q { machine = machine_after answers q.demand (sent b) q.machine; recorded = recorded_after answers (sent b) q } ≡ stream_written feeds (Listed n l) v (cond b (set_placed l q) q)
      go true e = ap (λ b. written_at (cond b (Some (entry_for (set_for q.demand l) (set_placed l q).machine.table.entries)) None) v.amount (set_placed l q)) (sym e)
      go false e = ap (λ b. written_at (cond b (Some (entry_for (set_for q.demand l) (entries_in q))) None) v.amount q) (sym e)
  record_is answers next (Held h) v q = go (held_by h q.machine.live)
    where
      go : (o : Option AttributeSet) → record q {
        machine = through o (sample_in q v.amount) q.machine;
        recorded = if_held o (wrap (q.recorded + size (aggregate_of q.demand) v.amount)) q.recorded;
      } ≡ written_at o v.amount q
      go None = refl
      go (Some g) = refl
