-- A record that is answered by `Done` is accepted once, and nothing else is.
use Rattle.std.proofs.Common.{◌≡◌, ⊎_elim, ℕ, zero, suc, ◌+◌, true, List, [], ◌∷◌, length, refl, sym, ◌∙◌, ap, Option, Some, None}
use Rattle.std.specs.Prelude.{◌^◌, slice_get, sum_by}
use Rattle.std.proofs.lemmas.Bool.{false≢true}
use Rattle.std.proofs.lemmas.List.Sums.{sum_by_push, sum_by-cons}
use Rattle.std.proofs.Math.Nat.{mod-add-mod, add-mod-mod}
use Rattle.otel_model_stream.specs.Folds.{Amount, wrap}
use Rattle.otel_model.specs.Calls.{About, Observed, Call, Meter, Build, Record, Bind, RecordBound, Unbind, Collect, Flush, Shutdown, Fault, Reply}
use Rattle.otel_model.specs.Demands.{Views}
use Rattle.otel_model.specs.State.{InstrumentState, Shared, ReaderPart, State}
use Rattle.otel_model.specs.Refusals.{refusal, instrument_held}
use Rattle.otel_model.specs.Machine.{new_instrument, instrument_after_record, changed_at, accepted_by, shared_after, accepted_after}
use Rattle.otel_model.specs.Steps.{collect_reply, answer_of, reply_by, after_by, reply_of, after, asks_readers, Step, Run}
use Rattle.otel_model.specs.Only.{is_short}
use Rattle.otel_model.proofs.Single.{step_cases}
use Rattle.otel_model.specs.Books.{one_each, bits_of, added_by, if_done, added_among, EachCallIsBooked, EachRunIsBooked}
use Rattle.otel_model.proofs.Booked.{recorded_there, handle_there}
use Rattle.otel_model.proofs.Plus.{plus_zero, exchanged, grouped}

-- one more at one place
total_more : (f : InstrumentState → ℕ) (g : InstrumentState → InstrumentState) (k : ℕ) → ((i : InstrumentState) → f (g i) ≡ wrap (f i + k))
    → (is : List InstrumentState) (n : ℕ) (i : InstrumentState) → slice_get is n ≡ Some i → wrap (sum_by f (changed_at n g is)) ≡ wrap (sum_by f is + k)
total_more f g k e [] n i h = absurd (cc)
total_more f g k e (j ∷ is) zero i h =
    ap wrap (sum_by-cons f (g j) is)
    ∙ (ap (λ m. wrap (m + sum_by f is)) (e j)
    ∙ (mod-add-mod (f j + k) (2 ^ 64) (sum_by f is)
    ∙ (ap wrap (exchanged (f j) k (sum_by f is))
    ∙ sym (ap (λ m. wrap (m + k)) (sum_by-cons f j is)))))
total_more f g k e (j ∷ is) (suc n) i h =
    ap wrap (sum_by-cons f j (changed_at n g is))
    ∙ (sym (add-mod-mod (f j) (sum_by f (changed_at n g is)) (2 ^ 64))
    ∙ (ap (λ m. wrap (f j + m)) (total_more f g k e is n i h)
    ∙ (add-mod-mod (f j) (sum_by f is + k) (2 ^ 64)
    ∙ (ap wrap (grouped (f j) (sum_by f is) k)
    ∙ sym (ap (λ m. wrap (m + k)) (sum_by-cons f j is))))))

-- f is what is kept of an instrument: a new one has nothing, and a record adds its amount
module _ (f : InstrumentState → ℕ) (amount : Amount → ℕ) (fresh : (about : About) → f (new_instrument about) ≡ 0) (more : (v : Amount) (i : InstrumentState) → f (instrument_after_record v i) ≡ wrap (f i + amount v)) where
  abbrev tally : List InstrumentState → ℕ
  tally is = sum_by f is

  -- nothing is added
  same : (is : List InstrumentState) (k : ℕ) → k ≡ 0 → wrap (tally is) ≡ wrap (tally is + k)
  same is k e = ap wrap (sym (plus_zero (tally is))) ∙ ap (λ m. wrap (tally is + m)) (sym e)

  collected_none : (s : Shared) (now : ℕ) (os : List Observed) (o : Option ReaderPart) → if_done (collect_reply s now os o) 0 ≡ 0
  collected_none s now os None = refl
  collected_none s now os (Some p) = refl

  accepts : (st : State) (c : Call) → refusal st.shared (length st.readers) c ≡ None
      → wrap (tally (shared_after st.shared c).instruments) ≡ wrap (tally st.shared.instruments + if_done (answer_of st c) (added_by amount c))
  accepts st (Meter scope) e = same st.shared.instruments 0 refl
  accepts st (Build meter about now) e = ap wrap (sum_by_push f st.shared.instruments (new_instrument about)) ∙ ap (λ m. wrap (tally st.shared.instruments + m)) (fresh about)
  accepts st (Record n v l) e =
      let there = recorded_there (slice_get st.shared.instruments n) v.signed e in
      total_more f (instrument_after_record v.amount) (amount v.amount) (more v.amount) st.shared.instruments n there.0 there.1
  accepts st (Bind n l) e = same st.shared.instruments 0 refl
  accepts st (RecordBound h v) e =
      let there = handle_there (instrument_held h st.shared.live) st.shared.instruments v.signed e in
      ap (λ o. wrap (tally (accepted_by o v.amount st.shared.instruments))) there.2
      ∙ total_more f (instrument_after_record v.amount) (amount v.amount) (more v.amount) st.shared.instruments there.0 there.1 there.3
  accepts st (Unbind h) e = same st.shared.instruments 0 refl
  accepts st (Collect r now os) e = same st.shared.instruments (if_done (collect_reply st.shared now os (slice_get st.readers r)) 0) (collected_none st.shared now os (slice_get st.readers r))
  accepts st Flush e = same st.shared.instruments 0 refl
  accepts st Shutdown e = same st.shared.instruments 0 refl

  -- the instruments after a call, and its reply
  by_refusal : (views : Views) (st : State) (c : Call)
      → wrap (tally (after views st c).shared.instruments) ≡ wrap (tally st.shared.instruments + if_done (reply_of st c) (added_by amount c))
  by_refusal views st c = go (refusal st.shared (length st.readers) c) refl
    where
      go : (o : Option Fault) → refusal st.shared (length st.readers) c ≡ o
          → wrap (tally (after_by o st (accepted_after views st c)).shared.instruments) ≡ wrap (tally st.shared.instruments + if_done (reply_by o (answer_of st c)) (added_by amount c))
      go None e = accepts st c e
      go (Some g) e = same st.shared.instruments 0 refl

  short_none : (reply : Reply) (k : ℕ) → is_short reply ≡ true → if_done reply k ≡ 0
  short_none (Reply.Meter n) k e = refl
  short_none (Reply.Instrument n) k e = refl
  short_none (Reply.Handle n) k e = refl
  short_none Reply.Done k e = absurd (false≢true e)
  short_none (Reply.Collected c) k e = refl
  short_none (Reply.Refused g) k e = refl

  nothing_done : (reply : Reply) → if_done reply 0 ≡ 0
  nothing_done (Reply.Meter n) = refl
  nothing_done (Reply.Instrument n) = refl
  nothing_done (Reply.Handle n) = refl
  nothing_done Reply.Done = refl
  nothing_done (Reply.Collected c) = refl
  nothing_done (Reply.Refused g) = refl

  -- a flush or shutdown records nothing, whatever it answers
  asked_none : (c : Call) (reply : Reply) → asks_readers c ≡ true → if_done reply (added_by amount c) ≡ 0
  asked_none (Meter scope) reply e = absurd (false≢true e)
  asked_none (Build meter about now) reply e = absurd (false≢true e)
  asked_none (Record n v l) reply e = absurd (false≢true e)
  asked_none (Bind n l) reply e = absurd (false≢true e)
  asked_none (RecordBound h v) reply e = absurd (false≢true e)
  asked_none (Unbind h) reply e = absurd (false≢true e)
  asked_none (Collect r now os) reply e = absurd (false≢true e)
  asked_none Flush reply e = nothing_done reply
  asked_none Shutdown reply e = nothing_done reply

  call_adds : (views : Views) (old : State) (c : Call) (reply : Reply) (new : State) → Step views old c reply new
      → wrap (tally new.shared.instruments) ≡ wrap (tally old.shared.instruments + if_done reply (added_by amount c))
  call_adds views old c reply new s = ⊎_elim
      (λ h. ap (λ (st : State). wrap (tally st.shared.instruments)) h.1 ∙ same old.shared.instruments (if_done reply (added_by amount c)) (short_none reply (added_by amount c) h.0))
      (λ h. ap (λ (st : State). wrap (tally st.shared.instruments)) h.1 ∙ (by_refusal views old c ∙ ap (λ m. wrap (tally old.shared.instruments + m)) (⊎_elim
      (λ a. asked_none c (reply_of old c) a ∙ sym (asked_none c reply a))
      (λ r. ap (λ q. if_done q (added_by amount c)) (sym r))
      h.2)))
      (step_cases views old new c reply s)

  run_adds : (views : Views) (old : State) (calls : List Call) (replies : List Reply) (new : State) → Run views old calls replies new
      → wrap (tally new.shared.instruments) ≡ wrap (tally old.shared.instruments + added_among amount calls replies)
  run_adds views old [] [] new run = ap (λ (st : State). wrap (tally st.shared.instruments)) run ∙ same old.shared.instruments 0 refl
  run_adds views old [] (reply ∷ replies) new run = absurd run
  run_adds views old (c ∷ calls) [] new run = absurd run
  run_adds views old (c ∷ calls) (reply ∷ replies) new run =
      run_adds views run.0 calls replies new run.2
      ∙ (sym (mod-add-mod (tally run.0.shared.instruments) (2 ^ 64) (added_among amount calls replies))
      ∙ (ap (λ m. wrap (m + added_among amount calls replies)) (call_adds views old c reply run.0 run.1)
      ∙ (mod-add-mod (tally old.shared.instruments + if_done reply (added_by amount c)) (2 ^ 64) (added_among amount calls replies)
      ∙ ap wrap (sym (grouped (tally old.shared.instruments) (if_done reply (added_by amount c)) (added_among amount calls replies))))))

pub call_law : EachCallIsBooked
call_law views old c reply new s = (
  call_adds (λ (i : InstrumentState). i.count) one_each (λ about. refl) (λ v i. refl) views old c reply new s,
  call_adds (λ (i : InstrumentState). i.sum) bits_of (λ about. refl) (λ v i. refl) views old c reply new s,
)

pub run_law : EachRunIsBooked
run_law views old calls replies new run = (
  run_adds (λ (i : InstrumentState). i.count) one_each (λ about. refl) (λ v i. refl) views old calls replies new run,
  run_adds (λ (i : InstrumentState). i.sum) bits_of (λ about. refl) (λ v i. refl) views old calls replies new run,
)
