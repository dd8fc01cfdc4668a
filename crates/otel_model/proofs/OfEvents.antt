-- A stream is what a list of events made of it, and so it balances.
use Rattle.std.proofs.Common.{◌≡◌, ℕ, ◌+◌, Bool, true, false, List, [], ◌∷◌, ◌++◌, refl, sym, ◌∙◌, ap, cond, subst, append_assoc}
use Rattle.std.specs.Prelude.{◌^◌, sum_by}
use Rattle.std.proofs.lemmas.List.{append-nil}
use Rattle.std.proofs.lemmas.List.Sums.{sum_by_push}
use Rattle.std.proofs.Math.Nat.{mod-add-mod}
use Rattle.otel_model_stream.specs.Folds.{Aggregate, wrap}
use Rattle.otel_model_stream.specs.Events.{Event, Kind, Delta, Cumulative, Drained, Point}
use Rattle.otel_model_stream.specs.Machine.{Machine, begin, step, run, answer, answers as points_given, points}
use Rattle.otel_model_stream.specs.Windows.{opening, window, points_of, collections}
use Rattle.otel_model_stream.specs.Totals.{recorded_total, points_total}
use Rattle.otel_model_stream.proofs.Whole.{points_are}
use Rattle.otel_model.specs.Calls.{Observed, Call, Meter, Build, Record, Bind, RecordBound, Unbind, Collect, Flush, Shutdown}
use Rattle.otel_model.specs.Demands.{Identity, Demand, ReaderAnswers}
use Rattle.otel_model.specs.Streams.{is_drained, is_delta, kind_of, aggregate_of}
use Rattle.otel_model.specs.State.{Stream}
use Rattle.otel_model.specs.Sent.{is_fed, set_for, observed_events, sent_events}
use Rattle.otel_model.specs.Machine.{exported_after, recorded_over, stream_after, new_stream}
use Rattle.otel_model.proofs.StreamFacts.{points_of_run, delta_total, cumulative_total}
use Rattle.otel_model.proofs.Follow.{run_append, recorded_append}
use Rattle.otel_model.proofs.Gather.{cond_same}
use Rattle.otel_model.proofs.Recorded.{recorded_is}
use Rattle.otel_model.specs.Lawful.{IsOfEvents, IsBalanced}
use Rattle.otel_model.proofs.Plus.{zero_plus}

answers_append : (σ : Aggregate) (kind : Kind) (limit : ℕ) (m : Machine) (es fs : List Event) → points_given σ kind limit m (es ++ fs) ≡ points_given σ kind limit m es ++ points_given σ kind limit (run σ kind limit m es) fs
answers_append σ kind limit m [] fs = refl
answers_append σ kind limit m (e ∷ es) fs =
    ap (λ l. answer kind m e ++ l) (answers_append σ kind limit (step σ kind limit m e) es fs)
    ∙ sym (append_assoc (answer kind m e) (points_given σ kind limit (step σ kind limit m e) es) (points_given σ kind limit (run σ kind limit (step σ kind limit m e) es) fs))

module _ (answers : ReaderAnswers) (feeds : List (List Identity)) (d : Demand) where
  abbrev answers_in : Machine → List Event → List (List Point)
  answers_in m es = points_given (aggregate_of d) (kind_of answers d) d.limit m es

  abbrev ran : Machine → List Event → Machine
  ran m es = run (aggregate_of d) (kind_of answers d) d.limit m es

  observed_quiet : (os : List Observed) (m : Machine) → answers_in m (observed_events feeds d os) ≡ []
  observed_quiet [] m = refl
  observed_quiet (o ∷ os) m = go (is_fed feeds o.instrument d.identity) (observed_quiet os)
    where
      go : (b : Bool) → ((m : Machine) → answers_in m (observed_events feeds d os) ≡ []) → answers_in m (cond b (Event.Record (set_for d o.attributes) o.value.amount ∷ observed_events feeds d os) (observed_events feeds d os)) ≡ []
      go true ih = ih (step (aggregate_of d) (kind_of answers d) d.limit m (Event.Record (set_for d o.attributes) o.value.amount))
      go false ih = ih m

  -- what a collection answers
  collected : (os : List Observed) (m : Machine) → answers_in m (observed_events feeds d os ++ Event.Collect ∷ []) ≡ points (kind_of answers d) (ran m (observed_events feeds d os)) ∷ []
  collected os m =
      answers_append (aggregate_of d) (kind_of answers d) d.limit m (observed_events feeds d os) (Event.Collect ∷ [])
      ∙ ap (λ l. l ++ points (kind_of answers d) (ran m (observed_events feeds d os)) ∷ []) (observed_quiet os m)

  abbrev total : List (List Point) → ℕ
  total pss = cond (is_delta answers d) (wrap (sum_by points_total pss)) 0

  more : (b : Bool) (pss : List (List Point)) (ps : List Point) → cond b (wrap (cond b (wrap (sum_by points_total pss)) 0 + points_total ps)) (cond b (wrap (sum_by points_total pss)) 0) ≡ cond b (wrap (sum_by points_total (pss ++ ps ∷ []))) 0
  more true pss ps = mod-add-mod (sum_by points_total pss) (2 ^ 64) (points_total ps) ∙ sym (ap wrap (sum_by_push points_total pss ps))
  more false pss ps = refl

module _ (answers : ReaderAnswers) (feeds : List (List Identity)) (next : ℕ) where
  abbrev first : Stream → Machine
  first q = begin (aggregate_of q.demand)

  abbrev answered : Stream → List Event → List (List Point)
  answered q es = points_given (aggregate_of q.demand) (kind_of answers q.demand) q.demand.limit (begin (aggregate_of q.demand)) es

  -- events without a collection
  quiet : (q : Stream) (h : IsOfEvents answers q) (fs : List Event) → points_given (aggregate_of q.demand) (kind_of answers q.demand) q.demand.limit (run (aggregate_of q.demand) (kind_of answers q.demand) q.demand.limit (first q) h.events) fs ≡ []
      → q.exported ≡ total answers feeds q.demand (answered q (h.events ++ fs))
  quiet q h fs e =
      h.exported ∙ ap (total answers feeds q.demand) (sym (answers_append (aggregate_of q.demand) (kind_of answers q.demand) q.demand.limit (first q) h.events fs
      ∙ (ap (λ l. answered q h.events ++ l) e ∙ append-nil (answered q h.events))))

  exported_events : (c : Call) (q : Stream) (h : IsOfEvents answers q) → exported_after answers feeds c q ≡ total answers feeds q.demand (answered q (h.events ++ sent_events feeds next q.demand c))
  exported_events (Meter scope) q h = quiet q h [] refl
  exported_events (Build meter about now) q h = quiet q h [] refl
  exported_events (Record n v l) q h = quiet q h (cond (is_fed feeds n q.demand.identity) (Event.Record (set_for q.demand l) v.amount ∷ []) []) (go (is_fed feeds n q.demand.identity))
    where
      go : (b : Bool) → points_given (aggregate_of q.demand) (kind_of answers q.demand) q.demand.limit (run (aggregate_of q.demand) (kind_of answers q.demand) q.demand.limit (first q) h.events) (cond b (Event.Record (set_for q.demand l) v.amount ∷ []) []) ≡ []
      go true = refl
      go false = refl
  exported_events (Bind n l) q h = quiet q h (cond (is_fed feeds n q.demand.identity) (Event.Bind next (set_for q.demand l) ∷ []) []) (go (is_fed feeds n q.demand.identity))
    where
      go : (b : Bool) → points_given (aggregate_of q.demand) (kind_of answers q.demand) q.demand.limit (run (aggregate_of q.demand) (kind_of answers q.demand) q.demand.limit (first q) h.events) (cond b (Event.Bind next (set_for q.demand l) ∷ []) []) ≡ []
      go true = refl
      go false = refl
  exported_events (RecordBound k v) q h = quiet q h (Event.RecordBound k v.amount ∷ []) refl
  exported_events (Unbind k) q h = quiet q h (Event.Unbind k ∷ []) refl
  exported_events (Collect r now os) q h =
      (λ i. cond (is_delta answers q.demand) (wrap (h.exported i + points_total (points (kind_of answers q.demand) (run (aggregate_of q.demand) (kind_of answers q.demand) q.demand.limit (h.machine i) (observed_events feeds q.demand os))))) (h.exported i))
      ∙ (more answers feeds q.demand (is_delta answers q.demand) (answered q h.events) (points (kind_of answers q.demand) (ran answers feeds q.demand (ran answers feeds q.demand (first q) h.events) (observed_events feeds q.demand os)))
      ∙ ap (total answers feeds q.demand) (sym (answers_append (aggregate_of q.demand) (kind_of answers q.demand) q.demand.limit (first q) h.events (observed_events feeds q.demand os ++ Event.Collect ∷ [])
      ∙ ap (λ l. answered q h.events ++ l) (collected answers feeds q.demand os (ran answers feeds q.demand (first q) h.events)))))
  exported_events Flush q h = quiet q h [] refl
  exported_events Shutdown q h = quiet q h [] refl

  pub events_after : (c : Call) (q : Stream) → IsOfEvents answers q → IsOfEvents answers (stream_after answers feeds next c q)
  events_after c q h = record {
    events = h.events ++ sent_events feeds next q.demand c;
    machine = ap (λ m. run (aggregate_of q.demand) (kind_of answers q.demand) q.demand.limit m (sent_events feeds next q.demand c)) h.machine
        ∙ sym (run_append (aggregate_of q.demand) (kind_of answers q.demand) q.demand.limit (first q) h.events (sent_events feeds next q.demand c));
    recorded = (λ i. recorded_over (aggregate_of q.demand) (kind_of answers q.demand) q.demand.limit (h.machine i) (h.recorded i) (sent_events feeds next q.demand c))
        ∙ sym (recorded_append (aggregate_of q.demand) (kind_of answers q.demand) q.demand.limit (first q) 0 h.events (sent_events feeds next q.demand c));
    exported = exported_events c q h;
  }

pub events_at_first : (answers : ReaderAnswers) (now : ℕ) (d : Demand) → IsOfEvents answers (new_stream now d)
events_at_first answers now d = record { events = []; machine = refl; recorded = refl; exported = sym (cond_same (is_delta answers d) 0) }

-- ======== balance ========
kind_when : (answers : ReaderAnswers) (d : Demand) → is_drained d ≡ false → kind_of answers d ≡ cond (is_delta answers d) Delta Cumulative
kind_when answers d e = ap (λ b. cond b Drained (cond (is_delta answers d) Delta Cumulative)) e

balanced_over : (answers : ReaderAnswers) (d : Demand) (es : List Event) → is_drained d ≡ false
    → wrap (cond (is_delta answers d) (wrap (sum_by points_total (collections (aggregate_of d) (kind_of answers d) d.limit opening es))) 0 + points_total (points_of (aggregate_of d) (kind_of answers d) d.limit (window (kind_of answers d) d.limit opening es))) ≡ wrap (recorded_total (aggregate_of d) es)
balanced_over answers d es e = go (is_delta answers d) (kind_of answers d) (kind_when answers d e)
  where
    Claim : Bool → Kind → Type 0
    Claim b k = wrap (cond b (wrap (sum_by points_total (collections (aggregate_of d) k d.limit opening es))) 0 + points_total (points_of (aggregate_of d) k d.limit (window k d.limit opening es))) ≡ wrap (recorded_total (aggregate_of d) es)

    go : (b : Bool) (k : Kind) → k ≡ cond b Delta Cumulative → Claim b k
    go true k e = subst (Claim true) (sym e)
        (mod-add-mod (sum_by points_total (collections (aggregate_of d) Delta d.limit opening es)) (2 ^ 64) (points_total (points_of (aggregate_of d) Delta d.limit (window Delta d.limit opening es))) ∙ delta_total (aggregate_of d) d.limit es)
    go false k e = subst (Claim false) (sym e) (ap wrap (zero_plus (points_total (points_of (aggregate_of d) Cumulative d.limit (window Cumulative d.limit opening es)))) ∙ cumulative_total (aggregate_of d) d.limit es)

pub balanced_events : (answers : ReaderAnswers) (q : Stream) → IsOfEvents answers q → IsBalanced answers q
balanced_events answers q h e =
    h.recorded ∙ (recorded_is answers q.demand h.events
    ∙ (sym (balanced_over answers q.demand h.events e)
    ∙ sym (λ i. wrap ((h.exported ∙ ap (λ pss. cond (is_delta answers q.demand) (wrap (sum_by points_total pss)) 0) (points_are (aggregate_of q.demand) (kind_of answers q.demand) q.demand.limit h.events)) i
    + points_total ((ap (points (kind_of answers q.demand)) h.machine ∙ points_of_run (aggregate_of q.demand) (kind_of answers q.demand) q.demand.limit h.events) i)))))
