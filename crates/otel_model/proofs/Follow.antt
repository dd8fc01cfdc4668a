-- The machine's parts are what is read off the calls made.
use Rattle.std.proofs.Common.{◌≡◌, ℕ, ◌+◌, Bool, true, false, List, [], ◌∷◌, ◌++◌, map, refl, sym, ◌∙◌, ap, Option, cond, append_assoc}
use Rattle.std.specs.Prelude.{◌==◌, ◌^◌, filter, fold, not, sum_by}
use Rattle.std.proofs.lemmas.List.{append-nil, map-append}
use Rattle.std.proofs.lemmas.List.Elements.{filter-append}
use Rattle.std.proofs.lemmas.List.Sums.{sum_by_push}
use Rattle.std.proofs.Math.Nat.{mod-add-mod}
use Rattle.otel_model_stream.specs.Folds.{Aggregate, wrap}
use Rattle.otel_model_stream.specs.Events.{Event, Kind, Point}
use Rattle.otel_model_stream.specs.Machine.{Machine, begin, run, step, points}
use Rattle.otel_model_stream.specs.Totals.{points_total}
use Rattle.otel_model.specs.Calls.{About, Observed, Call, Meter, Build, Record, Bind, RecordBound, Unbind, Collect, Flush, Shutdown}
use Rattle.otel_model.specs.Demands.{Identity, Demand, Views, ReaderAnswers, fate_of, is_known, is_drop, is_drop_fate, is_dropped, demands_on, fed_identities}
use Rattle.otel_model.specs.Streams.{is_delta, kind_of, aggregate_of}
use Rattle.otel_model.specs.Collections.{shows_differences}
use Rattle.otel_model.specs.State.{Stream, ReaderPart}
use Rattle.otel_model.specs.Sent.{scope_of, observed_events, sent_events}
use Rattle.otel_model.specs.Machine.{points_at, start_after, reported_after, recorded_with, recorded_over, exported_after, stream_after, new_stream, enter, part_after_demand, build_demands, with_feeds, part_after_build, part_after_call}
use Rattle.otel_model.specs.History.{Built, gather, build_in, builds_in, binds_in, meters_in, demands_after, demands_of, new_demand, firsts, streams_of, feeds_of, concerns, events_at, history, window_points, shown_by, shown_at, shown_points, last_or, moment_at}
use Rattle.otel_model.proofs.StreamFacts.{points_of_run}
use Rattle.otel_model.proofs.Gather.{gather_push, gather_append, map_both, cond_same, unknown_before, known_firsts, fate_firsts, enter_first, enter_all, AreKnown, map_known, firsts_are_known}

-- ======== one stream ========
pub run_append : (σ : Aggregate) (kind : Kind) (limit : ℕ) (m : Machine) (es fs : List Event) → run σ kind limit m (es ++ fs) ≡ run σ kind limit (run σ kind limit m es) fs
run_append σ kind limit m [] fs = refl
run_append σ kind limit m (e ∷ es) fs = run_append σ kind limit (step σ kind limit m e) es fs

pub recorded_append : (σ : Aggregate) (kind : Kind) (limit : ℕ) (m : Machine) (n : ℕ) (es fs : List Event)
    → recorded_over σ kind limit m n (es ++ fs) ≡ recorded_over σ kind limit (run σ kind limit m es) (recorded_over σ kind limit m n es) fs
recorded_append σ kind limit m n [] fs = refl
recorded_append σ kind limit m n (e ∷ es) fs = recorded_append σ kind limit (step σ kind limit m e) (recorded_with σ m n e) es fs

-- what is kept of what was shown
abbrev pub kept_of : ReaderAnswers → Demand → List Point → List Point
kept_of answers d ps = cond (shows_differences answers d) ps []

abbrev pub exported_of : ReaderAnswers → Demand → List (List Point) → ℕ
exported_of answers d pss = cond (is_delta answers d) (wrap (sum_by points_total pss)) 0

-- a stream as its history, its moments and what was shown of it make it
abbrev pub stream_from : ReaderAnswers → Demand → List Event → List ℕ → List (List Point) → Stream
stream_from answers d es ms pss = record {
  demand = d;
  machine = run (aggregate_of d) (kind_of answers d) d.limit (begin (aggregate_of d)) es;
  start = last_or 0 ms;
  reported = kept_of answers d (last_or [] pss);
  recorded = recorded_over (aggregate_of d) (kind_of answers d) d.limit (begin (aggregate_of d)) 0 es;
  exported = exported_of answers d pss;
}

pub last_push : {X : Type 0} (x : X) (ys : List X) (y : X) → last_or x (ys ++ y ∷ []) ≡ y
last_push x [] y = refl
last_push x (z ∷ zs) y = last_push z zs y

pub points_run : (answers : ReaderAnswers) (d : Demand) (es : List Event) → points (kind_of answers d) (run (aggregate_of d) (kind_of answers d) d.limit (begin (aggregate_of d)) es) ≡ window_points answers d es
points_run answers d es = points_of_run (aggregate_of d) (kind_of answers d) d.limit es

abbrev pub keeps : Demand → Bool
keeps d = not (is_drop d.aggregation)

module _ (views : Views) (answers : ReaderAnswers) (r : ℕ) where
  -- all compatible demands of the calls
  abbrev pub demands_in : List Call → List Demand
  demands_in past = demands_of views answers [] (builds_in past)

  abbrev pub stream_in : List Call → Demand → Stream
  stream_in past d = stream_from answers d (history views answers r d past) (gather (moment_at views answers r d) [] past) (shown_points views answers r d past)

  abbrev pub feeds_in : List Call → List (List Identity)
  feeds_in past = feeds_of views answers [] (builds_in past)

  -- the reader's part as it is read off the calls
  abbrev pub part_of : List Call → ReaderPart
  part_of past = record {
    answers = answers;
    fates = firsts (demands_in past);
    streams = map (stream_in past) (streams_of views answers (builds_in past));
    feeds = feeds_in past;
  }

  -- ======== a call that is no build ========
  pub points_now : (past : List Call) (os : List Observed) (d : Demand) → points_at answers (feeds_in past) os (stream_in past d) ≡ window_points answers d (history views answers r d past ++ observed_events (feeds_in past) d os)
  points_now past os d = ap (points (kind_of answers d)) (sym (run_append (aggregate_of d) (kind_of answers d) d.limit (begin (aggregate_of d)) (history views answers r d past) (observed_events (feeds_in past) d os))) ∙ points_run answers d (history views answers r d past ++ observed_events (feeds_in past) d os)

  history_push : (d : Demand) (past : List Call) (c : Call) → history views answers r d (past ++ c ∷ []) ≡ history views answers r d past ++ events_at views answers r d past c
  history_push d past c = gather_push (events_at views answers r d) [] past c

  -- the stream after one call more
  stream_push : (past : List Call) (c : Call) (d : Demand) → stream_in (past ++ c ∷ []) d
      ≡ stream_from answers d (history views answers r d past ++ events_at views answers r d past c) (gather (moment_at views answers r d) [] past ++ moment_at views answers r d past c) (shown_points views answers r d past ++ shown_at views answers r d past c)
  stream_push past c d = λ i. stream_from answers d (history_push d past c i) (gather_push (moment_at views answers r d) [] past c i) (gather_push (shown_at views answers r d) [] past c i)

  abbrev known : List Call → Demand → Bool
  known past d = is_known (demands_in past) d.identity

  -- a collection's moment and what it shows
  start_moves : (b : Bool) (now : ℕ) (ms : List ℕ) → cond b now (last_or 0 ms) ≡ last_or 0 (ms ++ cond b (now ∷ []) [])
  start_moves true now ms = sym (last_push 0 ms now)
  start_moves false now ms = ap (last_or 0) (sym (append-nil ms))

  -- a known stream takes what the call sends to it
  moved : (past : List Call) (c : Call) (d : Demand) → build_in past c ≡ [] → concerns r c ≡ true → known past d ≡ true → stream_after answers (feeds_in past) (binds_in past) c (stream_in past d) ≡ stream_in (past ++ c ∷ []) d
  moved past c d b m k =
      (λ i. record {
        demand = d;
        machine = (sym (run_append (aggregate_of d) (kind_of answers d) d.limit (begin (aggregate_of d)) (history views answers r d past) (sent_events (feeds_in past) (binds_in past) d c))
            ∙ ap (λ es. run (aggregate_of d) (kind_of answers d) d.limit (begin (aggregate_of d)) (history views answers r d past ++ es)) (sym (λ i. cond (k i) (cond (m i) (sent_events (feeds_in past) (binds_in past) d c) []) []))) i;
        start = start_is c b m i;
        reported = reported_is c b m i;
        recorded = (sym (recorded_append (aggregate_of d) (kind_of answers d) d.limit (begin (aggregate_of d)) 0 (history views answers r d past) (sent_events (feeds_in past) (binds_in past) d c))
            ∙ ap (λ es. recorded_over (aggregate_of d) (kind_of answers d) d.limit (begin (aggregate_of d)) 0 (history views answers r d past ++ es)) (sym (λ i. cond (k i) (cond (m i) (sent_events (feeds_in past) (binds_in past) d c) []) []))) i;
        exported = exported_is c b m i;
      })
      ∙ sym (stream_push past c d)
    where
      M : List ℕ
      M = gather (moment_at views answers r d) [] past

      S : List (List Point)
      S = shown_points views answers r d past

      start_is : (c : Call) → build_in past c ≡ [] → concerns r c ≡ true → start_after answers d c (last_or 0 M) ≡ last_or 0 (M ++ moment_at views answers r d past c)
      start_is (Meter scope) b m = ap (last_or 0) (sym (append-nil M))
      start_is (Build meter about now) b m = absurd (cc)
      start_is (Record n v l) b m = ap (last_or 0) (sym (append-nil M))
      start_is (Bind n l) b m = ap (last_or 0) (sym (append-nil M))
      start_is (RecordBound h v) b m = ap (last_or 0) (sym (append-nil M))
      start_is (Unbind h) b m = ap (last_or 0) (sym (append-nil M))
      start_is (Collect q now os) b m = start_moves (is_delta answers d) now M ∙ sym (λ i. last_or 0 (M ++ cond (k i) (cond (m i) (cond (is_delta answers d) (now ∷ []) []) []) []))
      start_is Flush b m = ap (last_or 0) (sym (append-nil M))
      start_is Shutdown b m = ap (last_or 0) (sym (append-nil M))

      nothing_more : (c : Call) → shown_by views answers r d past c ≡ [] → S ≡ S ++ shown_at views answers r d past c
      nothing_more c e = sym (ap (λ l. S ++ l) ((λ i. cond (known past d) (cond (concerns r c) (e i) []) []) ∙ (ap (λ l. cond (known past d) l []) (cond_same (concerns r c) []) ∙ cond_same (known past d) [])) ∙ append-nil S)

      quiet : (c : Call) → shown_by views answers r d past c ≡ [] → kept_of answers d (last_or [] S) ≡ kept_of answers d (last_or [] (S ++ shown_at views answers r d past c))
      quiet c e = ap (λ pss. kept_of answers d (last_or [] pss)) (nothing_more c e)

      kept_twice : (b : Bool) (ps qs : List Point) → cond b ps (cond b qs []) ≡ cond b ps []
      kept_twice true ps qs = refl
      kept_twice false ps qs = refl

      -- what a collection shows
      now_shown : (os : List Observed) → List Point
      now_shown os = window_points answers d (history views answers r d past ++ observed_events (feeds_in past) d os)

      shown_now : (q now : ℕ) (os : List Observed) → concerns r (Collect q now os) ≡ true → S ++ now_shown os ∷ [] ≡ S ++ shown_at views answers r d past (Collect q now os)
      shown_now q now os m = sym (λ i. S ++ cond (k i) (cond (m i) (now_shown os ∷ []) []) [])

      reported_is : (c : Call) → build_in past c ≡ [] → concerns r c ≡ true → reported_after answers (feeds_in past) c (stream_in past d) ≡ kept_of answers d (last_or [] (S ++ shown_at views answers r d past c))
      reported_is (Meter scope) b m = quiet (Meter scope) refl
      reported_is (Build meter about now) b m = absurd (cc)
      reported_is (Record n v l) b m = quiet (Record n v l) refl
      reported_is (Bind n l) b m = quiet (Bind n l) refl
      reported_is (RecordBound h v) b m = quiet (RecordBound h v) refl
      reported_is (Unbind h) b m = quiet (Unbind h) refl
      reported_is (Collect q now os) b m = kept_twice (shows_differences answers d) (points_at answers (feeds_in past) os (stream_in past d)) (last_or [] S)
          ∙ ap (kept_of answers d) (points_now past os d
          ∙ (sym (last_push [] S (now_shown os))
          ∙ ap (last_or []) (shown_now q now os m)))
      reported_is Flush b m = quiet Flush refl
      reported_is Shutdown b m = quiet Shutdown refl

      still_exported : (c : Call) → shown_by views answers r d past c ≡ [] → exported_of answers d S ≡ exported_of answers d (S ++ shown_at views answers r d past c)
      still_exported c e = ap (exported_of answers d) (nothing_more c e)

      more_exported : (b : Bool) (ps : List Point) → cond b (wrap (cond b (wrap (sum_by points_total S)) 0 + points_total ps)) (cond b (wrap (sum_by points_total S)) 0) ≡ cond b (wrap (sum_by points_total (S ++ ps ∷ []))) 0
      more_exported true ps = mod-add-mod (sum_by points_total S) (2 ^ 64) (points_total ps) ∙ sym (ap wrap (sum_by_push points_total S ps))
      more_exported false ps = refl

      exported_is : (c : Call) → build_in past c ≡ [] → concerns r c ≡ true → exported_after answers (feeds_in past) c (stream_in past d) ≡ exported_of answers d (S ++ shown_at views answers r d past c)
      exported_is (Meter scope) b m = still_exported (Meter scope) refl
      exported_is (Build meter about now) b m = absurd (cc)
      exported_is (Record n v l) b m = still_exported (Record n v l) refl
      exported_is (Bind n l) b m = still_exported (Bind n l) refl
      exported_is (RecordBound h v) b m = still_exported (RecordBound h v) refl
      exported_is (Unbind h) b m = still_exported (Unbind h) refl
      exported_is (Collect q now os) b m =
          ap (λ ps. cond (is_delta answers d) (wrap (exported_of answers d S + points_total ps)) (exported_of answers d S)) (points_now past os d)
          ∙ (more_exported (is_delta answers d) (now_shown os)
          ∙ ap (exported_of answers d) (shown_now q now os m))
      exported_is Flush b m = still_exported Flush refl
      exported_is Shutdown b m = still_exported Shutdown refl

  -- a stream to which nothing happens
  rests : (past : List Call) (c : Call) (d : Demand) → events_at views answers r d past c ≡ [] → moment_at views answers r d past c ≡ [] → shown_at views answers r d past c ≡ [] → stream_in past d ≡ stream_in (past ++ c ∷ []) d
  rests past c d e m s = sym (stream_push past c d ∙ (λ i. stream_from answers d
      ((ap (λ l. history views answers r d past ++ l) e ∙ append-nil (history views answers r d past)) i)
      ((ap (λ l. gather (moment_at views answers r d) [] past ++ l) m ∙ append-nil (gather (moment_at views answers r d) [] past)) i)
      ((ap (λ l. shown_points views answers r d past ++ l) s ∙ append-nil (shown_points views answers r d past)) i)))

  still : (past : List Call) (c : Call) → build_in past c ≡ [] → builds_in (past ++ c ∷ []) ≡ builds_in past
  still past c e = gather_push build_in [] past c ∙ (ap (λ l. builds_in past ++ l) e ∙ append-nil (builds_in past))

  known_streams : (past : List Call) → AreKnown (demands_in past) (streams_of views answers (builds_in past))
  known_streams past = firsts_are_known [] (demands_in past)

  -- the part, each stream changed
  abbrev pub part_moved : (Stream → Stream) → ReaderPart → ReaderPart
  part_moved f p = record { answers = p.answers; fates = p.fates; streams = map f p.streams; feeds = p.feeds }

  pub part_moves : (past : List Call) (c : Call) (f : Stream → Stream) → build_in past c ≡ [] → ((d : Demand) → known past d ≡ true → f (stream_in past d) ≡ stream_in (past ++ c ∷ []) d)
      → part_moved f (part_of past) ≡ part_of (past ++ c ∷ [])
  part_moves past c f b e =
      (λ i. record {
        answers = answers;
        fates = firsts (demands_in past);
        streams = (map_both f (stream_in past) (λ d. f (stream_in past d)) (streams_of views answers (builds_in past)) (λ d. refl)
            ∙ map_known (λ d. f (stream_in past d)) (stream_in (past ++ c ∷ [])) (demands_in past) (streams_of views answers (builds_in past)) e (known_streams past)) i;
        feeds = feeds_in past;
      })
      ∙ sym (λ i. record {
        answers = answers;
        fates = firsts (demands_of views answers [] (still past c b i));
        streams = map (stream_in (past ++ c ∷ [])) (streams_of views answers (still past c b i));
        feeds = feeds_of views answers [] (still past c b i);
      })

  pub part_sends : (past : List Call) (c : Call) → build_in past c ≡ [] → concerns r c ≡ true → part_after_call (binds_in past) c (part_of past) ≡ part_of (past ++ c ∷ [])
  part_sends past c b m = part_moves past c (stream_after answers (feeds_in past) (binds_in past) c) b (λ d k. moved past c d b m k)

  same_streams : (ss : List Stream) → map (λ (s : Stream). s) ss ≡ ss
  same_streams [] = refl
  same_streams (s ∷ ss) = ap (λ l. s ∷ l) (same_streams ss)

  pub part_rests : (past : List Call) (c : Call) → build_in past c ≡ []
      → ((d : Demand) → events_at views answers r d past c ≡ []) → ((d : Demand) → moment_at views answers r d past c ≡ []) → ((d : Demand) → shown_at views answers r d past c ≡ []) → part_of past ≡ part_of (past ++ c ∷ [])
  part_rests past c b e m s =
      sym (λ i. record { answers = answers; fates = firsts (demands_in past); streams = same_streams (map (stream_in past) (streams_of views answers (builds_in past))) i; feeds = feeds_in past })
      ∙ part_moves past c (λ q. q) b (λ d k. rests past c d (e d) (m d) (s d))

  -- another reader's collection
  pub part_unseen : (past : List Call) (q now : ℕ) (os : List Observed) → (q == r) ≡ false → part_of past ≡ part_of (past ++ Collect q now os ∷ [])
  part_unseen past q now os m = part_rests past (Collect q now os) refl
      (λ d. (λ i. cond (known past d) (cond (m i) (sent_events (feeds_in past) (binds_in past) d (Collect q now os)) []) []) ∙ cond_same (known past d) [])
      (λ d. (λ i. cond (known past d) (cond (m i) (cond (is_delta answers d) (now ∷ []) []) []) []) ∙ cond_same (known past d) [])
      (λ d. (λ i. cond (known past d) (cond (m i) (shown_by views answers r d past (Collect q now os)) []) []) ∙ cond_same (known past d) [])

  -- ======== a build ========
  demands_push : (earlier : List Demand) (is : List Built) (i : Built) → demands_of views answers earlier (is ++ i ∷ []) ≡ demands_of views answers earlier is ++ demands_after views answers (demands_of views answers earlier is) i
  demands_push earlier [] i = refl
  demands_push earlier (j ∷ js) i = demands_push (earlier ++ demands_after views answers earlier j) js i

  feeds_push : (earlier : List Demand) (is : List Built) (i : Built) → feeds_of views answers earlier (is ++ i ∷ [])
      ≡ feeds_of views answers earlier is ++ fed_identities (is_dropped (demands_of views answers earlier is ++ demands_after views answers (demands_of views answers earlier is) i)) (demands_after views answers (demands_of views answers earlier is) i) ∷ []
  feeds_push earlier [] i = refl
  feeds_push earlier (j ∷ js) i = ap (λ l. fed_identities (is_dropped (earlier ++ demands_after views answers earlier j)) (demands_after views answers earlier j) ∷ l) (feeds_push (earlier ++ demands_after views answers earlier j) js i)

  -- demands only grow
  demands_append : (earlier : List Demand) (is js : List Built) → demands_of views answers earlier (is ++ js) ≡ demands_of views answers (demands_of views answers earlier is) js
  demands_append earlier [] js = refl
  demands_append earlier (i ∷ is) js = demands_append (earlier ++ demands_after views answers earlier i) is js

  unknown_earlier : (earlier : List Demand) (is : List Built) (x : Identity) → is_known (demands_of views answers earlier is) x ≡ false → is_known earlier x ≡ false
  unknown_earlier earlier [] x e = e
  unknown_earlier earlier (i ∷ is) x e = unknown_before earlier (demands_after views answers earlier i) x (unknown_earlier (earlier ++ demands_after views answers earlier i) is x e)

  unknown_past : (past calls : List Call) (x : Identity) → is_known (demands_in (past ++ calls)) x ≡ false → is_known (demands_in past) x ≡ false
  unknown_past past calls x e = unknown_earlier (demands_in past) (gather build_in past calls) x
      (sym (ap (λ l. is_known l x) (ap (demands_of views answers []) (gather_append build_in [] past calls) ∙ demands_append [] (builds_in past) (gather build_in past calls))) ∙ e)

  -- a stream that is not made has no history
  unmade : {X : Type 0} (f : List Call → Call → List X) (d : Demand) (before calls : List Call) → known (before ++ calls) d ≡ false → gather (λ b c. cond (known b d) (f b c) []) before calls ≡ []
  unmade f d before [] e = refl
  unmade f d before (c ∷ cs) e =
      (λ i. cond (unknown_past before (c ∷ cs) d.identity e i) (f before c) [] ++ gather (λ b c. cond (known b d) (f b c) []) (before ++ c ∷ []) cs)
      ∙ unmade f d (before ++ c ∷ []) cs (ap (λ l. known l d) (append_assoc before (c ∷ []) cs) ∙ e)

  -- a build makes a stream that was not known
  new_is : (past : List Call) (meter : Option ℕ) (about : About) (now : ℕ) (d : Demand) → known past d ≡ false → new_stream now d ≡ stream_in (past ++ Build meter about now ∷ []) d
  new_is past meter about now d e = sym (stream_push past (Build meter about now) d ∙ (λ i. stream_from answers d
      ((ap (λ l. l ++ events_at views answers r d past (Build meter about now)) (unmade (λ b c. cond (concerns r c) (sent_events (feeds_in b) (binds_in b) d c) []) d [] past e) ∙ cond_same (known past d) []) i)
      (gather (moment_at views answers r d) [] past ++ cond (e i) [] (now ∷ []))
      ((ap (λ l. l ++ shown_at views answers r d past (Build meter about now)) (unmade (λ b c. cond (concerns r c) (shown_by views answers r d b c) []) d [] past e) ∙ cond_same (known past d) []) i))
      ∙ (λ i. record { demand = d; machine = begin (aggregate_of d); start = last_push 0 (gather (moment_at views answers r d) [] past) now i; reported = cond_same (shows_differences answers d) [] i; recorded = 0; exported = cond_same (is_delta answers d) 0 i }))

  old_is : (past : List Call) (meter : Option ℕ) (about : About) (now : ℕ) (d : Demand) → known past d ≡ true → stream_in past d ≡ stream_in (past ++ Build meter about now ∷ []) d
  old_is past meter about now d k = rests past (Build meter about now) d (cond_same (known past d) []) (λ i. cond (k i) [] (now ∷ [])) (cond_same (known past d) [])

  -- the part in the middle of a build
  abbrev part_with : (Demand → Stream) → List (List Identity) → List Demand → ReaderPart
  part_with st feeds ds = record { answers = answers; fates = firsts ds; streams = map st (filter keeps (firsts ds)); feeds = feeds }

  demand_one : (now : ℕ) (st : Demand → Stream) (feeds : List (List Identity)) (ds : List Demand) (d : Demand) → (is_known ds d.identity ≡ false → new_stream now d ≡ st d) → part_after_demand now (part_with st feeds ds) d ≡ part_with st feeds (ds ++ d ∷ [])
  demand_one now st feeds ds d new = λ i. record {
    answers = answers;
    fates = enter_first ds d i;
    streams = (ap (λ b. cond b ss (ss ++ cond (is_drop d.aggregation) [] (new_stream now d ∷ []))) (known_firsts ds d.identity)
        ∙ (go (is_known ds d.identity) new ∙ sym (ap (λ l. map st (filter keeps l)) (gather_push new_demand [] ds d)))) i;
    feeds = feeds;
  }
    where
      ss : List Stream
      ss = map st (filter keeps (firsts ds))

      last : (k : Bool) → new_stream now d ≡ st d → cond k [] (new_stream now d ∷ []) ≡ map st (cond (not k) (d ∷ []) [])
      last true e = refl
      last false e = λ i. e i ∷ []

      go : (b : Bool) → (b ≡ false → new_stream now d ≡ st d) → cond b ss (ss ++ cond (is_drop d.aggregation) [] (new_stream now d ∷ [])) ≡ map st (filter keeps (firsts ds ++ cond b [] (d ∷ [])))
      go true e = ap (λ l. map st (filter keeps l)) (sym (append-nil (firsts ds)))
      go false e = ap (λ l. ss ++ l) (last (is_drop d.aggregation) (e refl))
          ∙ sym (ap (map st) (filter-append keeps (firsts ds) (d ∷ [])) ∙ map-append st (filter keeps (firsts ds)) (filter keeps (d ∷ [])))

  demand_all : (now : ℕ) (st : Demand → Stream) (feeds : List (List Identity)) (ds new : List Demand) → ((d : Demand) → is_known ds d.identity ≡ false → new_stream now d ≡ st d) → fold (part_after_demand now) (part_with st feeds ds) new ≡ part_with st feeds (ds ++ new)
  demand_all now st feeds ds [] e = ap (part_with st feeds) (sym (append-nil ds))
  demand_all now st feeds ds (d ∷ new) e =
      ap (λ p. fold (part_after_demand now) p new) (demand_one now st feeds ds d (e d))
      ∙ (demand_all now st feeds (ds ++ d ∷ []) new (λ k u. e k (unknown_before ds (d ∷ []) k.identity u)) ∙ ap (part_with st feeds) (append_assoc ds (d ∷ []) new))

  pub part_builds : (past : List Call) (meter : Option ℕ) (about : About) (now : ℕ) → part_after_build views (scope_of (meters_in past) meter) about now (part_of past) ≡ part_of (past ++ Build meter about now ∷ [])
  part_builds past meter about now =
      ap (λ b. with_feeds b (fold (part_after_demand now) (part_of past) b)) same_demands
      ∙ (ap (λ ss. with_feeds A (fold (part_after_demand now) (record { answers = answers; fates = firsts D; streams = ss; feeds = feeds_in past }) A))
      (map_known (stream_in past) (stream_in (past ++ Build meter about now ∷ [])) D (streams_of views answers (builds_in past)) (old_is past meter about now) (known_streams past))
      ∙ (ap (with_feeds A) (demand_all now (stream_in (past ++ Build meter about now ∷ [])) (feeds_in past) D A (new_is past meter about now))
      ∙ sym ((λ k. record { answers = answers; fates = firsts (demands_of views answers [] (bp k)); streams = map (stream_in (past ++ Build meter about now ∷ [])) (streams_of views answers (bp k)); feeds = feeds_of views answers [] (bp k) })
      ∙ (λ k. record { answers = answers; fates = firsts (demands_push [] (builds_in past) inst k); streams = map (stream_in (past ++ Build meter about now ∷ [])) (filter keeps (firsts (demands_push [] (builds_in past) inst k))); feeds = (feeds_push [] (builds_in past) inst ∙ same_feeds) k }))))
    where
      inst : Built
      inst = record { scope = scope_of (meters_in past) meter; about = about }

      D : List Demand
      D = demands_in past

      A : List Demand
      A = demands_after views answers D inst

      same_fate : (ds : List Demand) (x : Identity) → fate_of (fold enter (firsts D) ds) x ≡ fate_of (D ++ ds) x
      same_fate ds x = ap (λ l. fate_of l x) (enter_all D ds) ∙ fate_firsts (D ++ ds) x

      same_demands : build_demands views (part_of past) (scope_of (meters_in past) meter) about ≡ A
      same_demands = λ i. demands_on (λ ds x. is_drop_fate (same_fate ds x i)) views answers (scope_of (meters_in past) meter) about

      bp : builds_in (past ++ Build meter about now ∷ []) ≡ builds_in past ++ inst ∷ []
      bp = gather_push build_in [] past (Build meter about now)

      same_feeds : feeds_in past ++ fed_identities (is_dropped (D ++ A)) A ∷ [] ≡ feeds_in past ++ fed_identities (is_dropped (firsts (D ++ A))) A ∷ []
      same_feeds = sym (λ i. feeds_in past ++ fed_identities (λ x. is_drop_fate (fate_firsts (D ++ A) x i)) A ∷ [])
