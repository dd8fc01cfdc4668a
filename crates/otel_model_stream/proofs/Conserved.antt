-- Nothing is lost from window to window, and few points stand in each.
use Rattle.std.proofs.Common.{◌≡◌, ℕ, ◌+◌, ◌≤◌, List, [], ◌∷◌, ◌++◌, map, length, length-append, Bool, refl, ap, ◌∙◌, arith}
use Rattle.std.specs.Prelude.{filter, sum_by}
use Rattle.std.proofs.lemmas.List.{append-nil, map-append, length-map}
use Rattle.std.proofs.lemmas.List.Sums.{sum_by-cons, sum_by-append, length-filter, count_by-le-length}
use Rattle.otel_model_stream.specs.Sets.{AttributeSet, none_set}
use Rattle.otel_model_stream.specs.Folds.{Aggregate, Amount, wrap}
use Rattle.otel_model_stream.specs.Events.{Event, Record, Bind, RecordBound, Unbind, Collect, Kind, Delta, Cumulative, Drained, held_by, without}
use Rattle.otel_model_stream.specs.Windows.{Window, live_handles, records, by_handle, places_of, uncounted_of, goal_of, live_of, records_of, is_hit, point, points_of, first, cut, opening, more, window, collections}
use Rattle.otel_model_stream.specs.Totals.{size, without_number, recorded_from, recorded_total, points_total}
use Rattle.otel_model_stream.proofs.Places.{IsLawful}
use Rattle.otel_model_stream.proofs.Steps.{IsSound, live_more, records_more}
use Rattle.otel_model_stream.proofs.Moves.{facts}
use Rattle.otel_model_stream.proofs.Sound.{sound_record, sound_bind, sound_through, sound_let_go}
use Rattle.otel_model_stream.proofs.Tidy.{IsTidy, tidy_record, tidy_bind, tidy_through, tidy_let_go, tidy_cut, tidy_start, places_few}
use Rattle.otel_model_stream.proofs.Whole.{sound_cut, sound_opening}
use Rattle.otel_model_stream.proofs.Totals.{numbers, numbers-without, mod_both, amount, amount-cons, through_amount, window_total}

abbrev pub live_numbers : ℕ → Window → List ℕ
live_numbers limit w = numbers (live_of limit w)

-- every window that is reached is sound and tidy
pub reached : (kind : Kind) (limit : ℕ) (w : Window) (es : List Event) → IsSound limit w → IsTidy limit (facts limit w) → IsSound limit (window kind limit w es) × IsTidy limit (facts limit (window kind limit w es))
reached kind limit w [] a t = (a, t)
reached kind limit w (Record s v ∷ es) a t = reached kind limit (more w (Record s v)) es (sound_record limit w s v a) (tidy_record limit w s v a.lawful t)
reached kind limit w (Bind h s ∷ es) a t = reached kind limit (more w (Bind h s)) es (sound_bind limit w h s a) (tidy_bind limit w h s a.lawful t)
reached kind limit w (RecordBound h v ∷ es) a t = reached kind limit (more w (RecordBound h v)) es (sound_through limit w h v a) (tidy_through limit w h v a.lawful t)
reached kind limit w (Unbind h ∷ es) a t = reached kind limit (more w (Unbind h)) es (sound_let_go limit w h a) (tidy_let_go limit w h a.lawful t)
reached kind limit w (Collect ∷ es) a t = reached kind limit (cut kind limit w) es (sound_cut kind limit w a) (tidy_cut kind limit w t)

pub tidy_opening : (limit : ℕ) → IsTidy limit (facts limit opening)
tidy_opening limit = tidy_start limit first (refl, tt) (omega arith)

zero_plus : (n : ℕ) → 0 + n ≡ n + 0
zero_plus n = omega arith

none_plus : (n : ℕ) → 0 + n ≡ n
none_plus n = omega arith

regroup : (a b c d : ℕ) → d ≡ a + b → d + c ≡ a + (b + c)
regroup a b c d e = omega arith

-- ======== what is recorded ========
module _ (σ : Aggregate) where
  -- the total of the window's records
  abbrev pub pending_of : ℕ → Window → ℕ
  pending_of limit w = amount σ (records_of limit w)

  -- one event adds its own records
  abbrev Adds : ℕ → Window → Event → Type 0
  Adds limit w e = (es : List Event) → pending_of limit (more w e) + recorded_from (size σ) (live_numbers limit (more w e)) es ≡ pending_of limit w + recorded_from (size σ) (live_numbers limit w) (e ∷ es)

  adds : (limit : ℕ) (w : Window) (e : Event) → IsLawful w.start → (es : List Event)
      → (pending_of limit (more w e) + recorded_from (size σ) (live_numbers limit (more w e)) es ≡ (pending_of limit w + amount σ (records (goal_of limit (more w e)) (live_of limit w) (e ∷ []))) + recorded_from (size σ) (numbers (live_handles (goal_of limit (more w e)) (live_of limit w) (e ∷ []))) es)
  adds limit w e l es =
      λ i. ((ap (amount σ) (records_more limit w e l) ∙ sum_by-append (λ (r : AttributeSet × Amount). size σ r.1) (records_of limit w) (records (goal_of limit (more w e)) (live_of limit w) (e ∷ []))) i)
      + recorded_from (size σ) (numbers (live_more limit w e l i)) es

  pub adds_record : (limit : ℕ) (w : Window) (s : AttributeSet) (v : Amount) → IsLawful w.start → Adds limit w (Record s v)
  adds_record limit w s v l es = omega (arith, adds limit w (Record s v) l es, amount-cons σ (goal_of limit (more w (Record s v)) s, v) [])

  pub adds_bind : (limit : ℕ) (w : Window) (h : ℕ) (s : AttributeSet) → IsLawful w.start → Adds limit w (Bind h s)
  adds_bind limit w h s l es =
      let e : recorded_from (size σ) (numbers (live_of limit w ++ (h, goal_of limit (more w (Bind h s)) s) ∷ [])) es ≡ recorded_from (size σ) (numbers (live_of limit w) ++ h ∷ []) es
      = ap (λ ns. recorded_from (size σ) ns es) (map-append (λ (q : ℕ × AttributeSet). q.0) (live_of limit w) ((h, goal_of limit (more w (Bind h s)) s) ∷ [])) in
      omega (arith, adds limit w (Bind h s) l es)

  pub adds_through : (limit : ℕ) (w : Window) (h : ℕ) (v : Amount) → IsLawful w.start → Adds limit w (RecordBound h v)
  adds_through limit w h v l es =
      omega (arith, adds limit w (RecordBound h v) l es, ap (amount σ) (append-nil (by_handle (held_by h (live_of limit w)) v)), through_amount σ h v (live_of limit w))

  pub adds_let_go : (limit : ℕ) (w : Window) (h : ℕ) → IsLawful w.start → Adds limit w (Unbind h)
  adds_let_go limit w h l es =
      let e : recorded_from (size σ) (numbers (without h (live_of limit w))) es ≡ recorded_from (size σ) (without_number h (numbers (live_of limit w))) es = ap (λ ns. recorded_from (size σ) ns es) (numbers-without h (live_of limit w)) in
      omega (arith, adds limit w (Unbind h) l es)

  pub conserved : (limit : ℕ) (w : Window) (es : List Event) → IsSound limit w → IsTidy limit (facts limit w)
      → wrap (sum_by points_total (collections σ Delta limit w es) + pending_of limit (window Delta limit w es)) ≡ wrap (pending_of limit w + recorded_from (size σ) (live_numbers limit w) es)
  conserved limit w [] a t = ap wrap (zero_plus (pending_of limit w))
  conserved limit w (Record s v ∷ es) a t = conserved limit (more w (Record s v)) es (sound_record limit w s v a) (tidy_record limit w s v a.lawful t) ∙ ap wrap (adds_record limit w s v a.lawful es)
  conserved limit w (Bind h s ∷ es) a t = conserved limit (more w (Bind h s)) es (sound_bind limit w h s a) (tidy_bind limit w h s a.lawful t) ∙ ap wrap (adds_bind limit w h s a.lawful es)
  conserved limit w (RecordBound h v ∷ es) a t = conserved limit (more w (RecordBound h v)) es (sound_through limit w h v a) (tidy_through limit w h v a.lawful t) ∙ ap wrap (adds_through limit w h v a.lawful es)
  conserved limit w (Unbind h ∷ es) a t = conserved limit (more w (Unbind h)) es (sound_let_go limit w h a) (tidy_let_go limit w h a.lawful t) ∙ ap wrap (adds_let_go limit w h a.lawful es)
  conserved limit w (Collect ∷ es) a t =
      let ih = conserved limit (cut Delta limit w) es (sound_cut Delta limit w a) (tidy_cut Delta limit w t) in
      ap wrap (regroup (points_total (points_of σ Delta limit w)) (sum_by points_total (collections σ Delta limit (cut Delta limit w) es)) (pending_of limit (window Delta limit (cut Delta limit w) es)) _ (sum_by-cons points_total (points_of σ Delta limit w) (collections σ Delta limit (cut Delta limit w) es)))
      ∙ (mod_both _ _ _ _ (window_total σ Delta limit w a t) ih
      ∙ ap (λ n. wrap (pending_of limit w + n)) (none_plus (recorded_from (size σ) (live_numbers limit w) es)))

  pub shown_whole : (limit : ℕ) (w : Window) (es : List Event) → IsSound limit w → IsTidy limit (facts limit w)
      → pending_of limit (window Cumulative limit w es) ≡ pending_of limit w + recorded_from (size σ) (live_numbers limit w) es
  shown_whole limit w [] a t = omega arith
  shown_whole limit w (Record s v ∷ es) a t = shown_whole limit (more w (Record s v)) es (sound_record limit w s v a) (tidy_record limit w s v a.lawful t) ∙ adds_record limit w s v a.lawful es
  shown_whole limit w (Bind h s ∷ es) a t = shown_whole limit (more w (Bind h s)) es (sound_bind limit w h s a) (tidy_bind limit w h s a.lawful t) ∙ adds_bind limit w h s a.lawful es
  shown_whole limit w (RecordBound h v ∷ es) a t = shown_whole limit (more w (RecordBound h v)) es (sound_through limit w h v a) (tidy_through limit w h v a.lawful t) ∙ adds_through limit w h v a.lawful es
  shown_whole limit w (Unbind h ∷ es) a t = shown_whole limit (more w (Unbind h)) es (sound_let_go limit w h a) (tidy_let_go limit w h a.lawful t) ∙ adds_let_go limit w h a.lawful es
  shown_whole limit w (Collect ∷ es) a t = shown_whole limit w es a t

  -- ======== from the start ========
  -- a delta stream: what its collections gave and what is pending is what was recorded
  pub delta_total : (limit : ℕ) (es : List Event)
      → wrap (sum_by points_total (collections σ Delta limit opening es) + points_total (points_of σ Delta limit (window Delta limit opening es))) ≡ wrap (recorded_total σ es)
  delta_total limit es =
      let r = reached Delta limit opening es (sound_opening limit) (tidy_opening limit) in
      mod_both _ _ _ _ refl (window_total σ Delta limit (window Delta limit opening es) r.0 r.1)
      ∙ (conserved limit opening es (sound_opening limit) (tidy_opening limit) ∙ ap wrap (none_plus (recorded_total σ es)))

  -- a cumulative one: its points hold all that was recorded
  pub cumulative_total : (limit : ℕ) (es : List Event) → wrap (points_total (points_of σ Cumulative limit (window Cumulative limit opening es))) ≡ wrap (recorded_total σ es)
  cumulative_total limit es =
      let r = reached Cumulative limit opening es (sound_opening limit) (tidy_opening limit) in
      window_total σ Cumulative limit (window Cumulative limit opening es) r.0 r.1
      ∙ ap wrap (shown_whole limit opening es (sound_opening limit) (tidy_opening limit) ∙ none_plus (recorded_total σ es))

-- ======== the number of points ========
few_filter : (f : AttributeSet → Bool) (l : List AttributeSet) → length (filter f l) ≤ length l
few_filter f l = rw (length-filter f l) (count_by-le-length f l)

few_points : (σ : Aggregate) (kind : Kind) (limit : ℕ) (w : Window) → IsTidy limit (facts limit w) → length (points_of σ kind limit w) ≤ limit + 2
few_points σ kind limit w t = go kind
  where
    part : (l : List AttributeSet) → length l ≤ length (places_of limit w) → length (map (point σ (records_of limit w)) (filter (is_hit (records_of limit w)) (none_set ∷ []) ++ l)) ≤ limit + 2
    part l h = omega (
      arith,
      length-map (filter (is_hit (records_of limit w)) (none_set ∷ []) ++ l) (point σ (records_of limit w)),
      length-append (filter (is_hit (records_of limit w)) (none_set ∷ [])) l,
      few_filter (is_hit (records_of limit w)) (none_set ∷ []),
      places_few (uncounted_of limit w) (places_of limit w) t.distinct.1,
      t.few,
    )

    go : (kind : Kind) → length (points_of σ kind limit w) ≤ limit + 2
    go Delta = part (filter (is_hit (records_of limit w)) (places_of limit w)) (few_filter (is_hit (records_of limit w)) (places_of limit w))
    go Cumulative = part (places_of limit w) (omega arith)
    go Drained = part (places_of limit w) (omega arith)

pub few_are : (σ : Aggregate) (kind : Kind) (limit : ℕ) (es : List Event) → length (points_of σ kind limit (window kind limit opening es)) ≤ limit + 2
few_are σ kind limit es = few_points σ kind limit (window kind limit opening es) (reached kind limit opening es (sound_opening limit) (tidy_opening limit)).1
