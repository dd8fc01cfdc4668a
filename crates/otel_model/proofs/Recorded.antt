-- What a stream's machine recorded is the total of the records in its history.
use Rattle.std.proofs.Common.{◌≡◌, ⊎_elim, ℕ, ◌+◌, Bool, true, false, List, [], ◌∷◌, ◌++◌, map, refl, arith, sym, ◌∙◌, ap, Option, Some, None, subst, cond, ◌||◌}
use Rattle.std.specs.Prelude.{◌==◌, ◌^◌, ◌&&◌, is_some}
use Rattle.std.proofs.lemmas.Bool.{cases_Bool, true≢false, false≢true}
use Rattle.std.proofs.lemmas.List.{map-append}
use Rattle.std.proofs.Math.Nat.{mod-add-mod}
use Rattle.otel_model_stream.specs.Sets.{AttributeSet}
use Rattle.otel_model_stream.specs.Folds.{Aggregate, LastValue, Amount, wrap, sample_of}
use Rattle.otel_model_stream.specs.Events.{Event, Record, Bind, RecordBound, Unbind, Collect, Kind, Delta, Cumulative, Drained, Handles, held_by, without}
use Rattle.otel_model_stream.specs.Machine.{Machine, begin, step, through, let_go}
use Rattle.otel_model_stream.specs.Totals.{size, has_number, without_number, recorded_from, recorded_total}
use Rattle.otel_model.specs.Calls.{InstrumentKind}
use Rattle.otel_model.specs.Demands.{Aggregation, Demand, ReaderAnswers}
use Rattle.otel_model.specs.Streams.{is_sum, observes_sums, is_drained, is_delta, kind_of, aggregate_from, aggregate_of}
use Rattle.otel_model.specs.Machine.{if_held, recorded_over}

abbrev pub numbers : Handles → List ℕ
numbers live = map (λ p. p.0) live

-- ======== live handles ========
pub held_is : (h : ℕ) (live : Handles) → has_number h (numbers live) ≡ is_some (held_by h live)
held_is h [] = refl
held_is h (p ∷ ps) = go (p.0 == h) (held_is h ps)
  where
    go : (b : Bool) → has_number h (numbers ps) ≡ is_some (held_by h ps) → (b || has_number h (numbers ps)) ≡ is_some (cond b (Some p.1) (held_by h ps))
    go true e = refl
    go false e = e

without_is : (h : ℕ) (live : Handles) → numbers (without h live) ≡ without_number h (numbers live)
without_is h [] = refl
without_is h (p ∷ ps) = go (p.0 == h) (without_is h ps)
  where
    go : (b : Bool) → numbers (without h ps) ≡ without_number h (numbers ps) → numbers (cond b ps (p ∷ without h ps)) ≡ cond b (numbers ps) (p.0 ∷ without_number h (numbers ps))
    go true e = refl
    go false e = ap (λ l. p.0 ∷ l) e

absent_stays : (h : ℕ) (live : Handles) → held_by h live ≡ None → without h live ≡ live
absent_stays h [] e = refl
absent_stays h (p ∷ ps) e = go (p.0 == h) e (absent_stays h ps)
  where
    go : (b : Bool) → cond b (Some p.1) (held_by h ps) ≡ None → (held_by h ps ≡ None → without h ps ≡ ps) → cond b ps (p ∷ without h ps) ≡ p ∷ ps
    go true e ih = absurd (cc)
    go false e ih = ap (λ l. p ∷ l) (ih e)

-- ======== a stream that keeps its handles ========
-- a collection keeps the live handles
abbrev pub keeps_handles : Kind → Bool
keeps_handles Delta = true
keeps_handles Cumulative = true
keeps_handles Drained = false

plus_zero : (n : ℕ) → n + 0 ≡ n
plus_zero n = omega arith

plus_plus : (a b c : ℕ) → (a + b) + c ≡ a + (b + c)
plus_plus a b c = omega arith

zero_plus : (n : ℕ) → 0 + n ≡ n
zero_plus n = omega arith

module _ (σ : Aggregate) (kind : Kind) (limit : ℕ) where
  -- the total after these events, and what the history holds
  abbrev Is : Machine → List Event → Type 0
  Is m es = (n : ℕ) → recorded_over σ kind limit m (wrap n) es ≡ wrap (n + recorded_from (size σ) (numbers m.live) es)

  -- one value more
  one_more : (m : Machine) (es : List Event) (n a : ℕ) → Is m es → recorded_over σ kind limit m (wrap (wrap n + a)) es ≡ wrap (n + (a + recorded_from (size σ) (numbers m.live) es))
  one_more m es n a ih =
      ap (λ k. recorded_over σ kind limit m k es) (mod-add-mod n (2 ^ 64) a)
      ∙ (ih (n + a) ∙ ap wrap (plus_plus n a (recorded_from (size σ) (numbers m.live) es)))

  -- a record through a handle
  by_handle : (m : Machine) (h : ℕ) (v : Amount) (es : List Event) (n : ℕ) → ((m' : Machine) → Is m' es) → (o : Option AttributeSet) → held_by h m.live ≡ o
      → recorded_over σ kind limit (through o (sample_of σ v) m) (if_held o (wrap (wrap n + size σ v)) (wrap n)) es
      ≡ wrap (n + (cond (has_number h (numbers m.live)) (size σ v) 0 + recorded_from (size σ) (numbers m.live) es))
  by_handle m h v es n ih None e =
      ih m n ∙ ap (λ k. wrap (n + k)) (sym (zero_plus (recorded_from (size σ) (numbers m.live) es)) ∙ sym (λ i. cond ((held_is h m.live ∙ ap is_some e) i) (size σ v) 0 + recorded_from (size σ) (numbers m.live) es))
  by_handle m h v es n ih (Some g) e =
      one_more (through (Some g) (sample_of σ v) m) es n (size σ v) (ih (through (Some g) (sample_of σ v) m))
      ∙ ap (λ k. wrap (n + k)) (sym (λ i. cond ((held_is h m.live ∙ ap is_some e) i) (size σ v) 0 + recorded_from (size σ) (numbers m.live) es))

  -- an unbind
  pub by_unbind : (m : Machine) (h : ℕ) → (o : Option AttributeSet) → held_by h m.live ≡ o → numbers (let_go o h m).live ≡ without_number h (numbers m.live)
  by_unbind m h None e = ap numbers (sym (absent_stays h m.live e)) ∙ without_is h m.live
  by_unbind m h (Some g) e = without_is h m.live

  pub collect_keeps : (k : Kind) (m : Machine) → keeps_handles k ≡ true → (step σ k limit m Collect).live ≡ m.live
  collect_keeps Delta m e = refl
  collect_keeps Cumulative m e = refl
  collect_keeps Drained m e = absurd (false≢true e)

  -- the same live handles
  alike : (m : Machine) (ns : List ℕ) (es : List Event) (n : ℕ) → Is m es → numbers m.live ≡ ns → recorded_over σ kind limit m (wrap n) es ≡ wrap (n + recorded_from (size σ) ns es)
  alike m ns es n ih e = ih n ∙ ap (λ l. wrap (n + recorded_from (size σ) l es)) e

  pub over_is : keeps_handles kind ≡ true → (es : List Event) (m : Machine) → Is m es
  over_is k [] m n = ap wrap (sym (plus_zero n))
  over_is k (Record s v ∷ es) m n = one_more (step σ kind limit m (Record s v)) es n (size σ v) (over_is k es (step σ kind limit m (Record s v)))
  over_is k (Bind h s ∷ es) m n = alike (step σ kind limit m (Bind h s)) (numbers m.live ++ h ∷ []) es n (over_is k es (step σ kind limit m (Bind h s))) (map-append (λ p. p.0) m.live _)
  over_is k (RecordBound h v ∷ es) m n = by_handle m h v es n (over_is k es) (held_by h m.live) refl
  over_is k (Unbind h ∷ es) m n = alike (step σ kind limit m (Unbind h)) (without_number h (numbers m.live)) es n (over_is k es (step σ kind limit m (Unbind h))) (by_unbind m h (held_by h m.live) refl)
  over_is k (Collect ∷ es) m n = alike (step σ kind limit m Collect) (numbers m.live) es n (over_is k es (step σ kind limit m Collect)) (ap numbers (collect_keeps kind m k))

-- ======== a last value counts nothing ========
none_held : (o : Option AttributeSet) (n : ℕ) → if_held o (wrap (wrap n + 0)) (wrap n) ≡ wrap n
none_held None n = refl
none_held (Some g) n = mod-add-mod n (2 ^ 64) 0 ∙ ap wrap (plus_zero n)

last_over : (kind : Kind) (limit : ℕ) (es : List Event) (m : Machine) (n : ℕ) → recorded_over LastValue kind limit m (wrap n) es ≡ wrap n
last_over kind limit [] m n = refl
last_over kind limit (Record s v ∷ es) m n =
    ap (λ k. recorded_over LastValue kind limit (step LastValue kind limit m (Record s v)) k es) (mod-add-mod n (2 ^ 64) 0 ∙ ap wrap (plus_zero n))
    ∙ last_over kind limit es (step LastValue kind limit m (Record s v)) n
last_over kind limit (Bind h s ∷ es) m n = last_over kind limit es (step LastValue kind limit m (Bind h s)) n
last_over kind limit (RecordBound h v ∷ es) m n =
    ap (λ k. recorded_over LastValue kind limit (step LastValue kind limit m (RecordBound h v)) k es) (none_held (held_by h m.live) n)
    ∙ last_over kind limit es (step LastValue kind limit m (RecordBound h v)) n
last_over kind limit (Unbind h ∷ es) m n = last_over kind limit es (step LastValue kind limit m (Unbind h)) n
last_over kind limit (Collect ∷ es) m n = last_over kind limit es (step LastValue kind limit m Collect) n

last_from : (ns : List ℕ) (es : List Event) → recorded_from (size LastValue) ns es ≡ 0
last_from ns [] = refl
last_from ns (Record s v ∷ es) = zero_plus (recorded_from (size LastValue) ns es) ∙ last_from ns es
last_from ns (Bind h s ∷ es) = last_from (ns ++ h ∷ []) es
last_from ns (RecordBound h v ∷ es) = ap (λ k. k + recorded_from (size LastValue) ns es) (none (has_number h ns)) ∙ (zero_plus (recorded_from (size LastValue) ns es) ∙ last_from ns es)
  where
    nothing : ℕ
    nothing = 0

    none : (b : Bool) → cond b nothing nothing ≡ nothing
    none true = refl
    none false = refl
last_from ns (Unbind h ∷ es) = last_from (without_number h ns) es
last_from ns (Collect ∷ es) = last_from ns es

-- ======== the stream of a demand ========
-- a drained stream keeps last values
pub drained_last : (d : Demand) → is_drained d ≡ true → aggregate_of d ≡ LastValue
drained_last d e = go d.aggregation d.identity.kind e
  where
    go : (a : Aggregation) (kind : InstrumentKind) → (is_sum a && observes_sums kind) ≡ true → aggregate_from (is_sum a && observes_sums kind) kind a ≡ LastValue
    go Aggregation.Drop kind e = absurd (false≢true e)
    go Aggregation.Default kind e = absurd (false≢true e)
    go Aggregation.Sum kind e = λ i. cond (e i) LastValue Aggregate.Sum
    go Aggregation.LastValue kind e = refl
    go (Aggregation.ExplicitBucketHistogram bounds m) kind e = absurd (false≢true e)

pub keeps_when : (b delta : Bool) → b ≡ false → keeps_handles (cond b Drained (cond delta Delta Cumulative)) ≡ true
keeps_when true delta e = absurd (true≢false e)
keeps_when false true e = refl
keeps_when false false e = refl

pub recorded_is : (answers : ReaderAnswers) (d : Demand) (es : List Event) → recorded_over (aggregate_of d) (kind_of answers d) d.limit (begin (aggregate_of d)) 0 es ≡ wrap (recorded_total (aggregate_of d) es)
recorded_is answers d es = ⊎_elim
    (λ e. subst Claim (sym (drained_last d e)) (last_over (kind_of answers d) d.limit es (begin LastValue) 0 ∙ sym (ap wrap (last_from [] es))))
    (λ e. over_is (aggregate_of d) (kind_of answers d) d.limit (keeps_when (is_drained d) (is_delta answers d) e) es (begin (aggregate_of d)) 0 ∙ ap wrap (zero_plus (recorded_total (aggregate_of d) es)))
    (cases_Bool (is_drained d))
  where
    Claim : Aggregate → Type 0
    Claim σ = recorded_over σ (kind_of answers d) d.limit (begin σ) 0 es ≡ wrap (recorded_total σ es)
