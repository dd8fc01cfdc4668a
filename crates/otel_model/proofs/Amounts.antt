-- What instruments accepted for a stream, and which handles are its own, over one call more.
use Rattle.std.proofs.Common.{◌≡◌, ⊎_elim, ℕ, zero, suc, ◌+◌, ◌<◌, Bool, true, false, List, [], ◌∷◌, ◌++◌, length, map, refl, arith, sym, ◌∙◌, ap, Some, subst, cond, ◌||◌}
use Rattle.std.specs.Prelude.{◌==◌, ◌^◌, filter, slice_get}
use Rattle.std.proofs.lemmas.Bool.{eqb-true, cases_Bool, true≢false, false≢true}
use Rattle.std.proofs.lemmas.List.{map-append}
use Rattle.std.proofs.lemmas.List.Elements.{filter-append}
use Rattle.std.proofs.Math.Nat.{mod-add-mod, add-mod-mod}
use Rattle.otel_model_stream.specs.Folds.{Aggregate, Sum, LastValue, Histogram, Amount, wrap}
use Rattle.otel_model_stream.specs.Totals.{size, has_number, without_number}
use Rattle.otel_model.specs.Calls.{About}
use Rattle.otel_model.specs.Demands.{Identity, has_identity}
use Rattle.otel_model.specs.State.{InstrumentState, LiveHandle}
use Rattle.otel_model.specs.Refusals.{instrument_held}
use Rattle.otel_model.specs.Sent.{is_fed}
use Rattle.otel_model.specs.Machine.{new_instrument, instrument_after_record, changed_at, without_handle}
use Rattle.otel_model.specs.Accepted.{accepted_amount, accepted_for}
use Rattle.otel_model.proofs.Gather.{cond_same}
use Rattle.otel_model.proofs.Single.{some_is}
pub use Rattle.otel_model.specs.Lawful.{EachOf, kinds_of, handles_of, AreDistinct, held_for}
use Rattle.otel_model.proofs.Plus.{zero_plus, exchanged, grouped}

-- ======== what is accepted ========
amount_more : (σ : Aggregate) (v : Amount) (i : InstrumentState) → accepted_amount σ (instrument_after_record v i) ≡ wrap (accepted_amount σ i + size σ v)
amount_more Sum v i = refl
amount_more LastValue v i = refl
amount_more (Histogram bounds m s) v i = refl

nothing_yet : (σ : Aggregate) (about : About) → accepted_amount σ (new_instrument about) ≡ 0
nothing_yet Sum about = refl
nothing_yet LastValue about = refl
nothing_yet (Histogram bounds m s) about = refl

module _ (σ : Aggregate) (x : Identity) (v : Amount) where
  abbrev total : List (List Identity) → List InstrumentState → ℕ
  total feeds is = accepted_for σ x feeds is

  -- an instrument that does not feed the stream
  pub not_fed : (feeds : List (List Identity)) (is : List InstrumentState) (n : ℕ) → is_fed feeds n x ≡ false → accepted_for σ x feeds (changed_at n (instrument_after_record v) is) ≡ accepted_for σ x feeds is
  not_fed [] is n e = refl
  not_fed (xs ∷ feeds) [] n e = refl
  not_fed (xs ∷ feeds) (i ∷ is) zero e =
      ap (λ b. cond b (accepted_amount σ (instrument_after_record v i)) 0 + total feeds is) e ∙ sym (ap (λ b. cond b (accepted_amount σ i) 0 + total feeds is) e)
  not_fed (xs ∷ feeds) (i ∷ is) (suc n) e = ap (λ k. cond (has_identity xs x) (accepted_amount σ i) 0 + k) (not_fed feeds is n e)

  -- one that does
  first_more : (a r s : ℕ) → wrap (wrap (a + s) + r) ≡ wrap ((a + r) + s)
  first_more a r s = mod-add-mod (a + s) (2 ^ 64) r ∙ ap wrap (exchanged a s r)

  later_more : (a r r' s : ℕ) → wrap r' ≡ wrap (r + s) → wrap (a + r') ≡ wrap ((a + r) + s)
  later_more a r r' s e =
      sym (add-mod-mod a r' (2 ^ 64)) ∙ (ap (λ k. wrap (a + k)) e ∙ (add-mod-mod a (r + s) (2 ^ 64) ∙ ap wrap (grouped a r s)))

  pub when_fed : (feeds : List (List Identity)) (is : List InstrumentState) (n : ℕ) (i : InstrumentState) → is_fed feeds n x ≡ true → slice_get is n ≡ Some i
      → wrap (accepted_for σ x feeds (changed_at n (instrument_after_record v) is)) ≡ wrap (accepted_for σ x feeds is + size σ v)
  when_fed [] is n i e g = absurd (false≢true e)
  when_fed (xs ∷ feeds) [] n i e g = absurd (cc)
  when_fed (xs ∷ feeds) (j ∷ is) zero i e g =
      ap (λ b. wrap (cond b (accepted_amount σ (instrument_after_record v j)) 0 + total feeds is)) e
      ∙ (ap (λ k. wrap (k + total feeds is)) (amount_more σ v j)
      ∙ (first_more (accepted_amount σ j) (total feeds is) (size σ v)
      ∙ sym (ap (λ b. wrap ((cond b (accepted_amount σ j) 0 + total feeds is) + size σ v)) e)))
  when_fed (xs ∷ feeds) (j ∷ is) (suc n) i e g =
      later_more (cond (has_identity xs x) (accepted_amount σ j) 0) (total feeds is) (total feeds (changed_at n (instrument_after_record v) is)) (size σ v) (when_fed feeds is n i e g)

-- a new instrument accepted nothing
pub new_adds_nothing : (σ : Aggregate) (x : Identity) (feeds : List (List Identity)) (is : List InstrumentState) (f : List Identity) (about : About) → length feeds ≡ length is
    → accepted_for σ x (feeds ++ f ∷ []) (is ++ new_instrument about ∷ []) ≡ accepted_for σ x feeds is
new_adds_nothing σ x [] [] f about e = ap (λ k. cond (has_identity f x) k 0 + 0) (nothing_yet σ about) ∙ ap (λ k. k + 0) (cond_same (has_identity f x) 0)
new_adds_nothing σ x [] (i ∷ is) f about e = absurd (omega arith)
new_adds_nothing σ x (xs ∷ feeds) [] f about e = absurd (omega arith)
new_adds_nothing σ x (xs ∷ feeds) (i ∷ is) f about e = ap (λ k. cond (has_identity xs x) (accepted_amount σ i) 0 + k) (let h : length feeds ≡ length is = omega arith in new_adds_nothing σ x feeds is f about h)

-- a stream that nothing feeds
pub nothing_accepted : (σ : Aggregate) (x : Identity) (feeds : List (List Identity)) (is : List InstrumentState) → ((n : ℕ) → is_fed feeds n x ≡ false) → accepted_for σ x feeds is ≡ 0
nothing_accepted σ x [] is e = refl
nothing_accepted σ x (xs ∷ feeds) [] e = refl
nothing_accepted σ x (xs ∷ feeds) (i ∷ is) e =
    ap (λ b. cond b (accepted_amount σ i) 0 + accepted_for σ x feeds is) (e 0) ∙ (zero_plus (accepted_for σ x feeds is) ∙ nothing_accepted σ x feeds is (λ n. e (suc n)))

pub same_kinds : (n : ℕ) (v : Amount) (is : List InstrumentState) → kinds_of (changed_at n (instrument_after_record v) is) ≡ kinds_of is
same_kinds n v [] = refl
same_kinds zero v (i ∷ is) = refl
same_kinds (suc n) v (i ∷ is) = ap (λ l. i.kind ∷ l) (same_kinds n v is)

pub same_number : {X : Type 0} (n : ℕ) (f : X → X) (xs : List X) → length (changed_at n f xs) ≡ length xs
same_number n f [] = refl
same_number zero f (x ∷ xs) = refl
same_number (suc n) f (x ∷ xs) = let ih : length (changed_at n f xs) ≡ length xs = same_number n f xs in omega arith

pub each_weaker : {X : Type 0} (P Q : X → Type 0) (xs : List X) → ((x : X) → P x → Q x) → EachOf P xs → EachOf Q xs
each_weaker P Q [] h a = tt
each_weaker P Q (x ∷ xs) h a = (h x a.0, each_weaker P Q xs h a.1)

pub each_push : {X : Type 0} (P : X → Type 0) (xs : List X) (x : X) → EachOf P xs → P x → EachOf P (xs ++ x ∷ [])
each_push P [] x a p = (p, tt)
each_push P (y ∷ ys) x a p = (a.0, each_push P ys x a.1 p)

pub each_map : {X Y : Type 0} (P : X → Type 0) (Q : Y → Type 0) (f : X → Y) (xs : List X) → ((x : X) → P x → Q (f x)) → EachOf P xs → EachOf Q (map f xs)
each_map P Q f [] h a = tt
each_map P Q f (x ∷ xs) h a = (h x a.0, each_map P Q f xs h a.1)

pub each_at : {X : Type 0} (P : X → Type 0) (xs : List X) (n : ℕ) (x : X) → EachOf P xs → slice_get xs n ≡ Some x → P x
each_at P [] n x a e = absurd (cc)
each_at P (y ∷ ys) zero x a e = subst P (some_is y x e) a.0
each_at P (y ∷ ys) (suc n) x a e = each_at P ys n x a.1 e

pub each_without : (P : LiveHandle → Type 0) (h : ℕ) (live : List LiveHandle) → EachOf P live → EachOf P (without_handle h live)
each_without P h [] a = tt
each_without P h (p ∷ ps) a = go (p.0 == h) (each_without P h ps a.1)
  where
    go : (b : Bool) → EachOf P (without_handle h ps) → EachOf P (cond b ps (p ∷ without_handle h ps))
    go true ih = a.1
    go false ih = (a.0, ih)

pub or_false : (a b : Bool) → a ≡ false → b ≡ false → (a || b) ≡ false
or_false a b e f = λ i. e i || f i

apart : (a b : ℕ) → a < b → (a == b) ≡ false
apart a b h = ⊎_elim (λ t. absurd (let e : a ≡ b = eqb-true a b t in omega arith)) (λ t. t) (cases_Bool (a == b))

pub absent_below : (next : ℕ) (live : List LiveHandle) → EachOf (λ p. p.0 < next) live → has_number next (handles_of live) ≡ false
absent_below next [] a = refl
absent_below next (p ∷ ps) a = or_false (p.0 == next) (has_number next (handles_of ps)) (apart p.0 next a.0) (absent_below next ps a.1)

has_push : (h k : ℕ) (ns : List ℕ) → has_number h ns ≡ false → (k == h) ≡ false → has_number h (ns ++ k ∷ []) ≡ false
has_push h k [] e f = or_false (k == h) false f refl
has_push h k (n ∷ ns) e f = go (n == h) e (has_push h k ns)
  where
    go : (b : Bool) → (b || has_number h ns) ≡ false → (has_number h ns ≡ false → (k == h) ≡ false → has_number h (ns ++ k ∷ []) ≡ false) → (b || has_number h (ns ++ k ∷ [])) ≡ false
    go true e ih = e
    go false e ih = ih e f

turned_apart : (a b : ℕ) → a < b → (b == a) ≡ false
turned_apart a b h = ⊎_elim (λ t. absurd (let e : b ≡ a = eqb-true b a t in omega arith)) (λ t. t) (cases_Bool (b == a))

pub distinct_push : (next n : ℕ) (live : List LiveHandle) → EachOf (λ p. p.0 < next) live → AreDistinct live → AreDistinct (live ++ (next, n) ∷ [])
distinct_push next n [] a d = (refl, tt)
distinct_push next n (p ∷ ps) a d = (
  ap (has_number p.0) (map-append (λ (q : LiveHandle). q.0) ps ((next, n) ∷ [])) ∙ has_push p.0 next (handles_of ps) d.0 (turned_apart p.0 next a.0),
  distinct_push next n ps a.1 d.1,
)

has_without : (h k : ℕ) (live : List LiveHandle) → has_number k (handles_of live) ≡ false → has_number k (handles_of (without_handle h live)) ≡ false
has_without h k [] e = refl
has_without h k (p ∷ ps) e = go (p.0 == k) (p.0 == h) refl e (has_without h k ps)
  where
    go : (b c : Bool) → (p.0 == k) ≡ b → (b || has_number k (handles_of ps)) ≡ false → (has_number k (handles_of ps) ≡ false → has_number k (handles_of (without_handle h ps)) ≡ false)
        → has_number k (handles_of (cond c ps (p ∷ without_handle h ps))) ≡ false
    go true c q e ih = absurd (true≢false e)
    go false true q e ih = e
    go false false q e ih = or_false (p.0 == k) (has_number k (handles_of (without_handle h ps))) q (ih e)

pub distinct_without : (h : ℕ) (live : List LiveHandle) → AreDistinct live → AreDistinct (without_handle h live)
distinct_without h [] d = tt
distinct_without h (p ∷ ps) d = go (p.0 == h) (distinct_without h ps d.1)
  where
    go : (b : Bool) → AreDistinct (without_handle h ps) → AreDistinct (cond b ps (p ∷ without_handle h ps))
    go true ih = d.1
    go false ih = (has_without h p.0 ps d.0, ih)

module _ (feeds : List (List Identity)) (x : Identity) where
  pub held_push : (live : List LiveHandle) (h n : ℕ) → held_for feeds x (live ++ (h, n) ∷ []) ≡ held_for feeds x live ++ cond (is_fed feeds n x) (h ∷ []) []
  held_push live h n =
      ap handles_of (filter-append (λ (p : LiveHandle). is_fed feeds p.1 x) live ((h, n) ∷ []))
      ∙ (map-append (λ (p : LiveHandle). p.0) (filter (λ (p : LiveHandle). is_fed feeds p.1 x) live) (filter (λ (p : LiveHandle). is_fed feeds p.1 x) ((h, n) ∷ []))
      ∙ ap (λ l. held_for feeds x live ++ l) (go (is_fed feeds n x)))
    where
      go : (b : Bool) → handles_of (cond b ((h, n) ∷ []) []) ≡ cond b (h ∷ []) []
      go true = refl
      go false = refl

  pub absent_held : (h : ℕ) (live : List LiveHandle) → has_number h (handles_of live) ≡ false → has_number h (held_for feeds x live) ≡ false
  absent_held h [] e = refl
  absent_held h (p ∷ ps) e = go (is_fed feeds p.1 x) (p.0 == h) refl e (absent_held h ps)
    where
      go : (b c : Bool) → (p.0 == h) ≡ c → (c || has_number h (handles_of ps)) ≡ false → (has_number h (handles_of ps) ≡ false → has_number h (held_for feeds x ps) ≡ false)
          → has_number h (handles_of (cond b (p ∷ filter (λ (p : LiveHandle). is_fed feeds p.1 x) ps) (filter (λ (p : LiveHandle). is_fed feeds p.1 x) ps))) ≡ false
      go b true q e ih = absurd (true≢false e)
      go true false q e ih = or_false (p.0 == h) (has_number h (held_for feeds x ps)) q (ih e)
      go false false q e ih = ih e

  -- a stream has a handle exactly if the handle's instrument feeds it
  pub held_when_fed : (h n : ℕ) (live : List LiveHandle) → AreDistinct live → instrument_held h live ≡ Some n → has_number h (held_for feeds x live) ≡ is_fed feeds n x
  held_when_fed h n [] d e = absurd (cc)
  held_when_fed h n (p ∷ ps) d e = ⊎_elim
      (λ t. here (is_fed feeds p.1 x) t (ap (λ k. is_fed feeds k x) (some_is p.1 n (sym (ap (λ b. cond b (Some p.1) (instrument_held h ps)) t) ∙ e)))
      (absent_held h ps (ap (λ k. has_number k (handles_of ps)) (sym (eqb-true p.0 h t)) ∙ d.0)))
      (λ t. there (is_fed feeds p.1 x) t (held_when_fed h n ps d.1 (sym (ap (λ b. cond b (Some p.1) (instrument_held h ps)) t) ∙ e)))
      (cases_Bool (p.0 == h))
    where
      here : (b : Bool) → (p.0 == h) ≡ true → b ≡ is_fed feeds n x → has_number h (held_for feeds x ps) ≡ false
          → has_number h (handles_of (cond b (p ∷ filter (λ (p : LiveHandle). is_fed feeds p.1 x) ps) (filter (λ (p : LiveHandle). is_fed feeds p.1 x) ps))) ≡ is_fed feeds n x
      here true t f a = (λ i. t i || has_number h (held_for feeds x ps)) ∙ f
      here false t f a = a ∙ f

      there : (b : Bool) → (p.0 == h) ≡ false → has_number h (held_for feeds x ps) ≡ is_fed feeds n x
          → has_number h (handles_of (cond b (p ∷ filter (λ (p : LiveHandle). is_fed feeds p.1 x) ps) (filter (λ (p : LiveHandle). is_fed feeds p.1 x) ps))) ≡ is_fed feeds n x
      there true t f = (λ i. t i || has_number h (held_for feeds x ps)) ∙ f
      there false t f = f

  absent_number : (h : ℕ) (ns : List ℕ) → has_number h ns ≡ false → without_number h ns ≡ ns
  absent_number h [] e = refl
  absent_number h (n ∷ ns) e = go (n == h) e (absent_number h ns)
    where
      go : (b : Bool) → (b || has_number h ns) ≡ false → (has_number h ns ≡ false → without_number h ns ≡ ns) → cond b ns (n ∷ without_number h ns) ≡ n ∷ ns
      go true e ih = absurd (true≢false e)
      go false e ih = ap (λ l. n ∷ l) (ih e)

  -- the end of a handle
  pub held_without : (h : ℕ) (live : List LiveHandle) → AreDistinct live → held_for feeds x (without_handle h live) ≡ without_number h (held_for feeds x live)
  held_without h [] d = refl
  held_without h (p ∷ ps) d = ⊎_elim
      (λ t. ap (λ b. held_for feeds x (cond b ps (p ∷ without_handle h ps))) t
      ∙ here (is_fed feeds p.1 x) t (absent_held h ps (ap (λ k. has_number k (handles_of ps)) (sym (eqb-true p.0 h t)) ∙ d.0)))
      (λ t. ap (λ b. held_for feeds x (cond b ps (p ∷ without_handle h ps))) t ∙ there (is_fed feeds p.1 x) t (held_without h ps d.1))
      (cases_Bool (p.0 == h))
    where
      rest : List LiveHandle
      rest = filter (λ (p : LiveHandle). is_fed feeds p.1 x) ps

      here : (b : Bool) → (p.0 == h) ≡ true → has_number h (held_for feeds x ps) ≡ false
          → held_for feeds x ps ≡ without_number h (handles_of (cond b (p ∷ filter (λ (p : LiveHandle). is_fed feeds p.1 x) ps) (filter (λ (p : LiveHandle). is_fed feeds p.1 x) ps)))
      here true t a = sym (λ i. cond (t i) (held_for feeds x ps) (p.0 ∷ without_number h (held_for feeds x ps)))
      here false t a = sym (absent_number h (held_for feeds x ps) a)

      there : (b : Bool) → (p.0 == h) ≡ false → held_for feeds x (without_handle h ps) ≡ without_number h (held_for feeds x ps)
          → handles_of (cond b (p ∷ filter (λ (p : LiveHandle). is_fed feeds p.1 x) (without_handle h ps)) (filter (λ (p : LiveHandle). is_fed feeds p.1 x) (without_handle h ps)))
          ≡ without_number h (handles_of (cond b (p ∷ filter (λ (p : LiveHandle). is_fed feeds p.1 x) ps) (filter (λ (p : LiveHandle). is_fed feeds p.1 x) ps)))
      there true t e = ap (λ l. p.0 ∷ l) e ∙ sym (λ i. cond (t i) (held_for feeds x ps) (p.0 ∷ without_number h (held_for feeds x ps)))
      there false t e = e
