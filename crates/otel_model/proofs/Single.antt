-- One reader by itself: a call moves it as if it were the only reader.
use Rattle.std.proofs.Common.{◌≡◌, ◌⊎◌, inl, inr, ⊎_elim, ℕ, zero, suc, ◌<◌, Bool, true, false, List, [], ◌∷◌, length, map, refl, arith, sym, ◌∙◌, ap, Option, Some, None, subst, cond}
use Rattle.std.specs.Prelude.{◌==◌, slice_get, nat_lt, ◌||◌, not}
use Rattle.std.proofs.lemmas.Bool.{eqb-true, eqb-false, cases_Bool, true≢false, false≢true, lt-ltb}
use Rattle.otel_model.specs.Calls.{Call, Meter, Build, Record, Bind, RecordBound, Unbind, Collect, Flush, Shutdown, Fault, OutOfMemory, UnknownMeter, UnknownInstrument, UnknownHandle, UnknownReader, WrongNumber, WrongKind, AlreadyShutdown, ReaderShutDown, ReadersFailed, Exhausted, LedgerFull, UseWorker, WorkersMissing, Reply}
use Rattle.otel_model.specs.Demands.{Views}
use Rattle.otel_model.specs.State.{Shared, ReaderPart, State}
use Rattle.otel_model.specs.Refusals.{refusal}
use Rattle.otel_model.specs.Sent.{scope_of}
use Rattle.otel_model.specs.Machine.{changed_at, part_after_build, part_after_call, readers_after, shared_after, accepted_after, new_part, new_state}
use Rattle.otel_model.specs.Steps.{collect_reply, answer_of, reply_by, after_by, reply_of, after, asks_readers, Step, Run, replies_of}
use Rattle.otel_model.specs.Laws.{IsAsOnlyReader}
use Rattle.otel_model.specs.Only.{with_one_reader, is_short, is_others, renumbered_call, only, replies_left, without_asking, EachAsAlone}

-- ======== lists ========
pub some_is : {X : Type 0} (x y : X) → Some x ≡ Some y → x ≡ y
some_is x y e = cc

pub get_changed : {X : Type 0} (n : ℕ) (f : X → X) (xs : List X) (x : X) → slice_get xs n ≡ Some x → slice_get (changed_at n f xs) n ≡ Some (f x)
get_changed n f [] x e = absurd (cc)
get_changed zero f (y ∷ ys) x e = ap (λ z. Some (f z)) (some_is y x e)
get_changed (suc n) f (y ∷ ys) x e = get_changed n f ys x e

pub get_other : {X : Type 0} (n r : ℕ) (f : X → X) (xs : List X) → (n ≡ r → ⊥) → slice_get (changed_at n f xs) r ≡ slice_get xs r
get_other n r f [] ne = refl
get_other zero zero f (y ∷ ys) ne = absurd (ne refl)
get_other zero (suc r) f (y ∷ ys) ne = refl
get_other (suc n) zero f (y ∷ ys) ne = refl
get_other (suc n) (suc r) f (y ∷ ys) ne = get_other n r f ys (λ e. ne (ap suc e))

pub get_map : {X Y : Type 0} (f : X → Y) (xs : List X) (n : ℕ) (x : X) → slice_get xs n ≡ Some x → slice_get (map f xs) n ≡ Some (f x)
get_map f [] n x e = absurd (cc)
get_map f (y ∷ ys) zero x e = ap (λ z. Some (f z)) (some_is y x e)
get_map f (y ∷ ys) (suc n) x e = get_map f ys n x e

get_lt : {X : Type 0} (xs : List X) (n : ℕ) (x : X) → slice_get xs n ≡ Some x → n < length xs
get_lt [] n x e = absurd (cc)
get_lt (y ∷ ys) zero x e = omega arith
get_lt (y ∷ ys) (suc n) x e = let ih : n < length ys = get_lt ys n x e in omega arith

pub get_within : {X : Type 0} (xs : List X) (n : ℕ) (x : X) → slice_get xs n ≡ Some x → nat_lt n (length xs) ≡ true
get_within xs n x e = lt-ltb n (length xs) (get_lt xs n x e)

-- ======== steps ========
-- a step is refused for memory and changes nothing, or is the machine's
pub step_cases : (views : Views) (old new : State) (call : Call) (reply : Reply) → Step views old call reply new
    → ((is_short reply ≡ true) × (new ≡ old)) ⊎ ((is_short reply ≡ false) × (new ≡ after views old call) × ((asks_readers call ≡ true) ⊎ (reply ≡ reply_of old call)))
step_cases views old new call (Reply.Meter n) s = inr (refl, s.1, inr s.0)
step_cases views old new call (Reply.Instrument n) s = inr (refl, s.1, inr s.0)
step_cases views old new call (Reply.Handle n) s = inr (refl, s.1, inr s.0)
step_cases views old new call Reply.Done s = inr (refl, s.1, inr s.0)
step_cases views old new call (Reply.Collected c) s = inr (refl, s.1, inr s.0)
step_cases views old new call (Reply.Refused OutOfMemory) s = inl (refl, s.2)
step_cases views old new call (Reply.Refused UnknownMeter) s = inr (refl, s.1, inr s.0)
step_cases views old new call (Reply.Refused UnknownInstrument) s = inr (refl, s.1, inr s.0)
step_cases views old new call (Reply.Refused UnknownHandle) s = inr (refl, s.1, inr s.0)
step_cases views old new call (Reply.Refused UnknownReader) s = inr (refl, s.1, inr s.0)
step_cases views old new call (Reply.Refused WrongNumber) s = inr (refl, s.1, inr s.0)
step_cases views old new call (Reply.Refused WrongKind) s = inr (refl, s.1, inr s.0)
step_cases views old new call (Reply.Refused AlreadyShutdown) s = inr (refl, s.1, inr s.0)
step_cases views old new call (Reply.Refused ReaderShutDown) s = inr (refl, s.1, inr s.0)
step_cases views old new call (Reply.Refused (ReadersFailed failed first)) s = inr (refl, s.2, inl s.0)
step_cases views old new call (Reply.Refused Exhausted) s = inr (refl, s.1, inr s.0)
step_cases views old new call (Reply.Refused LedgerFull) s = inr (refl, s.1, inr s.0)
step_cases views old new call (Reply.Refused UseWorker) s = inr (refl, s.1, inr s.0)
step_cases views old new call (Reply.Refused WorkersMissing) s = inr (refl, s.1, inr s.0)

-- what a call leaves of a reader that it concerns
abbrev pub part_after : Views → Shared → Call → ReaderPart → ReaderPart
part_after views s (Meter scope) p = p
part_after views s (Build meter about now) p = part_after_build views (scope_of s.meters meter) about now p
part_after views s (Record n v l) p = part_after_call s.next (Record n v l) p
part_after views s (Bind n l) p = part_after_call s.next (Bind n l) p
part_after views s (RecordBound h v) p = part_after_call s.next (RecordBound h v) p
part_after views s (Unbind h) p = part_after_call s.next (Unbind h) p
part_after views s (Collect r now os) p = part_after_call s.next (Collect r now os) p
part_after views s Flush p = p
part_after views s Shutdown p = p

mine : (q r : ℕ) → not (q == r) ≡ false → q ≡ r
mine q r e = eqb-true q r (unnot (q == r) e)
  where
    unnot : (b : Bool) → not b ≡ false → b ≡ true
    unnot true e = refl
    unnot false e = absurd (true≢false e)

pub others : (q r : ℕ) → not (q == r) ≡ true → q ≡ r → ⊥
others q r e = eqb-false q r (unnot (q == r) e)
  where
    unnot : (b : Bool) → not b ≡ true → b ≡ false
    unnot true e = absurd (false≢true e)
    unnot false e = refl

-- the reader's part after a call that concerns it
pub concerned : (views : Views) (s : Shared) (call : Call) (ps : List ReaderPart) (r : ℕ) (p : ReaderPart) → slice_get ps r ≡ Some p → is_others r call ≡ false
    → slice_get (readers_after views s call ps) r ≡ Some (part_after views s call p)
concerned views s (Meter scope) ps r p h m = h
concerned views s (Build meter about now) ps r p h m = get_map (part_after_build views (scope_of s.meters meter) about now) ps r p h
concerned views s (Record n v l) ps r p h m = get_map (part_after_call s.next (Record n v l)) ps r p h
concerned views s (Bind n l) ps r p h m = get_map (part_after_call s.next (Bind n l)) ps r p h
concerned views s (RecordBound k v) ps r p h m = get_map (part_after_call s.next (RecordBound k v)) ps r p h
concerned views s (Unbind k) ps r p h m = get_map (part_after_call s.next (Unbind k)) ps r p h
concerned views s (Collect q now os) ps r p h m =
    ap (λ n. slice_get (changed_at n (part_after_call s.next (Collect q now os)) ps) r) (mine q r m) ∙ get_changed r (part_after_call s.next (Collect q now os)) ps p h
concerned views s Flush ps r p h m = h
concerned views s Shutdown ps r p h m = h

-- and after another reader's collection
pub unconcerned : (views : Views) (s : Shared) (call : Call) (ps : List ReaderPart) (r : ℕ) → is_others r call ≡ true
    → (slice_get (readers_after views s call ps) r ≡ slice_get ps r) × (shared_after s call ≡ s)
unconcerned views s (Meter scope) ps r m = absurd (false≢true m)
unconcerned views s (Build meter about now) ps r m = absurd (false≢true m)
unconcerned views s (Record n v l) ps r m = absurd (false≢true m)
unconcerned views s (Bind n l) ps r m = absurd (false≢true m)
unconcerned views s (RecordBound k v) ps r m = absurd (false≢true m)
unconcerned views s (Unbind k) ps r m = absurd (false≢true m)
unconcerned views s (Collect q now os) ps r m = (get_other q r (part_after_call s.next (Collect q now os)) ps (others q r m), refl)
unconcerned views s Flush ps r m = absurd (false≢true m)
unconcerned views s Shutdown ps r m = absurd (false≢true m)

-- the only reader moves in the same way
lone : (views : Views) (s : Shared) (call : Call) (p : ReaderPart) → readers_after views s (renumbered_call call) (p ∷ []) ≡ part_after views s call p ∷ []
lone views s (Meter scope) p = refl
lone views s (Build meter about now) p = refl
lone views s (Record n v l) p = refl
lone views s (Bind n l) p = refl
lone views s (RecordBound k v) p = refl
lone views s (Unbind k) p = refl
lone views s (Collect q now os) p = refl
lone views s Flush p = refl
lone views s Shutdown p = refl

lone_shared : (s : Shared) (call : Call) → shared_after s (renumbered_call call) ≡ shared_after s call
lone_shared s (Meter scope) = refl
lone_shared s (Build meter about now) = refl
lone_shared s (Record n v l) = refl
lone_shared s (Bind n l) = refl
lone_shared s (RecordBound k v) = refl
lone_shared s (Unbind k) = refl
lone_shared s (Collect q now os) = refl
lone_shared s Flush = refl
lone_shared s Shutdown = refl

-- the same refusal, and the same answer
lone_refusal : (s : Shared) (n r : ℕ) (call : Call) → nat_lt r n ≡ true → is_others r call ≡ false → refusal s n call ≡ refusal s 1 (renumbered_call call)
lone_refusal s n r (Meter scope) h m = refl
lone_refusal s n r (Build meter about now) h m = refl
lone_refusal s n r (Record k v l) h m = refl
lone_refusal s n r (Bind k l) h m = refl
lone_refusal s n r (RecordBound k v) h m = refl
lone_refusal s n r (Unbind k) h m = refl
lone_refusal s n r (Collect q now os) h m = ap (λ b. cond b (refusal s 1 (Collect 0 now os)) (Some UnknownReader)) (ap (λ k. nat_lt k n) (mine q r m) ∙ h)
lone_refusal s n r Flush h m = refl
lone_refusal s n r Shutdown h m = refl

lone_answer : (st : State) (call : Call) (r : ℕ) (p : ReaderPart) → slice_get st.readers r ≡ Some p → is_others r call ≡ false → answer_of st call ≡ answer_of (with_one_reader p st) (renumbered_call call)
lone_answer st (Meter scope) r p h m = refl
lone_answer st (Build meter about now) r p h m = refl
lone_answer st (Record k v l) r p h m = refl
lone_answer st (Bind k l) r p h m = refl
lone_answer st (RecordBound k v) r p h m = refl
lone_answer st (Unbind k) r p h m = refl
lone_answer st (Collect q now os) r p h m = ap (collect_reply st.shared now os) (ap (λ k. slice_get st.readers k) (mine q r m) ∙ h)
lone_answer st Flush r p h m = refl
lone_answer st Shutdown r p h m = refl

-- the reader in a state, and the state of that reader alone
abbrev Follows : ℕ → State → State → Type 0
Follows r new single = (p : ReaderPart) × (slice_get new.readers r ≡ Some p) × (with_one_reader p new ≡ single)

step_alone : (views : Views) (st : State) (call : Call) (r : ℕ) (p : ReaderPart) → slice_get st.readers r ≡ Some p → is_others r call ≡ false
    → Follows r (after views st call) (after views (with_one_reader p st) (renumbered_call call)) × (reply_of st call ≡ reply_of (with_one_reader p st) (renumbered_call call))
step_alone views st call r p h m = go (refusal st.shared (length st.readers) call) (refusal st.shared 1 (renumbered_call call)) (lone_refusal st.shared (length st.readers) r call (get_within st.readers r p h) m)
  where
    go : (f g : Option Fault) → f ≡ g
        → Follows r (after_by f st (accepted_after views st call)) (after_by g (with_one_reader p st) (accepted_after views (with_one_reader p st) (renumbered_call call)))
        × (reply_by f (answer_of st call) ≡ reply_by g (answer_of (with_one_reader p st) (renumbered_call call)))
    go None None e = (
      (
        part_after views st.shared call p,
        concerned views st.shared call st.readers r p h m,
        sym (λ i. record { shared = lone_shared st.shared call i; readers = lone views st.shared call p i }),
      ),
      lone_answer st call r p h m,
    )
    go None (Some g) e = absurd (cc)
    go (Some f) None e = absurd (cc)
    go (Some f) (Some g) e = ((p, h, refl), ap (λ (x : Fault). Reply.Refused x) (some_is f g e))

step_unseen : (views : Views) (st : State) (call : Call) (r : ℕ) (p : ReaderPart) → slice_get st.readers r ≡ Some p → is_others r call ≡ true → Follows r (after views st call) (with_one_reader p st)
step_unseen views st call r p h m = go (refusal st.shared (length st.readers) call)
  where
    go : (f : Option Fault) → Follows r (after_by f st (accepted_after views st call)) (with_one_reader p st)
    go None =
        let u = unconcerned views st.shared call st.readers r m in
        (p, u.0 ∙ h, (λ i. record { shared = u.1 i; readers = p ∷ [] }))
    go (Some f) = (p, h, refl)

asks_same : (call : Call) → asks_readers (renumbered_call call) ≡ asks_readers call
asks_same (Meter scope) = refl
asks_same (Build meter about now) = refl
asks_same (Record n v l) = refl
asks_same (Bind n l) = refl
asks_same (RecordBound k v) = refl
asks_same (Unbind k) = refl
asks_same (Collect q now os) = refl
asks_same Flush = refl
asks_same Shutdown = refl

-- ======== runs ========
-- one call more
join : (views : Views) (old mid : State) (call : Call) (reply : Reply) (calls : List Call) (replies : List Reply)
    → ((is_short reply ≡ true) × (mid ≡ old)) ⊎ ((is_short reply ≡ false) × (mid ≡ after views old call) × ((asks_readers call ≡ true) ⊎ (reply ≡ reply_of old call)))
    → EachAsAlone views mid calls replies → EachAsAlone views old (call ∷ calls) (reply ∷ replies)
join views old mid call reply calls replies s ih r p h = ⊎_elim short long s
  where
    L : List Reply
    L = replies_left r calls replies

    O : List Call
    O = only r calls replies

    -- the claim once it is known whether the call is looked at
    Claim : Bool → Type 0
    Claim b = cond b L (cond (asks_readers call) L (reply ∷ L)) ≡ without_asking (cond b O (renumbered_call call ∷ O)) (replies_of views (with_one_reader p old) (cond b O (renumbered_call call ∷ O)))

    Same : State → Type 0
    Same st = EachAsAlone views st calls replies

    short : (is_short reply ≡ true) × (mid ≡ old) → Claim (is_short reply || is_others r call)
    short e = subst Claim (sym (ap (λ b. b || is_others r call) e.0)) (subst Same e.1 ih r p h)

    unseen : Same (after views old call) → is_others r call ≡ true → Claim (false || is_others r call)
    unseen later e =
        let f = step_unseen views old call r p h e in
        subst Claim (sym e) (later r f.0 f.1 ∙ ap (λ st. without_asking O (replies_of views st O)) f.2)

    -- what is left of the reply and of the reply alone
    Kept : Bool → Bool → Type 0
    Kept a b = cond a L (reply ∷ L) ≡ cond b (without_asking O (replies_of views (after views (with_one_reader p old) (renumbered_call call)) O)) (reply_of (with_one_reader p old) (renumbered_call call) ∷ without_asking O (replies_of views (after views (with_one_reader p old) (renumbered_call call)) O))

    seen : Same (after views old call) → (asks_readers call ≡ true) ⊎ (reply ≡ reply_of old call) → is_others r call ≡ false → Claim (false || is_others r call)
    seen later w e =
        let f = step_alone views old call r p h e in
        let rest : L ≡ without_asking O (replies_of views (after views (with_one_reader p old) (renumbered_call call)) O) = later r f.0.0 f.0.1 ∙ ap (λ st. without_asking O (replies_of views st O)) f.0.2 in
        subst Claim (sym e) (⊎_elim
        (λ a. subst (λ b. Kept b (asks_readers (renumbered_call call))) (sym a) (subst (Kept true) (sym (asks_same call ∙ a)) rest))
        (λ q. subst (Kept (asks_readers call)) (sym (asks_same call)) (both (asks_readers call) rest (q ∙ f.1)))
        w)
      where
        both : (b : Bool) → L ≡ without_asking O (replies_of views (after views (with_one_reader p old) (renumbered_call call)) O) → reply ≡ reply_of (with_one_reader p old) (renumbered_call call) → Kept b b
        both true e q = e
        both false e q = λ i. q i ∷ e i

    long : (is_short reply ≡ false) × (mid ≡ after views old call) × ((asks_readers call ≡ true) ⊎ (reply ≡ reply_of old call)) → Claim (is_short reply || is_others r call)
    long e =
        let later : Same (after views old call) = subst Same e.1 ih in
        subst Claim (sym (ap (λ b. b || is_others r call) e.0)) (⊎_elim (unseen later) (seen later e.2) (cases_Bool (is_others r call)))

pub as_alone : (views : Views) (old new : State) (calls : List Call) (replies : List Reply) → Run views old calls replies new → EachAsAlone views old calls replies
as_alone views old new [] [] run = λ r p h. refl
as_alone views old new [] (reply ∷ replies) run = absurd run
as_alone views old new (call ∷ calls) [] run = absurd run
as_alone views old new (call ∷ calls) (reply ∷ replies) run = join views old run.0 call reply calls replies (step_cases views old run.0 call reply run.1) (as_alone views run.0 new calls replies run.2)

pub as_only : IsAsOnlyReader
as_only views resource identity readers calls replies new run r answers h =
    as_alone views (new_state resource identity readers) new calls replies run r (new_part answers) (get_map new_part readers r answers h)
