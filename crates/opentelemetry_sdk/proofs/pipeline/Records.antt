-- What is done stream by stream is the model's call.
use Rattle.std.proofs.Common.{◌≡◌, ℕ, zero, suc, ◌+◌, ◌<◌, ◌==◌, Bool, true, false, cond, not, ◌||◌, List, [], ◌∷◌, ◌++◌, map, length, Option, Some, None, IfSome, slice_get, refl, sym, ◌∙◌, ap, subst, arith, eq-eqb, ne_eqb, eqb-true}
use Rattle.std.specs.Cmp.{booleans_Decides}
use Rattle.std.specs.Option.{option_map}
use Rattle.std.specs.Prelude.{All}
use Rattle.std.proofs.Common.{⊎_elim}
use Rattle.std.proofs.lemmas.List.Elements.{All-tail}
use Rattle.std.proofs.lemmas.Option.{slice_get-map}
use Rattle.std.proofs.lemmas.Bool.{cases_Bool, cond_both, true≢false}
use Rattle.otel_common.specs.declared.attributes.KeyValue.{KeyValue}
use Rattle.otel_data.specs.declared.numbers.NumberValue.{NumberValue}
use Rattle.otel_aggregate.specs.Any.{is_signed_value, amount_of}
use Rattle.otel_aggregate.specs.value_map.Contents.{next_of}
use Rattle.otel_aggregate.proofs.value_map.CanonicalSets.{canon-nil}
use Rattle.otel_aggregate.proofs.value_map.PlaceLemmas.{used-measured}
use Rattle.otel_model_stream.specs.Folds.{Amount, empty_of, sample_of, wrap}
use Rattle.otel_model_stream.specs.Maps.{MapState}
use Rattle.otel_model_stream.specs.Sets.{AllowList, AttributeSet, none_set, set_of}
use Rattle.otel_model_stream.specs.Totals.{has_number, size}
use Rattle.otel_model.specs.Calls.{or_else, Call, Record as RecordCall}
use Rattle.otel_model.specs.Demands as model
use Rattle.otel_model.specs.Machine.{stream_after, part_after_call}
use Rattle.otel_model.specs.Sent.{is_fed, set_for}
use Rattle.otel_model.specs.State.{ReaderPart, Stream}
use Rattle.otel_model.specs.Streams.{aggregate_of}
use Rattle.otel_model.proofs.Gather.{identity_eq_self}
use Rattle.otel_model.proofs.Single.{some_is}
use Rattle.opentelemetry_sdk.specs.pipeline.Pipelines.{fates_of, part_by, some_stream, has_stream_at, named_identities, identity_at, identity_of, is_streamed, model_streams, part_of, Piped, AreNumbers, IsLawful, IsReadyFor, IsReady, changed_each, fed_by, number_of, part_changed_by, FeedsType}
use Rattle.opentelemetry_sdk.specs.declared.pipeline.change.Change.TheVariants as change
use Rattle.opentelemetry_sdk.specs.pipeline.Streams.{StreamContents, used_for, with_record, contents_after, contents_after_record, committed_by, takes}
use Rattle.opentelemetry_sdk.proofs.pipeline.Answered.{KeepsAnswer, answer_of, changes, records}
use Rattle.opentelemetry_sdk.proofs.pipeline.Identities.{AreApart, are_apart}
use Rattle.opentelemetry_sdk.proofs.pipeline.Once.{changed_in, fed-once, fold-once}
use Rattle.opentelemetry_sdk.proofs.pipeline.PipelineLemmas.{fates-same, feeds-same}
use Rattle.opentelemetry_sdk.proofs.pipeline.Writes.{unseen-each}

-- ======== numbers and identities ========
-- each of these numbers has a stream
abbrev pub HaveStreams : List ℕ → List StreamContents → Type 0
HaveStreams [] ks = Unit {0}
HaveStreams (n ∷ ns) ks = ((k : StreamContents) × (slice_get ks n ≡ Some k)) × HaveStreams ns ks

pub identity_at-is : (ks : List StreamContents) (n : ℕ) (k : StreamContents) → slice_get ks n ≡ Some k → identity_at ks n ≡ identity_of k ∷ []
identity_at-is ks n k e = rw e refl

-- an instrument feeds a stream by identity exactly if it feeds it by number
pub named-has : (ks : List StreamContents) → AreApart ks → (ns : List ℕ) → HaveStreams ns ks → (i : ℕ) (k : StreamContents) → slice_get ks i ≡ Some k
    → model.has_identity (named_identities ks ns) (identity_of k) ≡ has_number i ns
named-has ks apart [] all i k e = refl
named-has ks apart (n ∷ ns) all i k e =
    let m = all.0.0 in
    ap (λ xs. model.has_identity (xs ++ named_identities ks ns) (identity_of k)) (identity_at-is ks n m all.0.1)
    ∙ λ j. same j || named-has ks apart ns all.1 i k e j
  where
    same : model.identity_eq (identity_of (all.0.0)) (identity_of k) ≡ (n == i)
    same = ⊎_elim
        (λ t. t ∙ sym (eq-eqb n i (apart n i all.0.0 k all.0.1 e t)))
        (λ f. f ∙ sym (ne_eqb n i (λ q. true≢false (sym (ap (λ (m : StreamContents). model.identity_eq (identity_of m) (identity_of k)) (some_is _ _ (sym (all.0.1) ∙ ap (slice_get ks) q ∙ e)) ∙ identity_eq_self (identity_of k)) ∙ f))))
        (cases_Bool (model.identity_eq (identity_of (all.0.0)) (identity_of k)))

pub fed-named : (ks : List StreamContents) (feeds : List (List ℕ)) (n : ℕ) → or_else (slice_get (map (named_identities ks) feeds) n) [] ≡ named_identities ks (or_else (slice_get feeds n) [])
fed-named ks feeds n = ap (λ o. or_else o []) (slice_get-map (named_identities ks) feeds n) ∙ cases (slice_get feeds n)
  where
    cases : (o : Option (List ℕ)) → or_else (option_map (named_identities ks) o) [] ≡ named_identities ks (or_else o [])
    cases None = refl
    cases (Some ns) = refl

get-below : (ks : List StreamContents) (n : ℕ) → n < length ks → (k : StreamContents) × (slice_get ks n ≡ Some k)
get-below [] n h = absurd (omega arith)
get-below (k ∷ ks) zero h = (k, refl)
get-below (k ∷ ks) (suc n) h = get-below ks n (omega arith)

pub numbers-named : (ks : List StreamContents) (ns : List ℕ) → AreNumbers ks ns → HaveStreams ns ks
numbers-named ks [] all = tt
numbers-named ks (n ∷ ns) all = (get-below ks n (all 0 n (omega arith)), numbers-named ks ns (All-tail (λ n. n < length ks) n ns all))

pub fed-numbers : (ks : List StreamContents) (feeds : List (List ℕ)) (n : ℕ) → All (AreNumbers ks) feeds → AreNumbers ks (or_else (slice_get feeds n) [])
fed-numbers ks [] n all = λ i d h. absurd (omega arith)
fed-numbers ks (ns ∷ feeds) zero all = all 0 ns (omega arith)
fed-numbers ks (ns ∷ feeds) (suc n) all = fed-numbers ks feeds n (All-tail (AreNumbers ks) ns feeds all)

-- identities of streams that are there are as many as their numbers
pub some-named : (ks : List StreamContents) (ns : List ℕ) → HaveStreams ns ks → some_stream (named_identities ks ns) ≡ some_stream ns
some-named ks [] all = refl
some-named ks (n ∷ ns) all = ap (λ (xs : List model.Identity). some_stream (xs ++ named_identities ks ns)) (identity_at-is ks n all.0.0 all.0.1)

pub streams-fed : (answers : model.ReaderAnswers) (ks : List StreamContents) (feeds : List (List ℕ)) (n : ℕ) → All (AreNumbers ks) feeds → has_stream_at n (part_by answers ks feeds) ≡ some_stream (or_else (slice_get feeds n) [])
streams-fed answers ks feeds n numbers =
    let ns = or_else (slice_get feeds n) [] in
    ap some_stream (fed-named ks feeds n) ∙ some-named ks ns (numbers-named ks ns (fed-numbers ks feeds n numbers))

pub some-or-none : {X : Type 0} (xs : List X) → not (length xs == 0) ≡ some_stream xs
some-or-none [] = refl
some-or-none (x ∷ xs) = ap not (ne_eqb (length (x ∷ xs)) 0 (λ e. omega (arith, e)))

pub fed-at : (p : Piped) → IsLawful p → (n i : ℕ) (k : StreamContents) → slice_get p.streams i ≡ Some k → is_fed (map (named_identities p.streams) p.feeds) n (identity_of k) ≡ has_number i (fed_by n p)
fed-at p lawful n i k at =
    ap (λ xs. model.has_identity xs (identity_of k)) (fed-named p.streams p.feeds n)
    ∙ named-has p.streams (are_apart p.streams lawful.apart) (fed_by n p) (numbers-named p.streams (fed_by n p) (fed-numbers p.streams p.feeds n lawful.numbers)) i k at

-- what holds of the streams of these numbers
pub there-at : (P : Option StreamContents → Type 0) (ks : List StreamContents) (ns : List ℕ) → All (λ n. P (slice_get ks n)) ns → (i : ℕ) (k : StreamContents) → slice_get ks i ≡ Some k → has_number i ns ≡ true → P (Some k)
there-at P ks [] all i k at h = absurd (true≢false (sym h))
there-at P ks (n ∷ ns) all i k at h = by (n == i) refl h (there-at P ks ns (All-tail (λ n. P (slice_get ks n)) n ns all) i k at)
  where
    by : (b : Bool) → (n == i) ≡ b → (b || has_number i ns) ≡ true → (has_number i ns ≡ true → P (Some k)) → P (Some k)
    by true t q rest = subst P (ap (slice_get ks) (eqb-true n i t) ∙ at) (all 0 n (omega arith))
    by false t q rest = rest q

-- ======== a call that changes the streams that the instrument feeds ========
-- `f` is what becomes of a stream that the instrument feeds
module _ (p : Piped) (lawful : IsLawful p) (next n : ℕ) (call : Call) (f : StreamContents → StreamContents) (keeps : KeepsAnswer f)
    (made : (i : ℕ) (k : StreamContents) → slice_get p.streams i ≡ Some k → is_streamed k ≡ true → has_number i (fed_by n p) ≡ true → is_fed (map (named_identities p.streams) p.feeds) n (identity_of k) ≡ true → stream_after p.answers (map (named_identities p.streams) p.feeds) next call k.stream ≡ (f k).stream)
    (unmade : (i : ℕ) (k : StreamContents) → slice_get p.streams i ≡ Some k → is_streamed k ≡ true → is_fed (map (named_identities p.streams) p.feeds) n (identity_of k) ≡ false → stream_after p.answers (map (named_identities p.streams) p.feeds) next call k.stream ≡ k.stream) where
  abbrev ns : List ℕ
  ns = fed_by n p

  abbrev after : Stream → Stream
  after = stream_after p.answers (map (named_identities p.streams) p.feeds) next call

  one-sent : (i : ℕ) (k : StreamContents) → slice_get p.streams i ≡ Some k → is_streamed k ≡ true → after k.stream ≡ (cond (has_number i ns) (f k) k).stream
  one-sent i k at s = cond_both (has_number i ns) (f k) k (λ (m : StreamContents). after k.stream ≡ m.stream) (λ h. made i k at s h (fed-at p lawful n i k at ∙ h)) (λ h. unmade i k at s (fed-at p lawful n i k at ∙ h))

  -- one stream more, whether it drops or not
  more-sent : (b : Bool) (k m : StreamContents) (ks ms : List StreamContents) → is_streamed k ≡ b → is_streamed m ≡ b → (b ≡ true → after k.stream ≡ m.stream) → map after (model_streams ks) ≡ model_streams ms
      → map after (model_streams (k ∷ ks)) ≡ model_streams (m ∷ ms)
  more-sent true k m ks ms p q e rest = rw (p, q) (λ i. e refl i ∷ rest i)
  more-sent false k m ks ms p q e rest = rw (p, q) rest

  rest-sent : (i : ℕ) (ks : List StreamContents) → ((j : ℕ) (k : StreamContents) → slice_get ks j ≡ Some k → is_streamed k ≡ true → after k.stream ≡ (cond (has_number (i + j) ns) (f k) k).stream) → map after (model_streams ks) ≡ model_streams (changed_in ns f i ks)
  rest-sent i [] each = refl
  rest-sent i (k ∷ ks) each =
      more-sent (is_streamed k) k (cond (has_number i ns) (f k) k) ks (changed_in ns f (suc i) ks) refl (cond_both (has_number i ns) (f k) k (λ (m : StreamContents). is_streamed m ≡ is_streamed k) (λ _. ap (λ (x : Bool × model.Demand). not (model.is_drop x.1.aggregation)) (keeps k)) (λ _. refl))
      (λ s. each 0 k refl s ∙ ap (λ m. (cond (has_number m ns) (f k) k).stream) (omega arith))
      (rest-sent (suc i) ks (λ j m at s. each (suc j) m at s ∙ ap (λ x. (cond (has_number x ns) (f m) m).stream) (omega arith)))

  pub each-sent : part_changed_by f n p ≡ part_after_call next call (part_of p)
  each-sent =
      let new : List StreamContents = changed_each f ns p.streams in
      let same : fates_of new ≡ fates_of p.streams = fates-same new p.streams (unseen-each answer_of f keeps ns p.streams) in
      λ i. record {
        answers = p.answers;
        fates = same i;
        streams = (ap model_streams (fold-once f ns p.streams (fed-once p.feeds n lawful.once)) ∙ sym (rest-sent 0 p.streams (λ j k at s. one-sent j k at s ∙ ap (λ m. (cond (has_number m ns) (f k) k).stream) (omega arith)))) i;
        feeds = feeds-same new p.streams same p.feeds i;
      }

-- ======== records ========
-- a value of the number type of a stream that its instrument feeds
pub typed-fits : (n : ℕ) (value : NumberValue) (p : ReaderPart) (k : StreamContents) → FeedsType n (is_signed_value value) p → is_fed p.feeds n (identity_of k) ≡ true → takes value k ≡ true
typed-fits n value p k typed fed = (booleans_Decides (is_signed_value value) k.stream.demand.identity.signed).1 (sym (typed (identity_of k) fed))

pub record-sent : (p : Piped) → IsLawful p → (next n : ℕ) (value : NumberValue) (l : List KeyValue) → FeedsType n (is_signed_value value) (part_of p) → (f : StreamContents → StreamContents) → KeepsAnswer f
    → ((i : ℕ) (k : StreamContents) → slice_get p.streams i ≡ Some k → has_number i (fed_by n p) ≡ true → takes value k ≡ true → (with_record (set_for k.stream.demand l) (amount_of value) k).stream ≡ (f k).stream)
    → part_changed_by f n p ≡ part_after_call next (RecordCall n (number_of value) l) (part_of p)
record-sent p lawful next n value l typed f keeps made = each-sent p lawful next n (RecordCall n (number_of value) l) f keeps
    (λ i k at s h fed. rw fed (made i k at h (typed-fits n value (part_of p) k typed fed)))
    (λ i k at s fed. rw fed refl)

-- a prepared record is one of the set itself
pub used-recorded : (s : AttributeSet) (v : Amount) (k : StreamContents) → with_record (used_for s k) v k ≡ with_record s v k
used-recorded s v k =
    let q : Stream = k.stream in
    let m : MapState = record { limit = q.demand.limit; empty = empty_of (aggregate_of q.demand); table = q.machine.table } in
    ap (λ (x : MapState). record k { stream = record q { machine = record q.machine { table = x.table }; recorded = wrap (q.recorded + size (aggregate_of q.demand) v) }; pending = [] })
    (used-measured m s (sample_of (aggregate_of q.demand) v))

pub recorded-sent : (next n : ℕ) (value : NumberValue) (l : List KeyValue) (p : Piped) → IsLawful p → IsReadyFor false n l p → FeedsType n (is_signed_value value) (part_of p)
    → part_changed_by (contents_after (change.Prepared value)) n p ≡ part_after_call next (RecordCall n (number_of value) l) (part_of p)
recorded-sent next n value l p lawful ready typed = record-sent p lawful next n value l typed (contents_after (change.Prepared value)) (changes (change.Prepared value))
    (λ i k at h fit.
    ap (λ (x : StreamContents). x.stream) (sym (used-recorded (set_for k.stream.demand l) (amount_of value) k))
    ∙ ap (λ ss. (committed_by (next_of ss) (amount_of value) k).stream) (sym (there-at (λ o. IfSome o (IsReady false l)) p.streams (fed_by n p) ready i k at h).set)
    ∙ ap (λ b. (cond b (committed_by (next_of k.pending) (amount_of value) k) k).stream) (sym fit))

-- a record in one pass
pub taken-sent : (n : ℕ) (value : NumberValue) (l : List KeyValue) (p : Piped) → IsLawful p → FeedsType n (is_signed_value value) (part_of p) → part_changed_by (contents_after_record value l) n p ≡ part_after_call 0 (RecordCall n (number_of value) l) (part_of p)
taken-sent n value l p lawful typed = record-sent p lawful 0 n value l typed (contents_after_record value l) (records value l)
    (λ i k at h fit. ap (λ b. (cond b (with_record (set_for k.stream.demand l) (amount_of value) k) k).stream) (sym fit))

-- the set of no attributes is empty, whatever a stream keeps
set_of-nil : (allow : AllowList) → set_of allow [] ≡ []
set_of-nil None = canon-nil
set_of-nil (Some allow) = canon-nil

-- a record without attributes
pub none-sent : (next n : ℕ) (value : NumberValue) (p : Piped) → IsLawful p → FeedsType n (is_signed_value value) (part_of p) → part_changed_by (contents_after (change.Empty value)) n p ≡ part_after_call next (RecordCall n (number_of value) []) (part_of p)
none-sent next n value p lawful typed = record-sent p lawful next n value [] typed (contents_after (change.Empty value)) (changes (change.Empty value))
    (λ i k at h fit.
    ap (λ set. (with_record set (amount_of value) k).stream) (set_of-nil k.stream.demand.allow)
    ∙ ap (λ b. (cond b (with_record none_set (amount_of value) k) k).stream) (sym fit))
