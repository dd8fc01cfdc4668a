-- One reader's streams: as the model's part of a reader, and with what the model leaves out.
use Rattle.std.specs.Prelude.{◌≡◌, ◌<◌, ℕ, Bool, not, cond, ◌||◌, true, false, List, [], ◌∷◌, ◌++◌, map, filter, fold, length, take, All, Option, None, Some, IfSome, slice_get, position}
use Rattle.std.specs.List.{IsDistinct, AllByRecursion}
use Rattle.otel_common.specs.declared.attributes.KeyValue.{KeyValue}
use Rattle.otel_data.specs.declared.numbers.NumberValue.{NumberValue}
use Rattle.otel_aggregate.specs.Any.{HaveOneType, is_signed_value, amount_of}
use Rattle.otel_model.specs.Calls.{Number, Record, or_else}
use Rattle.otel_model.specs.Demands.{Identity, Demand, ReaderAnswers, identity_eq, is_drop, is_dropped, fed_identities}
use Rattle.otel_model.specs.State.{Stream, ReaderPart}
use Rattle.otel_model.specs.Machine.{changed_at, part_after_call, part_after_demand}
use Rattle.otel_model.specs.Sent.{is_fed, set_for}
use Rattle.otel_model.specs.Streams.{is_delta, is_drained}
use Rattle.otel_model_stream.specs.Totals.{has_number}
use Rattle.opentelemetry_sdk.specs.declared.pipeline.change.Change.{Change}
use Rattle.opentelemetry_sdk.specs.declared.pipeline.change.Change.TheVariants as change
use Rattle.opentelemetry_sdk.specs.pipeline.Streams.{StreamContents, used_for, without_pending, contents_after_collection}

-- a reader's answers; its streams, in order of making; for each instrument the numbers of those that it feeds; and the
-- seed from which it hashes the sets of records. A demand that drops is kept among the streams, so that it is known
pub record Piped : Type 0 where
  pub answers : ReaderAnswers
  pub streams : List StreamContents
  pub feeds : List (List ℕ)
  pub hash_seed : ℕ

-- ======== the model's part ========
abbrev pub identity_of : StreamContents → Identity
identity_of h = h.stream.demand.identity

abbrev pub stream_identities : List StreamContents → List Identity
stream_identities streams = map identity_of streams

-- the identity of the stream with this number, if there is one
abbrev pub identity_at : List StreamContents → ℕ → List Identity
identity_at streams n = found (slice_get streams n)
  where
    found : Option StreamContents → List Identity
    found None = []
    found (Some h) = identity_of h ∷ []

-- the identities of the streams with these numbers
abbrev pub named_identities : List StreamContents → List ℕ → List Identity
named_identities streams [] = []
named_identities streams (n ∷ ns) = identity_at streams n ++ named_identities streams ns

-- whether the demand makes a stream, that is, doesn't drop
abbrev pub is_streamed : StreamContents → Bool
is_streamed h = not (is_drop h.stream.demand.aggregation)

-- the streams, without those that drop
abbrev pub model_streams : List StreamContents → List Stream
model_streams streams = map (λ (h : StreamContents). h.stream) (filter is_streamed streams)

-- the demands of the streams
abbrev pub fates_of : List StreamContents → List Demand
fates_of streams = map (λ (h : StreamContents). h.stream.demand) streams

-- the part of a reader with these answers and streams, where each instrument feeds the streams with its numbers
abbrev pub part_by : ReaderAnswers → List StreamContents → List (List ℕ) → ReaderPart
part_by answers streams feeds = record {
  answers = answers;
  fates = fates_of streams;
  streams = model_streams streams;
  feeds = map (named_identities streams) feeds;
}

abbrev pub part_of : Piped → ReaderPart
part_of p = part_by p.answers p.streams p.feeds

-- whether the list has an element
abbrev pub some_stream : {X : Type 0} → List X → Bool
some_stream [] = false
some_stream (x ∷ xs) = true

-- whether the instrument feeds a stream of the reader
abbrev pub has_stream_at : ℕ → ReaderPart → Bool
has_stream_at n part = some_stream (or_else (slice_get part.feeds n) [])

-- ======== what holds of the streams ========
-- each of these is the number of a stream
abbrev pub AreNumbers : List StreamContents → List ℕ → Type 0
AreNumbers streams ns = All (λ n. n < length streams) ns

-- no number occurs twice among these, so that no stream is fed twice
abbrev pub AreFedOnce : List ℕ → Type 0
AreFedOnce [] = Unit {0}
AreFedOnce (n ∷ ns) = (has_number n ns ≡ false) × AreFedOnce ns

-- the streams reset as the reader's answers say
abbrev pub AreAnswered : ReaderAnswers → List StreamContents → Type 0
AreAnswered answers streams = AllByRecursion (λ h. h.resets ≡ is_delta answers h.stream.demand) streams

-- no two streams have the same identity, and the instruments feed only streams that are there, each once
pub record IsLawful (p : Piped) : Type 0 where
  pub apart : IsDistinct identity_eq (stream_identities p.streams)
  pub numbers : All (AreNumbers p.streams) p.feeds
  pub once : AllByRecursion AreFedOnce p.feeds

-- ======== builds ========
-- the number of the stream with this identity, if there is one
abbrev pub stream_number : Identity → List Identity → Option ℕ
stream_number x keys = position (identity_eq x) keys

-- these numbers and n, unless it is there already or its stream drops: nothing feeds a stream that drops
abbrev pub fed_once : Bool → ℕ → List ℕ → List ℕ
fed_once drops n ns = cond (drops || has_number n ns) ns (ns ++ n ∷ [])

-- the new reader has the streams and the instruments of the old one, and may have more after them
pub record IsLonger (old new : Piped) : Type 0 where
  pub added : List StreamContents
  pub fed : List (List ℕ)
  pub answers : new.answers ≡ old.answers
  pub streams : new.streams ≡ old.streams ++ added
  pub feeds : new.feeds ≡ old.feeds ++ fed

-- the reader with its first streams and instruments alone
abbrev pub after_cut : ℕ → ℕ → Piped → Piped
after_cut streams instruments p = record { answers = p.answers; streams = take streams p.streams; feeds = take instruments p.feeds; hash_seed = p.hash_seed }

-- the old reader has met this demand, and the demand's stream has the number n
pub record IsMetBy (now : ℕ) (d : Demand) (old new : Piped) (n : ℕ) : Type 0 where
  pub longer : IsLonger old new
  pub part : part_of new ≡ part_after_demand now (part_of old) d
  pub hash_seed : new.hash_seed ≡ old.hash_seed
  pub at : slice_get (stream_identities new.streams) n ≡ Some d.identity

-- the old reader has met these demands of an instrument, which is to feed the streams of these numbers, each once
pub record AreMet (now : ℕ) (demands : List Demand) (old new : Piped) (feeds : List ℕ) : Type 0 where
  pub part : part_of new ≡ fold (part_after_demand now) (part_of old) demands
  pub hash_seed : new.hash_seed ≡ old.hash_seed
  pub numbers : AreNumbers new.streams feeds
  pub once : AreFedOnce feeds
  pub named : named_identities new.streams feeds ≡ fed_identities (is_dropped (fates_of new.streams)) demands

-- the reader's part hashes sets from this seed
abbrev pub HashesFrom : ℕ → Piped → Type 0
HashesFrom seed p = p.hash_seed ≡ seed

-- ======== records ========
-- a value in the words of the model
abbrev pub number_of : NumberValue → Number
number_of value = record { signed = is_signed_value value; amount = amount_of value }

-- the reader's part after a record of each of these values, with these attributes
abbrev pub part_after_each : ℕ → List NumberValue → List KeyValue → ReaderPart → ReaderPart
part_after_each n vs l p = fold (λ (p : ReaderPart) (v : NumberValue). part_after_call 0 (Record n (number_of v) l) p) p vs

-- if the change is one of several values, these have one number type
abbrev pub IsAlike : Change → Type 0
IsAlike (change.Prepared value) = Unit {0}
IsAlike (change.Each values) = HaveOneType values.now
IsAlike (change.Empty value) = Unit {0}
IsAlike (change.Held h place value) = Unit {0}
IsAlike (change.Bind h) = Unit {0}
IsAlike (change.Unbind h) = Unit {0}

-- the elements, once f is done to the one with each of these numbers
abbrev pub changed_each : {X : Type 0} → (X → X) → List ℕ → List X → List X
changed_each f ns xs = fold (λ ys n. changed_at n f ys) xs ns

-- the numbers of the streams that the instrument feeds
abbrev pub fed_by : ℕ → Piped → List ℕ
fed_by instrument p = or_else (slice_get p.feeds instrument) []

-- the entry that the set of these attributes uses is prepared in the stream, for a record or, if it `binds`, for a bind: then
-- room for a handle is made too, unless the stream is drained
pub record IsReady (binds : Bool) (l : List KeyValue) (k : StreamContents) : Type 0 where
  pub set : k.pending ≡ used_for (set_for k.stream.demand l) k ∷ []
  pub room : binds ≡ true → k.room ≡ not (is_drained k.stream.demand)

-- the same of the streams with these numbers, as far as there are such
abbrev pub AreReady : Bool → List KeyValue → List StreamContents → List ℕ → Type 0
AreReady binds l streams ns = All (λ n. IfSome (slice_get streams n) (IsReady binds l)) ns

-- the instrument feeds only streams with this number type
abbrev pub FeedsType : ℕ → Bool → ReaderPart → Type 0
FeedsType instrument signed p = (x : Identity) → is_fed p.feeds instrument x ≡ true → x.signed ≡ signed

-- the same of the streams that the instrument feeds
abbrev pub IsReadyFor : Bool → ℕ → List KeyValue → Piped → Type 0
IsReadyFor binds instrument l p = AreReady binds l p.streams (fed_by instrument p)

-- the streams, with nothing prepared and no room made
abbrev pub all_without_pending : List StreamContents → List StreamContents
all_without_pending streams = map without_pending streams

-- the reader, once f is done to each stream that the instrument feeds
abbrev pub changed_by : (StreamContents → StreamContents) → ℕ → Piped → Piped
changed_by f instrument p = record p { streams = changed_each f (fed_by instrument p) p.streams }

-- its part
abbrev pub part_changed_by : (StreamContents → StreamContents) → ℕ → Piped → ReaderPart
part_changed_by f instrument p = part_of (changed_by f instrument p)

-- ======== collections ========
-- the streams after a collection at a moment
abbrev pub all_after_collection : ℕ → List StreamContents → List StreamContents
all_after_collection now streams = map (contents_after_collection now) streams
