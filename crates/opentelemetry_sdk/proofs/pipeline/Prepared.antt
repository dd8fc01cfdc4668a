-- Records prepared beside each other, and records of known series made while others stay prepared.
use Rattle.std.proofs.Common.{◌≡◌, ℕ, Bool, true, false, cond, List, [], ◌∷◌, refl, sym, ◌∙◌, ap, subst}
use Rattle.std.specs.List.{AllByRecursion as EachOf}
use Rattle.std.proofs.lemmas.List.{map-id}
use Rattle.otel_common.specs.declared.attributes.KeyValue.{KeyValue}
use Rattle.otel_data.specs.declared.numbers.NumberValue.{NumberValue}
use Rattle.otel_aggregate.specs.Any.{is_signed_value, amount_of}
use Rattle.otel_model_stream.specs.Folds.{empty_of}
use Rattle.otel_model_stream.specs.Sets.{AttributeSet}
use Rattle.otel_model.specs.Calls.{Record}
use Rattle.otel_model.specs.Machine.{part_after_call}
use Rattle.otel_model.specs.State.{ReaderPart}
use Rattle.otel_model.specs.Streams.{aggregate_of}
use Rattle.opentelemetry_sdk.specs.Batches.{prepared_of, prepared_for}
use Rattle.opentelemetry_sdk.specs.Groups.{series_at}
use Rattle.opentelemetry_sdk.specs.declared.metrics.shared.series.Series.{Series}
use Rattle.opentelemetry_sdk.specs.pipeline.Known.{is_known_at, is_known_to}
use Rattle.opentelemetry_sdk.specs.pipeline.Pipelines.{FeedsType, IsLawful, Piped, changed_by, changed_each, fed_by, number_of, part_after_each, part_changed_by, part_of}
use Rattle.opentelemetry_sdk.specs.pipeline.Streams.{StreamContents, contents_after_commit, contents_after_each, contents_after_next, contents_after_record, contents_prepared, contents_with_next, takes, used_for, with_record, without_pending}
use Rattle.opentelemetry_sdk.proofs.pipeline.Drafted.{observed-settled}
use Rattle.opentelemetry_sdk.proofs.pipeline.Known.{fed-known}
use Rattle.opentelemetry_sdk.proofs.pipeline.Once.{changed-swapped, changed-twice, fed-once}
use Rattle.opentelemetry_sdk.proofs.pipeline.PipelineLemmas.{lawful-same, settled-part}
use Rattle.opentelemetry_sdk.proofs.pipeline.Records.{taken-sent, used-recorded}
use Rattle.opentelemetry_sdk.proofs.pipeline.Settled.{known-beside, placed-settled, set_in, used-beside}
use Rattle.opentelemetry_sdk.proofs.pipeline.Writes.{seen-each, unseen-each}

-- after records of these values with the attributes, with what is prepared still prepared
abbrev pub recorded_with : List NumberValue → List KeyValue → StreamContents → StreamContents
recorded_with vs l k = record (contents_after_each vs l k) { pending = k.pending }

-- the reader after them, in all streams that the series' instrument feeds
abbrev pub recorded_by : Series → List NumberValue → Piped → Piped
recorded_by s vs p = changed_by (recorded_with vs s.attributes) s.instrument p

-- ======== one stream ========
-- the stream with these sets prepared
abbrev aside : List AttributeSet → StreamContents → StreamContents
aside x k = record k { pending = x }

-- the set of the entry that the attributes use
abbrev used_in : List KeyValue → StreamContents → AttributeSet
used_in l k = used_for (set_in l k) k

module _ (l : List KeyValue) where
  -- records don't look at what is prepared
  each-aside : (vs : List NumberValue) (k : StreamContents) (x y : List AttributeSet) → aside y (contents_after_each vs l (aside x k)) ≡ aside y (contents_after_each vs l k)
  each-aside [] k x y = refl
  each-aside (v ∷ vs) k x y = by (takes v k) (each-aside vs k x y)
    where
      by : (b : Bool) → aside y (contents_after_each vs l (aside x k)) ≡ aside y (contents_after_each vs l k) → aside y (contents_after_each vs l (cond b (with_record (set_in l k) (amount_of v) k) (aside x k))) ≡ aside y (contents_after_each vs l (cond b (with_record (set_in l k) (amount_of v) k) k))
      by true rest = refl
      by false rest = rest

  -- they leave prepared what is
  each-settled : (vs : List NumberValue) (k : StreamContents) → without_pending (contents_after_each vs l k) ≡ contents_after_each vs l (without_pending k)
  each-settled [] k = refl
  each-settled (v ∷ vs) k = each-settled vs (contents_after_record v l k) ∙ ap (contents_after_each vs l) (observed-settled v l k)

  -- they leave the entry of what is known the same
  each-used : (m : List KeyValue) (vs : List NumberValue) (k : StreamContents) → is_known_to m k.stream ≡ true → used_in m (contents_after_each vs l k) ≡ used_in m k
  each-used m [] k known = refl
  each-used m (v ∷ vs) k known = each-used m vs (contents_after_record v l k) (known-beside l m v k known) ∙ used-beside l m v k known

  -- so a record of others is prepared before or after them
  prepared-later : (m : List KeyValue) (vs : List NumberValue) (k : StreamContents) → is_known_to m k.stream ≡ true → recorded_with vs l (contents_prepared m k) ≡ contents_prepared m (recorded_with vs l k)
  prepared-later m vs k known =
      each-aside vs k (used_in m k ∷ k.pending) (used_in m k ∷ k.pending)
      ∙ ap (λ s. aside (s ∷ k.pending) (contents_after_each vs l k)) (sym (each-used m vs k known))

  -- a record for the set that is prepared next is one of the attributes
  commit-aside : (v : NumberValue) (k : StreamContents) (later : List AttributeSet)
      → aside (used_in l k ∷ later) (contents_after_commit v (aside (used_in l k ∷ later) k)) ≡ aside (used_in l k ∷ later) (contents_after_record v l k)
  commit-aside v k later = by (takes v k)
    where
      by : (b : Bool) → aside (used_in l k ∷ later) (cond b (with_record (used_in l k) (amount_of v) k) (aside (used_in l k ∷ later) k)) ≡ aside (used_in l k ∷ later) (cond b (with_record (set_in l k) (amount_of v) k) k)
      by true = ap (aside (used_in l k ∷ later)) (used-recorded (set_in l k) (amount_of v) k)
      by false = refl

  next-aside : (vs : List NumberValue) (k : StreamContents) (later : List AttributeSet) → is_known_to l k.stream ≡ true
      → contents_with_next vs (aside (used_in l k ∷ later) k) ≡ aside (used_in l k ∷ later) (contents_after_each vs l k)
  next-aside [] k later known = refl
  next-aside (v ∷ vs) k later known =
      let k2 : StreamContents = contents_after_record v l k in
      let same : used_in l k2 ≡ used_in l k = used-beside l l v k known in
      ap (contents_with_next vs) (commit-aside v k later ∙ ap (λ s. aside (s ∷ later) k2) (sym same))
      ∙ next-aside vs k2 later (known-beside l l v k known)
      ∙ ap (λ s. aside (s ∷ later) (contents_after_each vs l k2)) same

  next-made : (vs : List NumberValue) (k : StreamContents) → is_known_to l k.stream ≡ true → contents_after_next vs (contents_prepared l k) ≡ recorded_with vs l k
  next-made vs k known =
      ap (λ b. cond b (record (contents_with_next vs (contents_prepared l k)) { pending = k.pending }) (contents_prepared l k))
      (placed-settled k.stream.demand.limit (empty_of (aggregate_of k.stream.demand)) (set_in l k) k.stream.machine.table.entries ∙ known)
      ∙ ap (aside k.pending) (next-aside vs k k.pending known)

-- ======== a reader ========
-- records of several values, one after another
values-sent : (n : ℕ) (l : List KeyValue) (vs : List NumberValue) (p : Piped) → IsLawful p → EachOf (λ v. FeedsType n (is_signed_value v) (part_of p)) vs → part_changed_by (contents_after_each vs l) n p ≡ part_after_each n vs l (part_of p)
values-sent n l [] p is all = ap (λ ks. part_of (record p { streams = ks })) (sym (map-id _) ∙ unseen-each (λ (k : StreamContents). k) (λ (k : StreamContents). k) (λ k. refl) (fed_by n p) p.streams ∙ map-id p.streams)
values-sent n l (v ∷ vs) p is all =
    let f : StreamContents → StreamContents = contents_after_record v l in
    let g : StreamContents → StreamContents = contents_after_each vs l in
    let sent : part_changed_by f n p ≡ part_after_call 0 (Record n (number_of v) l) (part_of p) = taken-sent n v l p is all.0 in
    ap (λ ks. part_of (record p { streams = ks })) (sym (changed-twice f g (λ k. g (f k)) (fed_by n p) p.streams (fed-once p.feeds n is.once) (λ j k at h. refl)))
    ∙ values-sent n l vs (changed_by f n p) (lawful-same p (changed_by f n p).streams (ap (λ (q : ReaderPart). q.fates) sent) is) (subst (λ (q : ReaderPart). EachOf (λ (w : NumberValue). FeedsType n (is_signed_value w) q) vs) (sym sent) all.1)
    ∙ ap (part_after_each n vs l) sent

-- what is prepared isn't part of the model
part-once : (s : Series) (p : Piped) → part_of (prepared_of s p) ≡ part_of p
part-once s p = settled-part p.answers (prepared_of s p).streams p.streams p.feeds (unseen-each without_pending (contents_prepared s.attributes) (λ k. refl) (fed_by s.instrument p) p.streams)

pub lawful-before : (ss : List Series) (gs : List (ℕ × List NumberValue)) (p : Piped) → IsLawful (prepared_for ss gs p) → IsLawful p
lawful-before ss [] p is = is
lawful-before ss (g ∷ gs) p is = lawful-before ss gs p (lawful-same (prepared_for ss (g ∷ gs) p) (prepared_for ss gs p).streams (sym (ap (λ (q : ReaderPart). q.fates) (part-once (series_at ss g.0) (prepared_for ss gs p)))) is)

lawful-prepared : (ss : List Series) (gs : List (ℕ × List NumberValue)) (p : Piped) → IsLawful p → IsLawful (prepared_for ss gs p)
lawful-prepared ss [] p is = is
lawful-prepared ss (g ∷ gs) p is = lawful-same (prepared_for ss gs p) (prepared_for ss (g ∷ gs) p).streams (ap (λ (q : ReaderPart). q.fates) (part-once (series_at ss g.0) (prepared_for ss gs p))) (lawful-prepared ss gs p is)

pub part-prepared : (ss : List Series) (gs : List (ℕ × List NumberValue)) (p : Piped) → part_of (prepared_for ss gs p) ≡ part_of p
part-prepared ss [] p = refl
part-prepared ss (g ∷ gs) p = part-once (series_at ss g.0) (prepared_for ss gs p) ∙ part-prepared ss gs p

pub part-recorded : (s : Series) (vs : List NumberValue) (p : Piped) → IsLawful p → EachOf (λ (v : NumberValue). FeedsType s.instrument (is_signed_value v) (part_of p)) vs
    → part_of (recorded_by s vs p) ≡ part_after_each s.instrument vs s.attributes (part_of p)
part-recorded s vs p is all =
    let l = s.attributes in
    let ns : List ℕ = fed_by s.instrument p in
    let each : StreamContents → StreamContents = contents_after_each vs l in
    settled-part p.answers (recorded_by s vs p).streams (changed_each each ns p.streams) p.feeds
    (seen-each without_pending (recorded_with vs l) each (each-settled l vs) ns p.streams ∙ sym (seen-each without_pending each each (each-settled l vs) ns p.streams))
    ∙ values-sent s.instrument l vs p is all

-- ======== several prepared records ========
-- the reader knows the series of this group
abbrev pub Knows : List Series → Piped → ℕ × List NumberValue → Type 0
Knows ss p h = is_known_at (series_at ss h.0).instrument (series_at ss h.0).attributes (part_of p) ≡ true

-- records of others are made before these are prepared, or after
all-later : (ss : List Series) (l : List KeyValue) (n : ℕ) (vs : List NumberValue) (gs : List (ℕ × List NumberValue)) (p : Piped) → IsLawful p → EachOf (Knows ss p) gs
    → changed_by (recorded_with vs l) n (prepared_for ss gs p) ≡ prepared_for ss gs (changed_by (recorded_with vs l) n p)
all-later ss l n vs [] p is all = refl
all-later ss l n vs (h ∷ gs) p is all =
    let s : Series = series_at ss h.0 in
    let q : Piped = prepared_for ss gs p in
    let lawful : IsLawful q = lawful-prepared ss gs p is in
    let known : is_known_at s.instrument s.attributes (part_of q) ≡ true = ap (is_known_at s.instrument s.attributes) (part-prepared ss gs p) ∙ all.0 in
    ap (λ ks. record q { streams = ks }) (changed-swapped (contents_prepared s.attributes) (recorded_with vs l) (fed_by s.instrument q) (fed_by n q) q.streams (fed-once q.feeds s.instrument lawful.once) (fed-once q.feeds n lawful.once) (λ j k at fed. prepared-later l s.attributes vs k (fed-known s.attributes q lawful s.instrument known j k at fed)))
    ∙ ap (prepared_of s) (all-later ss l n vs gs p is all.1)

-- the next one is made, and the others stay prepared
pub next-recorded : (ss : List Series) (g : ℕ × List NumberValue) (gs : List (ℕ × List NumberValue)) (p : Piped) → IsLawful p → EachOf (Knows ss p) (g ∷ gs)
    → changed_by (contents_after_next g.1) (series_at ss g.0).instrument (prepared_for ss (g ∷ gs) p) ≡ prepared_for ss gs (recorded_by (series_at ss g.0) g.1 p)
next-recorded ss g gs p is all =
    let s : Series = series_at ss g.0 in
    let q : Piped = prepared_for ss gs p in
    let lawful : IsLawful q = lawful-prepared ss gs p is in
    let known : is_known_at s.instrument s.attributes (part_of q) ≡ true = ap (is_known_at s.instrument s.attributes) (part-prepared ss gs p) ∙ all.0 in
    ap (λ ks. record q { streams = ks }) (changed-twice (contents_prepared s.attributes) (contents_after_next g.1) (recorded_with g.1 s.attributes) (fed_by s.instrument q) q.streams (fed-once q.feeds s.instrument lawful.once) (λ j k at fed. next-made s.attributes g.1 k (fed-known s.attributes q lawful s.instrument known j k at fed)))
    ∙ all-later ss s.attributes s.instrument g.1 gs p is all.1
