-- Streams that know attributes: records of these make no entry there, and leave them known.
use Rattle.std.proofs.Common.{◌≡◌, ℕ, nat_lt, Bool, true, false, cond, not, ◌||◌, ◌&&◌, List, [], ◌∷◌, ◌++◌, refl, sym, ◌∙◌, ap}
use Rattle.std.proofs.lemmas.Bool.{cond_both, or_left, or_right}
use Rattle.std.proofs.lemmas.List.Folds.{list_any-append}
use Rattle.otel_common.specs.Equality.{set_eq}
use Rattle.otel_common.specs.declared.attributes.KeyValue.{KeyValue}
use Rattle.otel_data.specs.declared.numbers.NumberValue.{NumberValue}
use Rattle.otel_model_stream.specs.Folds.{Fold, empty_of, sample_of}
use Rattle.otel_model_stream.specs.Entries.{Entry, new_entry, is_of, has, number_counted, entries_with_place, entry_for, write}
use Rattle.otel_model_stream.specs.Maps.{bound_to}
use Rattle.otel_model_stream.specs.Sets.{AttributeSet, none_set, over_set, set_of}
use Rattle.otel_model_stream.proofs.Sets.{set_eq_true, set_eq_self, over_apart}
use Rattle.otel_aggregate.specs.Any.{amount_of}
use Rattle.otel_aggregate.specs.Streams.{AggregateContents, AggregateState}
use Rattle.otel_aggregate.specs.value_map.Numbers.{is_placed}
use Rattle.otel_model.specs.Demands.{Demand}
use Rattle.otel_model.specs.Places.{is_settled}
use Rattle.otel_model.specs.Sent.{set_for}
use Rattle.otel_model.specs.Streams.{aggregate_of}
use Rattle.otel_model.proofs.batches.Tables.{entry_for-on, entry_stays, settled-on, settled_stays, settled_rests}
use Rattle.otel_model.proofs.batches.Writes.{write-keeps}
use Rattle.opentelemetry_sdk.specs.pipeline.Known.{is_known_to}
use Rattle.opentelemetry_sdk.specs.pipeline.Streams.{StreamContents, IsAsked, contents_of, used_for, with_record, contents_after_record, takes}

-- ======== entries ========
-- the entry that a set uses is there exactly if a place for the set changes nothing
module _ (limit : ℕ) (empty : Fold) (s : AttributeSet) (es : List Entry) where
  abbrev more : Bool → Bool → Bool → Bool → List Entry
  more a b c d = cond a es (cond b es (cond c (es ++ new_entry empty s true ∷ []) (cond d es (es ++ new_entry empty over_set false ∷ []))))

  -- the set has the new entry
  own : has s (es ++ new_entry empty s true ∷ []) ≡ true
  own = list_any-append (is_of s) es (new_entry empty s true ∷ []) ∙ or_right (has s es) (set_eq s s || false) (or_left (set_eq s s) false (set_eq_self s))

  -- it uses the new overflow entry, or it is the overflow set
  over : has s es ≡ false → (b : Bool) → has s (es ++ new_entry empty over_set false ∷ []) ≡ b → cond b s over_set ≡ over_set
  over away false e = refl
  over away true e = sym (set_eq_true over_set s (flat (set_eq over_set s) (ap (λ b. b || (set_eq over_set s || false)) (sym away) ∙ sym (list_any-append (is_of s) es (new_entry empty over_set false ∷ [])) ∙ e)))
    where
      flat : (b : Bool) → (b || false) ≡ true → b ≡ true
      flat true e = refl
      flat false e = e

  pub placed-settled : is_placed (entry_for s (entries_with_place limit empty s es)) es ≡ is_settled limit s es
  placed-settled = go (set_eq s none_set) (has s es) (nat_lt (number_counted es) limit) (has over_set es) refl refl refl
    where
      go : (a b c d : Bool) → set_eq s none_set ≡ a → has s es ≡ b → has over_set es ≡ d
          → is_placed (cond a none_set (cond (has s (more a b c d)) s over_set)) es ≡ (a || (b || (not c && d)))
      go true b c d ea eb ed = or_left (set_eq none_set none_set) (has none_set es) (set_eq_self none_set)
      go false true c d ea eb ed = ap (λ u. is_placed u es) (ap (λ b. cond b s over_set) eb) ∙ or_right (set_eq s none_set) (has s es) eb
      go false false true d ea eb ed = ap (λ u. is_placed u es) (ap (λ b. cond b s over_set) own) ∙ λ i. ea i || eb i
      go false false false true ea eb ed = ap (λ u. is_placed u es) (ap (λ b. cond b s over_set) eb) ∙ or_right (set_eq over_set none_set) (has over_set es) ed
      go false false false false ea eb ed = ap (λ u. is_placed u es) (over eb (has s (es ++ new_entry empty over_set false ∷ [])) refl) ∙ λ i. over_apart i || ed i

-- ======== a record ========
abbrev entries_in : StreamContents → List Entry
entries_in k = k.stream.machine.table.entries

-- the set that the stream assigns to attributes
abbrev pub set_in : List KeyValue → StreamContents → AttributeSet
set_in l k = set_for k.stream.demand l

-- a record of the attributes l, where m are known
module _ (l m : List KeyValue) (v : NumberValue) (k : StreamContents) (known : is_known_to m k.stream ≡ true) where
  abbrev empty_in : Fold
  empty_in = empty_of (aggregate_of k.stream.demand)

  abbrev placed : List Entry
  placed = entries_with_place k.stream.demand.limit empty_in (set_in l k) (entries_in k)

  abbrev recorded : StreamContents
  recorded = with_record (set_in l k) (amount_of v) k

  abbrev written : Entry → Entry
  written = write (sample_of (aggregate_of k.stream.demand) (amount_of v))

  -- a set that has its place has it after the record
  known-with : is_known_to m recorded.stream ≡ true
  known-with =
      settled-on k.stream.demand.limit (set_in m k) (entry_for (set_in l k) placed) written (write-keeps (sample_of (aggregate_of k.stream.demand) (amount_of v))) placed
      ∙ settled_stays k.stream.demand.limit empty_in (set_in m k) (set_in l k) (entries_in k) known

  -- whether the value is taken in or not
  pub known-beside : is_known_to m (contents_after_record v l k).stream ≡ true
  known-beside = cond_both (takes v k) recorded k (λ (h : StreamContents). is_known_to m h.stream ≡ true) (λ _. known-with) (λ _. known)

  -- and it uses the same entry
  pub used-beside : used_for (set_in m (contents_after_record v l k)) (contents_after_record v l k) ≡ used_for (set_in m k) k
  used-beside = cond_both (takes v k) recorded k (λ (h : StreamContents). used_for (set_in m h) h ≡ used_for (set_in m k) k)
      (λ _. ap (entry_for (set_in m k)) (settled_rests k.stream.demand.limit empty_in (set_in m k) (entries_in recorded) known-with)
      ∙ entry_for-on (set_in m k) (entry_for (set_in l k) placed) written (write-keeps (sample_of (aggregate_of k.stream.demand) (amount_of v))) placed
      ∙ entry_stays k.stream.demand.limit empty_in (set_in m k) (set_in l k) (entries_in k) known
      ∙ ap (entry_for (set_in m k)) (sym (settled_rests k.stream.demand.limit empty_in (set_in m k) (entries_in k) known)))
      (λ _. refl)

-- ======== what is prepared ========
module _ (l : List KeyValue) (d : Demand) (a : AggregateContents) where
  -- what is prepared for the attributes
  pub used-prepared : IsAsked d a → bound_to (set_of a.state.allow l) a.state.map_state ≡ used_for (set_for d l) (contents_of d a)
  used-prepared is = ap (λ (s : AggregateState). bound_to (set_of s.allow l) s.map_state) is.state

  pub placed-known : is_placed (used_for (set_for d l) (contents_of d a)) a.state.map_state.table.entries ≡ is_known_to l (contents_of d a).stream
  placed-known = placed-settled d.limit (empty_of (aggregate_of d)) (set_for d l) a.state.map_state.table.entries
