-- Where the names of attributes rise, their labels stand as they do, around those of the scope.
use Rattle.std.proofs.Common.{◌≡◌, ℕ, suc, ◌+◌, ◌<◌, ◌≤◌, ◌&&◌, Bool, true, false, cond, List, [], ◌∷◌, ◌++◌, Option, Some, None, map, fold, take, drop, length, slice_set, slice_index_or, codes, refl, sym, ap, subst, ◌∙◌, append_assoc, append-nil, add_assoc, add-one, one-add, drop-cons, length-append, arith}
use Rattle.std.specs.Cmp.Lexicographic.{slice_cmp}
use Rattle.std.specs.Ordering.{nat_cmp, is_lt, ordering_reverse, ordering_then}
use Rattle.std.specs.declared.cmp.Ordering.{Ordering}
use Rattle.std.specs.declared.cmp.Ordering.TheVariants.{Less, Equal, Greater}
use Rattle.std.proofs.lemmas.Bool.{true≢false}
use Rattle.std.proofs.lemmas.Cmp.{nat_list_cmp_total}
use Rattle.std.proofs.lemmas.Grind.{fold-append, flat_map-append}
use Rattle.std.proofs.lemmas.List.{take-append-drop, take-map, drop-map, length-map}
use Rattle.std.proofs.lemmas.List.Elements.{filter-append}
use Rattle.otel_common.specs.declared.attributes.KeyValue.{KeyValue}
use Rattle.otel_common.specs.declared.scopes.InstrumentationScope.{InstrumentationScope}
use Rattle.otel_prometheus.specs.Names.{name_bytes, name_of}
use Rattle.otel_prometheus.specs.Samples.{Pair, escaped, is_label_byte, label_text, more_labels_text, labels_text}
use Rattle.otel_prometheus.specs.Labels.{own_name, placed, with_label, label_of, with_attributes, text_label, optional_label, scope_label_name, is_taken, with_scope_attribute, parts_of_scope, scope_labels, has_text, without_empty, all_labels, point_labels}
use Rattle.otel_prometheus.specs.Rising.{name_in, rises, count_below, place_of_scope, comma_texts, named, front_text, front_texts, value_front}
use Rattle.otel_prometheus.specs.Values.{value_text}
use Rattle.otel_prometheus.specs.declared.settings.Settings.{Settings}

abbrev Below : List ℕ → List ℕ → Type 0
Below a b = slice_cmp nat_cmp a b ≡ Less

through : (a b c : List ℕ) → Below a b → Below b c → Below a c
through a b c = nat_list_cmp_total.trans a b c

turned : (a b : List ℕ) → Below a b → slice_cmp nat_cmp b a ≡ Greater
turned a b e = nat_list_cmp_total.antisymm b a ∙ ap ordering_reverse e

-- each name is greater than the one before it
abbrev Rise : List ℕ → List (List ℕ) → Type 0
Rise before [] = Unit {0}
Rise before (n ∷ ns) = Below before n × Rise n ns

-- each name is less than this one
abbrev AreBelow : List ℕ → List (List ℕ) → Type 0
AreBelow high [] = Unit {0}
AreBelow high (n ∷ ns) = Below n high × AreBelow high ns

-- this many names come before those of a scope's labels, the others behind them, and all rise
record AroundScope (names : List (List ℕ)) (count : ℕ) : Type 0 where
  below : AreBelow (codes "otel_scope_") (take count names)
  first : Rise [] (take count names)
  last : Rise (codes "otel_scope`") (drop count names)

is_less : (o : Ordering) → is_lt o ≡ true → o ≡ Less
is_less Less e = refl
is_less Equal e = absurd (true≢false (sym e))
is_less Greater e = absurd (true≢false (sym e))

both : (a b : Bool) → (a && b) ≡ true → (a ≡ true) × (b ≡ true)
both true b e = (refl, e)
both false b e = absurd (true≢false (sym e))

do_rise : (before : List ℕ) (ns : List (List ℕ)) → rises before ns ≡ true → Rise before ns
do_rise before [] e = tt
do_rise before (n ∷ ns) e =
    let h : (is_lt (slice_cmp nat_cmp before n) ≡ true) × (rises n ns ≡ true) = both (is_lt (slice_cmp nat_cmp before n)) (rises n ns) e in
    (is_less (slice_cmp nat_cmp before n) h.0, do_rise n ns h.1)

below_or_none : (b : Bool) (n : List ℕ) (ns : List (List ℕ)) → b ≡ is_lt (slice_cmp nat_cmp n (codes "otel_scope_")) → AreBelow (codes "otel_scope_") (take (count_below ns) ns) → AreBelow (codes "otel_scope_") (take (cond b (1 + count_below ns) 0) (n ∷ ns))
below_or_none true n ns e h = subst (λ k. AreBelow (codes "otel_scope_") (take k (n ∷ ns))) (sym (one-add (count_below ns))) (is_less (slice_cmp nat_cmp n (codes "otel_scope_")) (sym e), h)
below_or_none false n ns e h = tt

are_below : (ns : List (List ℕ)) → AreBelow (codes "otel_scope_") (take (count_below ns) ns)
are_below [] = tt
are_below (n ∷ ns) = below_or_none (is_lt (slice_cmp nat_cmp n (codes "otel_scope_"))) n ns refl (are_below ns)

within_or_none : (b : Bool) (k m : ℕ) → k ≤ m → cond b (1 + k) 0 ≤ suc m
within_or_none true k m h = omega (arith, h)
within_or_none false k m h = omega arith

pub count_within : (ns : List (List ℕ)) → count_below ns ≤ length ns
count_within [] = omega arith
count_within (n ∷ ns) = within_or_none (is_lt (slice_cmp nat_cmp n (codes "otel_scope_"))) (count_below ns) (length ns) (count_within ns)

-- at a name that is not less no more are counted
pub none_more : (names : List (List ℕ)) (i count : ℕ) (n : List ℕ) (o : Ordering) → i < length names → n ≡ slice_index_or names i n → o ≡ slice_cmp nat_cmp n (codes "otel_scope_") → is_lt o ≡ false → count + count_below (drop i names) ≡ count
none_more names i count n o h e f k =
    ap (λ t. count + count_below t) (drop-cons names i n h)
    ∙ (ap (λ x. count + count_below (x ∷ drop (suc i) names)) (sym e)
    ∙ (ap (λ b. count + cond b (1 + count_below (drop (suc i) names)) 0) (ap is_lt (sym f) ∙ k)
    ∙ omega arith))

pub one_more : (names : List (List ℕ)) (i count : ℕ) (n : List ℕ) (o : Ordering) → i < length names → n ≡ slice_index_or names i n → o ≡ slice_cmp nat_cmp n (codes "otel_scope_") → is_lt o ≡ true → (count + 1) + count_below (drop (i + 1) names) ≡ count + count_below (drop i names)
one_more names i count n o h e f k =
    ap (λ j. (count + 1) + count_below (drop j names)) (add-one i)
    ∙ (add_assoc count 1 (count_below (drop (suc i) names))
    ∙ (ap (λ b. count + cond b (1 + count_below (drop (suc i) names)) 0) (sym (ap is_lt (sym f) ∙ k))
    ∙ (ap (λ x. count + count_below (x ∷ drop (suc i) names)) e
    ∙ ap (λ t. count + count_below t) (sym (drop-cons names i n h)))))

-- with a key that is that of the next attribute
pub same_keys : (ps : List KeyValue) (i : ℕ) (a : KeyValue) (left rest : List (List ℕ)) (key : List ℕ) → i < length ps → a ≡ slice_index_or ps i a → left ≡ key ∷ rest → key ≡ a.key → rest ≡ map (λ a. a.key) (drop (i + 1) ps) → left ≡ map (λ a. a.key) (drop i ps)
same_keys ps i a left rest key h e f g k =
    f
    ∙ ((λ j. g j ∷ (k ∙ ap (λ m. map (λ a. a.key) (drop m ps)) (add-one i)) j)
    ∙ (ap (λ x. map (λ a. a.key) (x ∷ drop (suc i) ps)) e
    ∙ ap (map (λ a. a.key)) (sym (drop-cons ps i a h))))

is_count : (b : Bool) (n count : ℕ) → cond b (Some n) None ≡ Some count → (b ≡ true) × (n ≡ count)
is_count true n count e = (refl, cc)
is_count false n count e = absurd cc

stands_around : (names : List (List ℕ)) (count : ℕ) → place_of_scope names ≡ Some count → AroundScope names count
stands_around names count e =
    let n = count_below names in
    let h : ((rises [] (take n names) && rises (codes "otel_scope`") (drop n names)) ≡ true) × (n ≡ count) = is_count (rises [] (take n names) && rises (codes "otel_scope`") (drop n names)) n count e in
    let r : (rises [] (take n names) ≡ true) × (rises (codes "otel_scope`") (drop n names) ≡ true) = both (rises [] (take n names)) (rises (codes "otel_scope`") (drop n names)) h.0 in
    subst (AroundScope names) h.1 (record { below = are_below names; first = do_rise [] (take n names) r.0; last = do_rise (codes "otel_scope`") (drop n names) r.1 })

place_within : (names : List (List ℕ)) (count : ℕ) → place_of_scope names ≡ Some count → count ≤ length names
place_within names count e =
    let n = count_below names in
    let h : ((rises [] (take n names) && rises (codes "otel_scope`") (drop n names)) ≡ true) × (n ≡ count) = is_count (rises [] (take n names) && rises (codes "otel_scope`") (drop n names)) n count e in
    subst (λ k. k ≤ length names) h.1 (count_within names)

-- the name is greater than those of the labels
abbrev Above : List Pair → List ℕ → Type 0
Above [] n = Unit {0}
Above (l ∷ ls) n = Below l.0 n × Above ls n

higher : (ls : List Pair) (n m : List ℕ) → Above ls n → Below n m → Above ls m
higher [] n m h b = tt
higher (l ∷ ls) n m h b = (through l.0 n m h.0 b, higher ls n m h.1 b)

both_above : (a b : List Pair) (n : List ℕ) → Above a n → Above b n → Above (a ++ b) n
both_above [] b n h k = k
both_above (l ∷ a) b n h k = (h.0, both_above a b n h.1 k)

-- a label belongs behind those with lesser names
behind : (front back : List Pair) (p : Pair) → Above front p.0 → with_label (front ++ back) p ≡ front ++ with_label back p
behind [] back p h = refl
behind (l ∷ front) back p h =
    ap (λ o. placed o p l (front ++ back) (with_label (front ++ back) p)) (turned l.0 p.0 h.0)
    ∙ ap (λ t. l ∷ t) (behind front back p h.1)

last : (front : List Pair) (p : Pair) → Above front p.0 → with_label front p ≡ front ++ p ∷ []
last [] p h = refl
last (l ∷ front) p h = ap (λ o. placed o p l front (with_label front p)) (turned l.0 p.0 h.0) ∙ ap (λ t. l ∷ t) (last front p h.1)

one_above : (front : List Pair) (before : List ℕ) (p : Pair) → ((n : List ℕ) → Below before n → Above front n) → Below before p.0 → (n : List ℕ) → Below p.0 n → Above (front ++ p ∷ []) n
one_above front before p h b n c = both_above front (p ∷ []) n (h n (through before p.0 n b c)) (c, tt)

-- attributes whose names come before those of the labels of the scope
module _ (has_bounds : Bool) (s : List Pair) (high : List ℕ) (first : (p : Pair) → Below p.0 high → with_label s p ≡ p ∷ s) where
  lows : (ps : List KeyValue) (front : List Pair) (before : List ℕ) → ((n : List ℕ) → Below before n → Above front n) → Rise before (map (name_in has_bounds) ps) → AreBelow high (map (name_in has_bounds) ps)
      → with_attributes has_bounds (front ++ s) ps ≡ (front ++ map (label_of has_bounds) ps) ++ s
  lows [] front before h r b = ap (λ t. t ++ s) (sym (append-nil front))
  lows (a ∷ ps) front before h r b =
      let p = label_of has_bounds a in
      ap (λ t. with_attributes has_bounds t ps) (behind front s p (h p.0 r.0) ∙ (ap (λ t. front ++ t) (first p b.0) ∙ sym (append_assoc front (p ∷ []) s)))
      ∙ (lows ps (front ++ p ∷ []) p.0 (one_above front before p h r.0) r.1 b.1
      ∙ ap (λ t. t ++ s) (append_assoc front (p ∷ []) (map (label_of has_bounds) ps)))

-- attributes whose names come behind those of all labels so far
highs : (has_bounds : Bool) (ps : List KeyValue) (front : List Pair) (before : List ℕ) → ((n : List ℕ) → Below before n → Above front n) → Rise before (map (name_in has_bounds) ps)
    → with_attributes has_bounds front ps ≡ front ++ map (label_of has_bounds) ps
highs has_bounds [] front before h r = sym (append-nil front)
highs has_bounds (a ∷ ps) front before h r =
    let p = label_of has_bounds a in
    ap (λ t. with_attributes has_bounds t ps) (last front p (h p.0 r.0))
    ∙ (highs has_bounds ps (front ++ p ∷ []) p.0 (one_above front before p h r.0) r.1
    ∙ append_assoc front (p ∷ []) (map (label_of has_bounds) ps))

-- ======== the labels of the scope ========
-- a name that begins as those of a scope do
abbrev IsScoped : List ℕ → Type 0
IsScoped n = (rest : List ℕ) × (n ≡ codes "otel_scope_" ++ rest)

abbrev AreScoped : List Pair → Type 0
AreScoped [] = Unit {0}
AreScoped (l ∷ ls) = IsScoped l.0 × AreScoped ls

then_less : (o p q : Ordering) → (p ≡ Less → q ≡ Less) → ordering_then o p ≡ Less → ordering_then o q ≡ Less
then_less Less p q h e = e
then_less Equal p q h e = h e
then_less Greater p q h e = e

below_longer : (n a rest : List ℕ) → Below n a → Below n (a ++ rest)
below_longer [] [] rest h = absurd cc
below_longer [] (x ∷ a) rest h = refl
below_longer (y ∷ n) [] rest h = absurd cc
below_longer (y ∷ n) (x ∷ a) rest h = then_less (nat_cmp y x) (slice_cmp nat_cmp n a) (slice_cmp nat_cmp n (a ++ rest)) (below_longer n a rest) h

below_scoped : (n m : List ℕ) → Below n (codes "otel_scope_") → IsScoped m → Below n m
below_scoped n m h k = subst (Below n) (sym k.1) (below_longer n (codes "otel_scope_") k.0 h)

scoped_below : (m : List ℕ) → IsScoped m → Below m (codes "otel_scope`")
scoped_below m k = subst (λ t. Below t (codes "otel_scope`")) (sym k.1) refl

scope_behind : (own : List Pair) (p : Pair) → AreScoped own → Below p.0 (codes "otel_scope_") → with_label own p ≡ p ∷ own
scope_behind [] p k h = refl
scope_behind (l ∷ own) p k h = ap (λ o. placed o p l own (with_label own p)) (below_scoped p.0 l.0 h k.0)

scope_before : (own : List Pair) (n : List ℕ) → AreScoped own → Below (codes "otel_scope`") n → Above own n
scope_before [] n k h = tt
scope_before (l ∷ own) n k h = (through l.0 (codes "otel_scope`") n (scoped_below l.0 k.0) h, scope_before own n k.1 h)

scoped_placed : (o : Ordering) (p l : Pair) (ls rest : List Pair) → IsScoped p.0 → IsScoped l.0 → AreScoped ls → AreScoped rest → AreScoped (placed o p l ls rest)
scoped_placed Less p l ls rest h k m n = (h, (k, m))
scoped_placed Equal p l ls rest h k m n = (k, m)
scoped_placed Greater p l ls rest h k m n = (k, n)

scoped_label : (ls : List Pair) (p : Pair) → AreScoped ls → IsScoped p.0 → AreScoped (with_label ls p)
scoped_label [] p h k = (k, tt)
scoped_label (l ∷ ls) p h k = scoped_placed (slice_cmp nat_cmp p.0 l.0) p l ls (with_label ls p) k h.0 h.1 (scoped_label ls p h.1 k)

scoped_choice : (t : Bool) (a b : List Pair) → AreScoped a → AreScoped b → AreScoped (cond t a b)
scoped_choice true a b h k = h
scoped_choice false a b h k = k

scoped_append : (a b : List Pair) → AreScoped a → AreScoped b → AreScoped (a ++ b)
scoped_append [] b h k = k
scoped_append (l ∷ a) b h k = (h.0, scoped_append a b h.1 k)

scoped_text : (n v : List ℕ) → IsScoped n → AreScoped (text_label n v)
scoped_text n [] h = tt
scoped_text n (b ∷ bs) h = (h, tt)

scoped_optional : (n : List ℕ) (o : Option (List ℕ)) → IsScoped n → AreScoped (optional_label n o)
scoped_optional n None h = tt
scoped_optional n (Some v) h = scoped_text n v h

scoped_attributes : (ls : List Pair) (ps : List KeyValue) → AreScoped ls → AreScoped (fold with_scope_attribute ls ps)
scoped_attributes ls [] h = h
scoped_attributes ls (a ∷ ps) h =
    let l : Pair = (scope_label_name a.key, value_text a.value) in
    scoped_attributes (with_scope_attribute ls a) ps
    (scoped_choice (is_taken (scope_label_name a.key)) ls (with_label ls l) h (scoped_label ls l h (name_bytes is_label_byte true a.key, refl)))

are_scoped : (s : Settings) (scope : InstrumentationScope) → AreScoped (scope_labels s scope)
are_scoped s scope =
    let url = optional_label (codes "otel_scope_schema_url") scope.schema_url in
    let version = optional_label (codes "otel_scope_version") scope.version in
    scoped_choice s.has_scope_labels (fold with_scope_attribute (parts_of_scope scope) scope.attributes) []
    (scoped_attributes (parts_of_scope scope) scope.attributes
    (scoped_append (text_label (codes "otel_scope_name") scope.name) (url ++ version) (scoped_text (codes "otel_scope_name") scope.name (codes "name", refl))
    (scoped_append url version (scoped_optional (codes "otel_scope_schema_url") scope.schema_url (codes "schema_url", refl)) (scoped_optional (codes "otel_scope_version") scope.version (codes "version", refl)))))
    tt

lows_above : (has_bounds : Bool) (ps : List KeyValue) (n : List ℕ) → AreBelow (codes "otel_scope_") (map (name_in has_bounds) ps) → Below (codes "otel_scope`") n → Above (map (label_of has_bounds) ps) n
lows_above has_bounds [] n b h = tt
lows_above has_bounds (a ∷ ps) n b h = (through (name_in has_bounds a) (codes "otel_scope`") n (through (name_in has_bounds a) (codes "otel_scope_") (codes "otel_scope`") b.0 refl) h, lows_above has_bounds ps n b.1 h)

two_parts : (s : Settings) (has_bounds : Bool) (scope : InstrumentationScope) (low high : List KeyValue)
    → AreBelow (codes "otel_scope_") (map (name_in has_bounds) low) → Rise [] (map (name_in has_bounds) low) → Rise (codes "otel_scope`") (map (name_in has_bounds) high)
    → all_labels s has_bounds scope (low ++ high) ≡ (map (label_of has_bounds) low ++ scope_labels s scope) ++ map (label_of has_bounds) high
two_parts s has_bounds scope low high b r q =
    let own = scope_labels s scope in
    fold-append (λ found a. with_label found (label_of has_bounds a)) own low high
    ∙ (ap (λ t. with_attributes has_bounds t high) (lows has_bounds own (codes "otel_scope_") (λ p h. scope_behind own p (are_scoped s scope) h) low [] [] (λ n h. tt) r b)
    ∙ highs has_bounds high (map (label_of has_bounds) low ++ own) (codes "otel_scope`")
    (λ n h. both_above (map (label_of has_bounds) low) own n (lows_above has_bounds low n b h) (scope_before own n (are_scoped s scope) h)) q)

named_labels : (has_bounds : Bool) (ps : List KeyValue) → named (map (name_in has_bounds) ps) ps ≡ map (label_of has_bounds) ps
named_labels has_bounds [] = refl
named_labels has_bounds (a ∷ ps) = ap (λ t. label_of has_bounds a ∷ t) (named_labels has_bounds ps)

comma_texts-append : (a b : List Pair) → comma_texts (a ++ b) ≡ comma_texts a ++ comma_texts b
comma_texts-append a b = flat_map-append (λ l. 44 ∷ label_text l) a b

-- ======== the text ========
named_texts : (has_bounds : Bool) (count : ℕ) (ps : List KeyValue) → named (take count (map (name_in has_bounds) ps)) (take count ps) ≡ map (label_of has_bounds) (take count ps)
named_texts has_bounds count ps = ap (λ t. named t (take count ps)) (take-map (name_in has_bounds) count ps) ∙ named_labels has_bounds (take count ps)

named_rest : (has_bounds : Bool) (count : ℕ) (ps : List KeyValue) → named (drop count (map (name_in has_bounds) ps)) (drop count ps) ≡ map (label_of has_bounds) (drop count ps)
named_rest has_bounds count ps = ap (λ t. named t (drop count ps)) (drop-map (name_in has_bounds) count ps) ∙ named_labels has_bounds (drop count ps)

-- the labels that are shown, each behind a comma
abbrev shown_texts : List Pair → List ℕ
shown_texts ls = comma_texts (without_empty ls)

shown_texts-append : (a b : List Pair) → shown_texts (a ++ b) ≡ shown_texts a ++ shown_texts b
shown_texts-append a b = ap comma_texts (filter-append has_text a b) ∙ comma_texts-append (without_empty a) (without_empty b)

three_parts : (a s b : List Pair) → shown_texts ((a ++ s) ++ b) ≡ shown_texts a ++ (shown_texts s ++ shown_texts b)
three_parts a s b =
    shown_texts-append (a ++ s) b
    ∙ (ap (λ t. t ++ shown_texts b) (shown_texts-append a s)
    ∙ append_assoc (shown_texts a) (shown_texts s) (shown_texts b))

around_scope : (s : Settings) (has_bounds : Bool) (scope : InstrumentationScope) (ps : List KeyValue) (count : ℕ) → AroundScope (map (name_in has_bounds) ps) count
    → shown_texts (named (take count (map (name_in has_bounds) ps)) (take count ps)) ++ (shown_texts (scope_labels s scope) ++ shown_texts (named (drop count (map (name_in has_bounds) ps)) (drop count ps)))
    ≡ shown_texts (all_labels s has_bounds scope ps)
around_scope s has_bounds scope ps count h =
    let low = take count ps in
    let high = drop count ps in
    let own = scope_labels s scope in
    let below : AreBelow (codes "otel_scope_") (map (name_in has_bounds) low) = subst (AreBelow (codes "otel_scope_")) (take-map (name_in has_bounds) count ps) h.below in
    let first : Rise [] (map (name_in has_bounds) low) = subst (Rise []) (take-map (name_in has_bounds) count ps) h.first in
    let last : Rise (codes "otel_scope`") (map (name_in has_bounds) high) = subst (Rise (codes "otel_scope`")) (drop-map (name_in has_bounds) count ps) h.last in
    (λ i. shown_texts (named_texts has_bounds count ps i) ++ (shown_texts own ++ shown_texts (named_rest has_bounds count ps i)))
    ∙ (sym (three_parts (map (label_of has_bounds) low) own (map (label_of has_bounds) high))
    ∙ (ap shown_texts (sym (two_parts s has_bounds scope low high below first last))
    ∙ ap (λ t. shown_texts (all_labels s has_bounds scope t)) (take-append-drop count ps)))

-- names that were made of the keys of attributes
spelled_around : (s : Settings) (has_bounds : Bool) (scope : InstrumentationScope) (ps : List KeyValue) (names : List (List ℕ)) (count : ℕ) (text : List ℕ)
    → names ≡ map (name_in has_bounds) ps → place_of_scope names ≡ Some count → text ≡ shown_texts (scope_labels s scope)
    → shown_texts (named (take count names) (take count ps)) ++ (text ++ shown_texts (named (drop count names) (drop count ps))) ≡ shown_texts (all_labels s has_bounds scope ps)
spelled_around s has_bounds scope ps names count text e h k =
    ap (λ t. shown_texts (named (take count names) (take count ps)) ++ (t ++ shown_texts (named (drop count names) (drop count ps)))) k
    ∙ ((λ i. shown_texts (named (take count (e i)) (take count ps)) ++ (shown_texts (scope_labels s scope) ++ shown_texts (named (drop count (e i)) (drop count ps))))
    ∙ around_scope s has_bounds scope ps count (subst (λ t. AroundScope t count) e (stands_around names count h)))

-- what stands in front of a value, with the value, is the label behind a comma
one_front : (n v t : List ℕ) → (44 ∷ (n ++ 61 ∷ 34 ∷ [])) ++ ((v ++ 34 ∷ []) ++ t) ≡ 44 ∷ ((n ++ (61 ∷ 34 ∷ (v ++ 34 ∷ []))) ++ t)
one_front n v t =
    ap (λ x. 44 ∷ x) (append_assoc n (61 ∷ 34 ∷ []) ((v ++ 34 ∷ []) ++ t) ∙ sym (append_assoc n (61 ∷ 34 ∷ (v ++ 34 ∷ [])) t))

-- an empty one stands nowhere
front_or_none : (n v : List ℕ) (ls : List Pair) (t : List ℕ) → t ≡ shown_texts ls → front_text (value_front n) v ++ t ≡ shown_texts ((n, v) ∷ ls)
front_or_none n [] ls t h = h
front_or_none n (b ∷ bs) ls t h =
    append_assoc (value_front n) (escaped (b ∷ bs) ++ 34 ∷ []) t
    ∙ (ap (λ t. value_front n ++ ((escaped (b ∷ bs) ++ 34 ∷ []) ++ t)) h
    ∙ one_front n (escaped (b ∷ bs)) (shown_texts ls))

commas_in_front : (names : List (List ℕ)) (ps : List KeyValue) → front_texts (map value_front names) ps ≡ shown_texts (named names ps)
commas_in_front [] ps = refl
commas_in_front (n ∷ names) [] = refl
commas_in_front (n ∷ names) (a ∷ ps) = front_or_none n (value_text a.value) (named names ps) (front_texts (map value_front names) ps) (commas_in_front names ps)

pub spelled_fronts : (s : Settings) (has_bounds : Bool) (scope : InstrumentationScope) (ps : List KeyValue) (fronts names : List (List ℕ)) (count : ℕ) (text : List ℕ)
    → fronts ≡ map value_front names → names ≡ map (name_in has_bounds) ps → place_of_scope names ≡ Some count → text ≡ comma_texts (without_empty (scope_labels s scope))
    → front_texts (take count fronts) (take count ps) ++ (text ++ front_texts (drop count fronts) (drop count ps)) ≡ comma_texts (point_labels s has_bounds scope ps)
spelled_fronts s has_bounds scope ps fronts names count text f e h k =
    let low : front_texts (take count fronts) (take count ps) ≡ shown_texts (named (take count names) (take count ps)) =
    ap (λ t. front_texts (take count t) (take count ps)) f ∙ (ap (λ t. front_texts t (take count ps)) (take-map value_front count names) ∙ commas_in_front (take count names) (take count ps)) in
    let high : front_texts (drop count fronts) (drop count ps) ≡ shown_texts (named (drop count names) (drop count ps)) =
    ap (λ t. front_texts (drop count t) (drop count ps)) f ∙ (ap (λ t. front_texts t (drop count ps)) (drop-map value_front count names) ∙ commas_in_front (drop count names) (drop count ps)) in
    (λ i. low i ++ (text ++ high i)) ∙ spelled_around s has_bounds scope ps names count text e h k

pub fronts_within : (names fronts : List (List ℕ)) (count : ℕ) → fronts ≡ map value_front names → place_of_scope names ≡ Some count → count ≤ length fronts
fronts_within names fronts count f e = subst (λ k. count ≤ k) (sym (ap length f ∙ length-map names value_front)) (place_within names count e)

names_of_keys : (has_bounds : Bool) (ps : List KeyValue) → map (λ key. own_name has_bounds (name_of is_label_byte key)) (map (λ a. a.key) ps) ≡ map (name_in has_bounds) ps
names_of_keys has_bounds [] = refl
names_of_keys has_bounds (a ∷ ps) = ap (λ t. name_in has_bounds a ∷ t) (names_of_keys has_bounds ps)

pub made_of_keys : (has_bounds : Bool) (ps : List KeyValue) (keys names : List (List ℕ)) → keys ≡ map (λ a. a.key) ps → names ≡ map (λ key. own_name has_bounds (name_of is_label_byte key)) keys → names ≡ map (name_in has_bounds) ps
made_of_keys has_bounds ps keys names e f = f ∙ (ap (map (λ key. own_name has_bounds (name_of is_label_byte key))) e ∙ names_of_keys has_bounds ps)

-- ======== the braces ========
closing_brace : (ls : List Pair) → comma_texts ls ++ 125 ∷ [] ≡ more_labels_text ls
closing_brace [] = refl
closing_brace (l ∷ ls) = ap (λ t. 44 ∷ t) (append_assoc (label_text l) (comma_texts ls) (125 ∷ []) ∙ ap (λ t. label_text l ++ t) (closing_brace ls))

set_behind : (before rest : List ℕ) (x y : ℕ) → slice_set (before ++ x ∷ rest) (length before) y ≡ before ++ y ∷ rest
set_behind [] rest x y = refl
set_behind (b ∷ before) rest x y = ap (λ t. b ∷ t) (set_behind before rest x y)

pub in_braces : (ls : List Pair) (before text : List ℕ) → text ≡ before ++ comma_texts ls → length before < length text → slice_set text (length before) 123 ++ 125 ∷ [] ≡ before ++ labels_text ls
in_braces [] before text e h = absurd (omega (arith, h, ap length (e ∙ append-nil before)))
in_braces (l ∷ ls) before text e h =
    let rest : List ℕ = label_text l ++ comma_texts ls in
    ap (λ t. slice_set t (length before) 123 ++ 125 ∷ []) e
    ∙ (ap (λ t. t ++ 125 ∷ []) (set_behind before rest 44 123)
    ∙ (append_assoc before (123 ∷ rest) (125 ∷ [])
    ∙ ap (λ t. before ++ 123 ∷ t) (append_assoc (label_text l) (comma_texts ls) (125 ∷ []) ∙ ap (λ t. label_text l ++ t) (closing_brace ls))))

-- ======== one more label ========
more_with_more : (ls : List Pair) (m : Pair) → more_labels_text (ls ++ m ∷ []) ≡ comma_texts ls ++ 44 ∷ (label_text m ++ 125 ∷ [])
more_with_more [] m = refl
more_with_more (l ∷ ls) m =
    ap (λ t. 44 ∷ t) (ap (λ t. label_text l ++ t) (more_with_more ls m)
    ∙ sym (append_assoc (label_text l) (comma_texts ls) (44 ∷ (label_text m ++ 125 ∷ []))))

same_front : (xs ys : List ℕ) (a b : ℕ) → xs ++ a ∷ [] ≡ ys ++ b ∷ [] → xs ≡ ys
same_front [] [] a b e = refl
same_front [] (y ∷ ys) a b e = absurd (omega (arith, ap length e, length-append ys (b ∷ [])))
same_front (x ∷ xs) [] a b e = absurd (omega (arith, ap length e, length-append xs (a ∷ [])))
same_front (x ∷ xs) (y ∷ ys) a b e =
    let first : x ≡ y = cc in
    let rest : xs ++ a ∷ [] ≡ ys ++ b ∷ [] = cc in
    λ i. first i ∷ same_front xs ys a b rest i

-- without the closing brace and with a comma, one more label can follow
opened : (ls : List Pair) (m : Pair) (text front : List ℕ) (b : ℕ) → text ≡ labels_text ls → text ≡ front ++ b ∷ [] → (front ++ 44 ∷ []) ++ (label_text m ++ 125 ∷ []) ≡ labels_text (ls ++ m ∷ [])
opened [] m text front b e f = absurd (omega (arith, ap length e, ap length f, length-append front (b ∷ [])))
opened (l ∷ ls) m text front b e f =
    let body : List ℕ = 123 ∷ (label_text l ++ comma_texts ls) in
    let rest : List ℕ = label_text m ++ 125 ∷ [] in
    let whole : text ≡ body ++ 125 ∷ [] =
    e ∙ ap (λ t. 123 ∷ t) (ap (λ t. label_text l ++ t) (sym (closing_brace ls)) ∙ sym (append_assoc (label_text l) (comma_texts ls) (125 ∷ []))) in
    ap (λ t. (t ++ 44 ∷ []) ++ rest) (same_front front body b 125 (sym f ∙ whole))
    ∙ (append_assoc body (44 ∷ []) rest
    ∙ ap (λ t. 123 ∷ t) (append_assoc (label_text l) (comma_texts ls) (44 ∷ rest) ∙ ap (λ t. label_text l ++ t) (sym (more_with_more ls m))))

pub pushed_open : (ls : List Pair) (m : Pair) (text front : List ℕ) (b : ℕ) (old mid new : List ℕ) → text ≡ labels_text ls → text ≡ front ++ b ∷ [] → mid ≡ old ++ front → new ≡ mid ++ 44 ∷ []
    → new ++ (label_text m ++ 125 ∷ []) ≡ old ++ labels_text (ls ++ m ∷ [])
pushed_open ls m text front b old mid new e f g h =
    let rest : List ℕ = label_text m ++ 125 ∷ [] in
    ap (λ t. t ++ rest) (h ∙ ap (λ t. t ++ 44 ∷ []) g)
    ∙ (ap (λ t. t ++ rest) (append_assoc old front (44 ∷ []))
    ∙ (append_assoc old (front ++ 44 ∷ []) rest
    ∙ ap (λ t. old ++ t) (opened ls m text front b e f)))
