-- No two points that are read have the same name and the same labels.
use Rattle.std.proofs.Common.{◌≡◌, ℕ, ◌&&◌, ◌||◌, Bool, true, false, cond, List, [], ◌∷◌, ◌++◌, length, take, drop, flat_map, codes, ◌⊎◌, inl, inr, refl, sym, ap, subst, ◌∙◌, append_assoc, append-nil, length-append, arith}
use Rattle.std.proofs.lemmas.Bool.{true≢false}
use Rattle.std.proofs.lemmas.List.{take_at, drop_at, append_cancel_right}
use Rattle.std.proofs.lemmas.List.Folds.{list_any-append}
use Rattle.std.specs.Cmp.Lexicographic.{bytes_decides}
use Rattle.std.specs.List.{list_any}
use Rattle.otel_common.specs.Equality.{bytes_eq}
use Rattle.otel_data.specs.declared.collections.ResourceMetrics.{ResourceMetrics}
use Rattle.otel_prometheus.specs.Collections.{lines_of}
use Rattle.otel_prometheus.specs.Consumers.{Point, read_points}
use Rattle.otel_prometheus.specs.Families.{is_refused, families}
use Rattle.otel_prometheus.specs.Headings.{is_sample_end, may_be_sample, clashes, is_reserved}
use Rattle.otel_prometheus.specs.Labels.{resource_labels}
use Rattle.otel_prometheus.specs.Laws.{is_among, AreDistinct, StandApart}
use Rattle.otel_prometheus.specs.Points.{value_end}
use Rattle.otel_prometheus.specs.Samples.{Pair, labels_text}
use Rattle.otel_prometheus.specs.Series.{is_seen}
use Rattle.otel_prometheus.specs.Shown.{family_points, first_points, target_points, points_of}
use Rattle.otel_prometheus.specs.declared.families.Family.{Family}
use Rattle.otel_prometheus.specs.declared.headings.Heading.{Heading}
use Rattle.otel_prometheus.specs.declared.headings.Kind.{Kind}
use Rattle.otel_prometheus.specs.declared.headings.Kind.TheVariants.{Counter, Gauge, Histogram}
use Rattle.otel_prometheus.specs.declared.settings.Settings.{Settings}
use Rattle.otel_prometheus.proofs.ConsumerLemmas.{AllPoints, all_first, is_no}
use Rattle.otel_prometheus.proofs.LawLemmas.{families_apart}
use Rattle.otel_prometheus.proofs.NamedLemmas.{and_true, and_false, left_true, right_true, both_false}
use Rattle.otel_prometheus.proofs.ShownLemmas.{shown_name, HasName, family_named, points_read}

-- ======== names of two families ========
-- points have the name of their family, unless it is a counter
total_or_own : (h : Heading) (k : Kind) → h.kind ≡ k → (h.kind ≡ Counter) ⊎ (shown_name h ≡ h.name)
total_or_own h Counter e = inl e
total_or_own h Gauge e = inr (ap (λ l. h.name ++ value_end l) e ∙ append-nil h.name)
total_or_own h Histogram e = inr (ap (λ l. h.name ++ value_end l) e ∙ append-nil h.name)

with_total : (h : Heading) → h.kind ≡ Counter → shown_name h ≡ h.name ++ codes "_total"
with_total h e = ap (λ k. h.name ++ value_end k) e

-- a family that is called as a counter's points may be a sample of it
total_is_sample : (a b : Heading) → a.kind ≡ Counter → b.name ≡ shown_name a → may_be_sample a b ≡ true
total_is_sample a b e f =
    let is : b.name ≡ a.name ++ codes "_total" = f ∙ with_total a e in
    and_true (bytes_eq a.name (take (length a.name) b.name)) (is_sample_end a.kind (drop (length a.name) b.name))
    ((bytes_decides a.name (take (length a.name) b.name)).1 (sym (ap (take (length a.name)) is ∙ take_at a.name (codes "_total") (length a.name) refl)))
    (λ i. is_sample_end (e i) ((ap (drop (length a.name)) is ∙ drop_at a.name (codes "_total") (length a.name) refl) i))

same_name : (a b : Heading) → b.name ≡ a.name → clashes a b ≡ true
same_name a b e = left_true (bytes_eq a.name b.name || may_be_sample a b) (may_be_sample b a) (left_true (bytes_eq a.name b.name) (may_be_sample a b) ((bytes_decides a.name b.name).1 (sym e)))

own_sample : (a b : Heading) → may_be_sample a b ≡ true → clashes a b ≡ true
own_sample a b e = left_true (bytes_eq a.name b.name || may_be_sample a b) (may_be_sample b a) (right_true (bytes_eq a.name b.name) (may_be_sample a b) e)

others_sample : (a b : Heading) → may_be_sample b a ≡ true → clashes a b ≡ true
others_sample a b e = right_true (bytes_eq a.name b.name || may_be_sample a b) (may_be_sample b a) e

-- families whose points have one name clash
same_clash : (a b : Heading) → shown_name b ≡ shown_name a → (a.kind ≡ Counter) ⊎ (shown_name a ≡ a.name) → (b.kind ≡ Counter) ⊎ (shown_name b ≡ b.name) → clashes a b ≡ true
same_clash a b e (inl k) (inl l) = same_name a b (append_cancel_right b.name a.name (codes "_total") (sym (with_total b l) ∙ (e ∙ with_total a k)))
same_clash a b e (inl k) (inr m) = own_sample a b (total_is_sample a b k (sym m ∙ e))
same_clash a b e (inr n) (inl l) = others_sample a b (total_is_sample b a l (sym n ∙ sym e))
same_clash a b e (inr n) (inr m) = same_name a b (sym m ∙ (e ∙ n))

names_differ : (a b : Heading) → clashes a b ≡ false → bytes_eq (shown_name b) (shown_name a) ≡ false
names_differ a b h =
    is_no (bytes_eq (shown_name b) (shown_name a))
    (λ e. true≢false (sym (same_clash a b ((bytes_decides (shown_name b) (shown_name a)).0 e) (total_or_own a a.kind refl) (total_or_own b b.kind refl)) ∙ h))

-- ======== the name of what says what the resource is ========
no_total : (n : List ℕ) → n ++ codes "_total" ≡ codes "target_info" → ⊥
no_total n e =
    let five : length n ≡ 5 = omega (arith, ap length e, length-append n (codes "_total")) in
    true≢false (sym ((bytes_decides (codes "_total") (drop 5 (codes "target_info"))).1 (sym (drop_at n (codes "_total") 5 five) ∙ ap (drop 5) e)))

no_target : (h : Heading) → is_reserved h.name ≡ false → bytes_eq (shown_name h) (codes "target_info") ≡ false
no_target h r = either (total_or_own h h.kind refl)
  where
    either : (h.kind ≡ Counter) ⊎ (shown_name h ≡ h.name) → bytes_eq (shown_name h) (codes "target_info") ≡ false
    either (inl k) = is_no (bytes_eq (shown_name h) (codes "target_info")) (λ e. no_total h.name (sym (with_total h k) ∙ (bytes_decides (shown_name h) (codes "target_info")).0 e))
    either (inr n) = ap (λ m. bytes_eq m (codes "target_info")) n ∙ (both_false (bytes_eq h.name (codes "target")) (bytes_eq h.name (codes "target_info")) r).1

-- ======== points of one name ========
abbrev is_called : List ℕ → List Point → Bool
is_called n ps = list_any (λ q. bytes_eq n q.name) ps

other_name : (p : Point) (ps : List Point) → is_called p.name ps ≡ false → is_among p ps ≡ false
other_name p [] e = refl
other_name p (q ∷ ps) e =
    let k = both_false (bytes_eq p.name q.name) (is_called p.name ps) e in
    λ i. (k.0 i && bytes_eq (labels_text p.labels) (labels_text q.labels)) || other_name p ps k.1 i

not_called : (n m : List ℕ) (ps : List Point) → bytes_eq n m ≡ false → AllPoints (HasName m) ps → is_called n ps ≡ false
not_called n m [] e h = refl
not_called n m (p ∷ ps) e h = λ i. (ap (bytes_eq n) h.0 ∙ e) i || not_called n m ps e h.1 i

distinct_append : (seen ps qs : List Point) → AreDistinct seen ps → AreDistinct (seen ++ ps) qs → AreDistinct seen (ps ++ qs)
distinct_append seen [] qs h k = subst (λ l. AreDistinct l qs) (append-nil seen) k
distinct_append seen (p ∷ ps) qs h k = (h.0, distinct_append (seen ++ p ∷ []) ps qs h.1 (subst (λ l. AreDistinct l qs) (sym (append_assoc seen (p ∷ []) ps)) k))

-- points of which those of this name have labels that were seen
abbrev HaveLabels : List ℕ → List (List ℕ) → List Point → Type 0
HaveLabels n keys seen = (q : Point) → q.name ≡ n → is_seen (labels_text q.labels) keys ≡ false → is_among q seen ≡ false

one_more : (n : List ℕ) (keys : List (List ℕ)) (seen : List Point) (p : Point) → HaveLabels n keys seen → HaveLabels n (keys ++ labels_text p.labels ∷ []) (seen ++ p ∷ [])
one_more n keys seen p h q e k =
    let key : List ℕ = labels_text q.labels in
    let own : List ℕ = labels_text p.labels in
    let new = both_false (is_seen key keys) (bytes_eq key own || false) (sym (list_any-append (bytes_eq key) keys (own ∷ [])) ∙ k) in
    list_any-append (λ r. bytes_eq q.name r.name && bytes_eq key (labels_text r.labels)) seen (p ∷ [])
    ∙ (λ i. h q e new.0 i || ((and_false (bytes_eq q.name p.name) (bytes_eq key own) (both_false (bytes_eq key own) false new.1).0) i || false))

first_choice : (t : Bool) (seen : List Point) (p : Point) (a b : List Point) → AreDistinct seen a → (t ≡ false → (is_among p seen ≡ false) × AreDistinct (seen ++ p ∷ []) b) → AreDistinct seen (cond t a (p ∷ b))
first_choice true seen p a b h k = h
first_choice false seen p a b h k = k refl

-- of points of one name, those with new labels are distinct
firsts_distinct : (n : List ℕ) (keys : List (List ℕ)) (seen ps : List Point) → HaveLabels n keys seen → AllPoints (HasName n) ps → AreDistinct seen (first_points keys ps)
firsts_distinct n keys seen [] h a = tt
firsts_distinct n keys seen (p ∷ ps) h a =
    let more : List (List ℕ) = keys ++ labels_text p.labels ∷ [] in
    first_choice (is_seen (labels_text p.labels) keys) seen p (first_points keys ps) (first_points more ps)
    (firsts_distinct n keys seen ps h a.1)
    (λ e. (h p a.0 e, firsts_distinct n more (seen ++ p ∷ []) ps (one_more n keys seen p h) a.1))

-- ======== points of families ========
-- no family that can stand beside these has points of a name that was seen
abbrev AreOf : List Family → List Point → Type 0
AreOf before seen = (h : Heading) → is_refused before h ≡ false → is_called (shown_name h) seen ≡ false

refused_less : (before : List Family) (f : Family) (h : Heading) → is_refused (before ++ f ∷ []) h ≡ false → (is_refused before h ≡ false) × (clashes f.heading h ≡ false)
refused_less before f h e =
    let clash : Bool = list_any (λ g. clashes g.heading h) before in
    let k = both_false (is_reserved h.name) (list_any (λ g. clashes g.heading h) (before ++ f ∷ [])) e in
    let l = both_false clash (clashes f.heading h || false) (sym (list_any-append (λ g. clashes g.heading h) before (f ∷ [])) ∙ k.1) in
    ((λ i. k.0 i || l.0 i), (both_false (clashes f.heading h) false l.1).0)

one_family : (before : List Family) (f : Family) (seen ps : List Point) → AreOf before seen → AllPoints (HasName (shown_name f.heading)) ps → AreOf (before ++ f ∷ []) (seen ++ ps)
one_family before f seen ps o a h e =
    let k = refused_less before f h e in
    list_any-append (λ q. bytes_eq (shown_name h) q.name) seen ps
    ∙ (λ i. o h k.0 i || not_called (shown_name h) (shown_name f.heading) ps (names_differ f.heading h k.1) a i)

families_distinct : (s : Settings) (c : ResourceMetrics) (before fs : List Family) (seen : List Point) → StandApart before fs → AreOf before seen → AreDistinct seen (flat_map (λ f. first_points [] (family_points s c f.heading)) fs)
families_distinct s c before [] seen a o = tt
families_distinct s c before (f ∷ fs) seen a o =
    let name : List ℕ = shown_name f.heading in
    let all : List Point = family_points s c f.heading in
    distinct_append seen (first_points [] all) (flat_map (λ g. first_points [] (family_points s c g.heading)) fs)
    (firsts_distinct name [] seen all (λ q e k. other_name q seen (ap (λ n. is_called n seen) e ∙ o f.heading a.0)) (family_named s c f.heading))
    (families_distinct s c (before ++ f ∷ []) fs (seen ++ first_points [] all) a.1
    (one_family before f seen (first_points [] all) o (all_first (HasName name) [] all (family_named s c f.heading))))

-- ======== all points ========
target_distinct : (ls : List Pair) → AreDistinct [] (target_points ls)
target_distinct [] = tt
target_distinct (l ∷ ls) = (refl, tt)

target_of : (ls : List Pair) → AreOf [] (target_points ls)
target_of [] h e = refl
target_of (l ∷ ls) h e = ap (λ t. t || false) (no_target h (both_false (is_reserved h.name) false e).0)

pub points_distinct : (s : Settings) (c : ResourceMetrics) → AreDistinct [] (read_points (lines_of s c))
points_distinct s c =
    let target : List Point = target_points (resource_labels c.resource.attributes) in
    subst (AreDistinct []) (sym (points_read s c))
    (distinct_append [] target (points_of s c) (target_distinct (resource_labels c.resource.attributes))
    (families_distinct s c [] (families c) target (families_apart c) (target_of (resource_labels c.resource.attributes))))
