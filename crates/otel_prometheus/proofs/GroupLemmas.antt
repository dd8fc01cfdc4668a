-- Families with their metrics, one metric after another.
use Rattle.std.proofs.Common.{◌≡◌, ℕ, zero, suc, ◌+◌, ◌<◌, ◌&&◌, ◌||◌, Bool, true, false, cond, List, [], ◌∷◌, ◌++◌, length, map, filter, fold, get_or, set, Option, Some, None, refl, sym, ap, subst, ◌∙◌, append_assoc, append-nil, arith}
use Rattle.std.proofs.lemmas.Bool.{true≢false}
use Rattle.std.proofs.lemmas.List.Folds.{list_any-append}
use Rattle.std.specs.Cmp.Lexicographic.{bytes_decides}
use Rattle.std.specs.List.{list_any}
use Rattle.otel_common.specs.Equality.{bytes_eq}
use Rattle.otel_data.specs.declared.collections.Metric.{Metric}
use Rattle.otel_prometheus.specs.Collections.{belongs}
use Rattle.otel_prometheus.specs.Families.{is_refused, with_heading, with_metric, content_length, conflicting_if, conflicting_in}
use Rattle.otel_prometheus.specs.Groups.{Member, Group, families_of, is_of, group_of, conflicting_among, joined}
use Rattle.otel_prometheus.specs.Headings.{heading_of, same_heading, kind_eq, clashes, is_reserved}
use Rattle.otel_prometheus.specs.Laws.{StandApart}
use Rattle.otel_prometheus.specs.Totals.{total}
use Rattle.otel_prometheus.specs.declared.families.Family.{Family}
use Rattle.otel_prometheus.specs.declared.headings.Heading.{Heading}
use Rattle.otel_prometheus.specs.declared.headings.Kind.{Kind}
use Rattle.otel_prometheus.specs.declared.headings.Kind.TheVariants.{Counter, Gauge, Histogram}
use Rattle.otel_prometheus.proofs.LawLemmas.{one_heading}
use Rattle.otel_prometheus.proofs.NamedLemmas.{both_true, and_true, and_false, both_false, left_true, right_true, eq_sym, named, named_append, refused_if_named, others_named}

-- ======== one more metric ========
fold_append : {A B : Type 0} (f : B → A → B) (b : B) (xs ys : List A) → fold f b (xs ++ ys) ≡ fold f (fold f b xs) ys
fold_append f b [] ys = refl
fold_append f b (x ∷ xs) ys = fold_append f (f b x) xs ys

pub families_more : (xs : List Member) (x : Member) → families_of (xs ++ x ∷ []) ≡ with_metric (families_of xs) x.metric
families_more xs x = fold_append (λ fs y. with_metric fs y.metric) [] xs (x ∷ [])

apart_from : (fs : List Family) (xs : List Member) → StandApart [] fs → StandApart [] (fold (λ gs y. with_metric gs y.metric) fs xs)
apart_from fs [] s = s
apart_from fs (x ∷ xs) s = apart_from (with_metric fs x.metric) xs (one_heading fs x.metric (heading_of x.metric) s)

pub stand_apart : (xs : List Member) → StandApart [] (families_of xs)
stand_apart xs = apart_from [] xs tt

filter_one : {A : Type 0} (t : A → Bool) (xs : List A) (x : A) → filter t (xs ++ x ∷ []) ≡ filter t xs ++ cond (t x) (x ∷ []) []
filter_one t [] x = refl
filter_one t (y ∷ xs) x = first (t y) (filter t xs) (filter t (xs ++ x ∷ [])) (cond (t x) (x ∷ []) []) (filter_one t xs x)
  where
    first : (b : Bool) (u v w : List _) → v ≡ u ++ w → cond b (y ∷ v) v ≡ cond b (y ∷ u) u ++ w
    first true u v w e = ap (λ l. y ∷ l) e
    first false u v w e = e

group_more : (xs : List Member) (x : Member) (f : Family) → group_of (xs ++ x ∷ []) f ≡ joined (is_of f.heading x) (group_of xs f) x
group_more xs x f = ap (λ l. record { family = f; members = l }) (filter_one (is_of f.heading) xs x)

unjoined : (g : Group) (x : Member) (b : Bool) → b ≡ false → joined b g x ≡ g
unjoined g x b e = (λ i. joined (e i) g x) ∙ ap (λ l. record { family = g.family; members = l }) (append-nil g.members)

group_stays : (xs : List Member) (x : Member) (f : Family) → is_of f.heading x ≡ false → group_of (xs ++ x ∷ []) f ≡ group_of xs f
group_stays xs x f e = group_more xs x f ∙ unjoined (group_of xs f) x (is_of f.heading x) e

-- ======== a metric of a heading ========
module _ (xs : List Member) (x : Member) (h : Heading) (e : heading_of x.metric ≡ Some h) where
  is_of_same : (f : Family) → is_of f.heading x ≡ same_heading f.heading h
  is_of_same f = ap (belongs f.heading) e

  other_name : (f : Family) → bytes_eq h.name f.heading.name ≡ false → same_heading f.heading h ≡ false
  other_name f k = and_false (kind_eq f.heading.kind h.kind) (bytes_eq f.heading.name h.name) (eq_sym f.heading.name h.name ∙ k)

  and_yes : (a b : Bool) → b ≡ true → (a && b) ≡ a
  and_yes true b k = k
  and_yes false b k = refl

  own_name : (f : Family) → bytes_eq h.name f.heading.name ≡ true → same_heading f.heading h ≡ kind_eq f.heading.kind h.kind
  own_name f k = and_yes (kind_eq f.heading.kind h.kind) (bytes_eq f.heading.name h.name) (eq_sym f.heading.name h.name ∙ k)

  pub all_stay : (fs : List Family) → named h.name fs ≡ false → map (group_of (xs ++ x ∷ [])) fs ≡ map (group_of xs) fs
  all_stay [] k = refl
  all_stay (f ∷ fs) k =
      let n = both_false (bytes_eq h.name f.heading.name) (named h.name fs) k in
      λ i. group_stays xs x f (is_of_same f ∙ other_name f n.0) i ∷ all_stay fs n.1 i

  pub none_has : (fs : List Family) → named h.name fs ≡ false → list_any (λ f. same_heading f.heading h) fs ≡ false
  none_has [] k = refl
  none_has (f ∷ fs) k =
      let n = both_false (bytes_eq h.name f.heading.name) (named h.name fs) k in
      (λ i. other_name f n.0 i || none_has fs n.1 i)

  or_none : (a b : Bool) → b ≡ false → (a || b) ≡ a
  or_none true b k = refl
  or_none false b k = k

  rest_unnamed : (before fs : List Family) (f : Family) → StandApart (before ++ f ∷ []) fs → bytes_eq h.name f.heading.name ≡ true → named h.name fs ≡ false
  rest_unnamed before fs f s k =
      others_named h.name (before ++ f ∷ []) fs s
      (named_append h.name before (f ∷ []) ∙ right_true (named h.name before) (named h.name (f ∷ [])) (left_true (bytes_eq h.name f.heading.name) false k))

  -- the family at the place of the name has the metric if it has its type, and no other has it
  pub at_place : (before fs : List Family) (i : ℕ) (d : Family) (g : Group) → StandApart before fs → i < length fs → bytes_eq h.name (get_or fs i d).heading.name ≡ true
      → ((k : ℕ) → k < i → bytes_eq h.name (get_or fs k d).heading.name ≡ false)
      → map (group_of (xs ++ x ∷ [])) fs ≡ set (map (group_of xs) fs) i (joined (kind_eq (get_or fs i d).heading.kind h.kind) (get_or (map (group_of xs) fs) i g) x)
  at_place before [] i d g s l k n = absurd (omega (arith, l))
  at_place before (f ∷ fs) zero d g s l k n =
      λ i. (group_more xs x f ∙ ap (λ b. joined b (group_of xs f) x) (is_of_same f ∙ own_name f k)) i ∷ all_stay fs (rest_unnamed before fs f s.1 k) i
  at_place before (f ∷ fs) (suc j) d g s l k n =
      let less : j < length fs = omega (arith, l) in
      λ i. group_stays xs x f (is_of_same f ∙ other_name f (n 0 (omega arith))) i
      ∷ at_place (before ++ f ∷ []) fs j d g s.1 less k (λ m p. n (suc m) (omega (arith, p))) i

  pub has_at : (before fs : List Family) (i : ℕ) (d : Family) → StandApart before fs → i < length fs → bytes_eq h.name (get_or fs i d).heading.name ≡ true
      → ((k : ℕ) → k < i → bytes_eq h.name (get_or fs k d).heading.name ≡ false)
      → list_any (λ f. same_heading f.heading h) fs ≡ kind_eq (get_or fs i d).heading.kind h.kind
  has_at before [] i d s l k n = absurd (omega (arith, l))
  has_at before (f ∷ fs) zero d s l k n =
      ap (λ b. b || list_any (λ f. same_heading f.heading h) fs) (own_name f k)
      ∙ or_none (kind_eq f.heading.kind h.kind) (list_any (λ f. same_heading f.heading h) fs) (none_has fs (rest_unnamed before fs f s.1 k))
  has_at before (f ∷ fs) (suc j) d s l k n =
      let less : j < length fs = omega (arith, l) in
      ap (λ b. b || list_any (λ f. same_heading f.heading h) fs) (other_name f (n 0 (omega arith)))
      ∙ has_at (before ++ f ∷ []) fs j d s.1 less k (λ m p. n (suc m) (omega (arith, p)))

  -- the families if one more can't stand beside them, and if it can
  pub families_stay : is_refused (families_of xs) h ≡ true → families_of (xs ++ x ∷ []) ≡ families_of xs
  families_stay r =
      families_more xs x
      ∙ (ap (with_heading (families_of xs) x.metric) e
      ∙ (λ i. cond (r i) (families_of xs) (families_of xs ++ record { heading = h; help = x.metric.description } ∷ [])))

  pub families_grow : is_refused (families_of xs) h ≡ false → families_of (xs ++ x ∷ []) ≡ families_of xs ++ record { heading = h; help = x.metric.description } ∷ []
  families_grow r =
      families_more xs x
      ∙ (ap (with_heading (families_of xs) x.metric) e
      ∙ (λ i. cond (r i) (families_of xs) (families_of xs ++ record { heading = h; help = x.metric.description } ∷ [])))

-- ======== a metric that can't be shown ========
pub hidden_groups : (xs : List Member) (x : Member) → heading_of x.metric ≡ None → (fs : List Family) → map (group_of (xs ++ x ∷ [])) fs ≡ map (group_of xs) fs
hidden_groups xs x e [] = refl
hidden_groups xs x e (f ∷ fs) = λ i. group_stays xs x f (ap (belongs f.heading) e) i ∷ hidden_groups xs x e fs i

pub families_hidden : (xs : List Member) (x : Member) → heading_of x.metric ≡ None → families_of (xs ++ x ∷ []) ≡ families_of xs
families_hidden xs x e = families_more xs x ∙ ap (with_heading (families_of xs) x.metric) e

-- ======== metrics so far can't found a family later ========
abbrev RefusedIf : List Family → Option Heading → Type 0
RefusedIf fs None = Unit {0}
RefusedIf fs (Some h) = is_refused fs h ≡ true

abbrev Refused : List Family → List Member → Type 0
Refused fs [] = Unit {0}
Refused fs (x ∷ xs) = RefusedIf fs (heading_of x.metric) × Refused fs xs

refused_more : (fs gs : List Family) (h : Heading) → is_refused fs h ≡ true → is_refused (fs ++ gs) h ≡ true
refused_more fs gs h r = more (is_reserved h.name) (clash fs) (clash gs) (clash (fs ++ gs)) (list_any-append (λ f. clashes f.heading h) fs gs) r
  where
    clash : List Family → Bool
    clash fs = list_any (λ f. clashes f.heading h) fs

    more : (a b d t : Bool) → t ≡ (b || d) → (a || b) ≡ true → (a || t) ≡ true
    more true b d t e r = refl
    more false b d t e r = e ∙ left_true b d r

refused_if_more : (fs gs : List Family) (o : Option Heading) → RefusedIf fs o → RefusedIf (fs ++ gs) o
refused_if_more fs gs None r = r
refused_if_more fs gs (Some h) r = refused_more fs gs h r

all_refused_more : (fs gs : List Family) (xs : List Member) → Refused fs xs → Refused (fs ++ gs) xs
all_refused_more fs gs [] r = r
all_refused_more fs gs (x ∷ xs) r = (refused_if_more fs gs (heading_of x.metric) r.0, all_refused_more fs gs xs r.1)

refused_itself : (fs : List Family) (f : Family) → is_refused (fs ++ f ∷ []) f.heading ≡ true
refused_itself fs f =
    refused_if_named f.heading (fs ++ f ∷ [])
    (named_append f.heading.name fs (f ∷ []) ∙ right_true (named f.heading.name fs) (named f.heading.name (f ∷ [])) (left_true (bytes_eq f.heading.name f.heading.name) false ((bytes_decides f.heading.name f.heading.name).1 refl)))

refused_after : (fs : List Family) (xs : List Member) (m : Metric) (o : Option Heading) → Refused fs xs → Refused (with_heading fs m o) xs × RefusedIf (with_heading fs m o) o
refused_after fs xs m None r = (r, tt)
refused_after fs xs m (Some h) r = either (is_refused fs h) refl
  where
    either : (t : Bool) → is_refused fs h ≡ t → Refused (cond t fs (fs ++ record { heading = h; help = m.description } ∷ [])) xs × (is_refused (cond t fs (fs ++ record { heading = h; help = m.description } ∷ [])) h ≡ true)
    either true e = (r, e)
    either false e = (all_refused_more fs (record { heading = h; help = m.description } ∷ []) xs r, refused_itself fs (record { heading = h; help = m.description }))

refused_last : (fs : List Family) (xs : List Member) (x : Member) → Refused fs xs → RefusedIf fs (heading_of x.metric) → Refused fs (xs ++ x ∷ [])
refused_last fs [] x r q = (q, tt)
refused_last fs (y ∷ xs) x r q = (r.0, refused_last fs xs x r.1 q)

all_refused_from : (fs : List Family) (seen xs : List Member) → Refused fs seen → Refused (fold (λ gs y. with_metric gs y.metric) fs xs) (seen ++ xs)
all_refused_from fs seen [] r = subst (Refused fs) (sym (append-nil seen)) r
all_refused_from fs seen (x ∷ xs) r =
    let k = refused_after fs seen x.metric (heading_of x.metric) r in
    subst (Refused (fold (λ gs y. with_metric gs y.metric) fs (x ∷ xs))) (append_assoc seen (x ∷ []) xs)
    (all_refused_from (with_metric fs x.metric) (seen ++ x ∷ []) xs (refused_last (with_metric fs x.metric) seen x k.0 k.1))

-- a metric that was seen has a family, or can't stand beside those there are
all_refused : (xs : List Member) → Refused (families_of xs) xs
all_refused xs = all_refused_from [] [] xs tt

same_is : (a b : Heading) → same_heading a b ≡ true → a ≡ b
same_is a b e =
    let k = both_true (kind_eq a.kind b.kind) (bytes_eq a.name b.name) e in
    λ i. record { name = (bytes_decides a.name b.name).0 k.1 i; kind = kinds_same a.kind b.kind k.0 i }
  where
    kinds_same : (k l : Kind) → kind_eq k l ≡ true → k ≡ l
    kinds_same Counter Counter p = refl
    kinds_same Counter Gauge p = absurd (true≢false (sym p))
    kinds_same Counter Histogram p = absurd (true≢false (sym p))
    kinds_same Gauge Counter p = absurd (true≢false (sym p))
    kinds_same Gauge Gauge p = refl
    kinds_same Gauge Histogram p = absurd (true≢false (sym p))
    kinds_same Histogram Counter p = absurd (true≢false (sym p))
    kinds_same Histogram Gauge p = absurd (true≢false (sym p))
    kinds_same Histogram Histogram p = refl

not_same : (fs : List Family) (a b : Heading) → is_refused fs a ≡ false → is_refused fs b ≡ true → same_heading a b ≡ false
not_same fs a b r q = no (same_heading a b) (λ e. true≢false (sym q ∙ (ap (is_refused fs) (sym (same_is a b e)) ∙ r)))
  where
    no : (t : Bool) → (t ≡ true → ⊥) → t ≡ false
    no true n = absurd (n refl)
    no false n = refl

not_belongs : (fs : List Family) (h : Heading) (o : Option Heading) → is_refused fs h ≡ false → RefusedIf fs o → belongs h o ≡ false
not_belongs fs h None r q = refl
not_belongs fs h (Some k) r q = not_same fs h k r q

-- so a new family has none of them
none_of : (fs : List Family) (h : Heading) (xs : List Member) → is_refused fs h ≡ false → Refused fs xs → filter (is_of h) xs ≡ []
none_of fs h [] r q = refl
none_of fs h (x ∷ xs) r q = (λ i. cond (not_belongs fs h (heading_of x.metric) r q.0 i) (x ∷ filter (is_of h) xs) (filter (is_of h) xs)) ∙ none_of fs h xs r q.1

pub same_itself : (h : Heading) → same_heading h h ≡ true
same_itself h = and_true (kind_eq h.kind h.kind) (bytes_eq h.name h.name) (kind h.kind) ((bytes_decides h.name h.name).1 refl)
  where
    kind : (k : Kind) → kind_eq k k ≡ true
    kind Counter = refl
    kind Gauge = refl
    kind Histogram = refl

pub new_group : (xs : List Member) (x : Member) (h : Heading) → heading_of x.metric ≡ Some h → is_refused (families_of xs) h ≡ false
    → group_of (xs ++ x ∷ []) (record { heading = h; help = x.metric.description }) ≡ record { family = record { heading = h; help = x.metric.description }; members = x ∷ [] }
new_group xs x h e r =
    group_more xs x (record { heading = h; help = x.metric.description })
    ∙ (λ i. record { family = record { heading = h; help = x.metric.description }; members = none_of (families_of xs) h xs r (all_refused xs) i ++ cond ((ap (belongs h) e ∙ same_itself h) i) (x ∷ []) [] })

conflict_stays : (fs : List Family) (f : Family) (n : ℕ) (o : Option Heading) → is_refused fs f.heading ≡ false → RefusedIf fs o → conflicting_if (fs ++ f ∷ []) n o ≡ conflicting_if fs n o
conflict_stays fs f n None r q = refl
conflict_stays fs f n (Some k) r q =
    ap (λ b. cond b 0 n)
    (list_any-append (λ g. same_heading g.heading k) fs (f ∷ [])
    ∙ unless (list_any (λ g. same_heading g.heading k) fs) (same_heading f.heading k) (not_same fs f.heading k r q))
  where
    unless : (a b : Bool) → b ≡ false → (a || (b || false)) ≡ a
    unless true b e = refl
    unless false b e = (λ i. e i || false)

conflicts_stay : (fs : List Family) (f : Family) (xs : List Member) → is_refused fs f.heading ≡ false → Refused fs xs → total (λ x. conflicting_in (fs ++ f ∷ []) x.metric) xs ≡ total (λ x. conflicting_in fs x.metric) xs
conflicts_stay fs f [] r q = refl
conflicts_stay fs f (x ∷ xs) r q = λ i. conflict_stays fs f (content_length x.metric.content) (heading_of x.metric) r q.0 i + conflicts_stay fs f xs r q.1 i

total_one : {A : Type 0} (f : A → ℕ) (xs : List A) (x : A) → total f (xs ++ x ∷ []) ≡ total f xs + f x
total_one f [] x = omega arith
total_one f (y ∷ xs) x = let k : total f (xs ++ x ∷ []) ≡ total f xs + f x = total_one f xs x in omega (arith, k)

conflicts_among : (xs : List Member) (x : Member) (o : Option Heading) → heading_of x.metric ≡ o → total (λ y. conflicting_in (families_of (xs ++ x ∷ [])) y.metric) xs ≡ conflicting_among xs
conflicts_among xs x None e = ap (λ fs. total (λ y. conflicting_in fs y.metric) xs) (families_more xs x ∙ ap (with_heading (families_of xs) x.metric) e)
conflicts_among xs x (Some h) e = either (is_refused (families_of xs) h) refl
  where
    either : (t : Bool) → is_refused (families_of xs) h ≡ t → total (λ y. conflicting_in (families_of (xs ++ x ∷ [])) y.metric) xs ≡ conflicting_among xs
    either true r = ap (λ fs. total (λ y. conflicting_in fs y.metric) xs) (families_stay xs x h e r)
    either false r =
        ap (λ fs. total (λ y. conflicting_in fs y.metric) xs) (families_grow xs x h e r)
        ∙ conflicts_stay (families_of xs) (record { heading = h; help = x.metric.description }) xs r (all_refused xs)

-- what one more metric adds to the points that have no family
pub conflicting_more : (xs : List Member) (x : Member) → conflicting_among (xs ++ x ∷ []) ≡ conflicting_among xs + conflicting_in (families_of (xs ++ x ∷ [])) x.metric
conflicting_more xs x =
    total_one (λ y. conflicting_in (families_of (xs ++ x ∷ [])) y.metric) xs x
    ∙ ap (λ n. n + conflicting_in (families_of (xs ++ x ∷ [])) x.metric) (conflicts_among xs x (heading_of x.metric) refl)
