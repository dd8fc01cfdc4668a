-- Families stay those of the metrics that were seen.
use Rattle.std.proofs.Common.{◌≡◌, ℕ, ◌+◌, ◌%◌, ◌^◌, ◌<◌, ◌||◌, Bool, true, false, cond, List, [], ◌∷◌, ◌++◌, length, map, fold, zero, suc, get_or, set, position, Option, Some, None, refl, sym, ap, ◌∙◌, append-nil, arith}
use Rattle.std.proofs.lemmas.Grind.{flat_map-append}
use Rattle.std.proofs.lemmas.List.{map-append, length-map}
use Rattle.std.proofs.lemmas.List.Folds.{list_any-append, list_any_at}
use Rattle.std.proofs.lemmas.List.Quantifiers.{position-Some}
use Rattle.std.proofs.lemmas.Bool.{true≢false}
use Rattle.std.specs.Cmp.Lexicographic.{bytes_decides}
use Rattle.std.specs.List.{list_any}
use Rattle.indexmap.specs.IndexSet.{insert_key}
use Rattle.otel_common.specs.Equality.{bytes_eq}
use Rattle.otel_prometheus.specs.Families.{is_refused, content_length, conflicting_if, conflicting_in}
use Rattle.otel_prometheus.specs.Groups.{Member, Group, families_of, group_of, groups_of, conflicting_among, has_family, joined, names_of, sample_names, sample_names_of}
use Rattle.otel_prometheus.specs.Headings.{heading_of, same_heading, kind_eq, is_reserved}
use Rattle.otel_prometheus.specs.Standing.{IsNewName, AreFound, AreFamilies, AreGroups}
use Rattle.otel_prometheus.specs.declared.families.Family.{Family}
use Rattle.otel_prometheus.specs.declared.families.Groups.{Groups}
use Rattle.otel_prometheus.specs.declared.headings.Heading.{Heading}
use Rattle.otel_prometheus.proofs.NamedLemmas.{left_true, right_true, named, refused_by_name, refused_if_named}
use Rattle.otel_prometheus.proofs.GroupLemmas.{all_stay, none_has, at_place, has_at, families_stay, families_grow, stand_apart, new_group, same_itself, hidden_groups, families_hidden, conflicting_more}

get_or_map : {A B : Type 0} (f : A → B) (xs : List A) (i : ℕ) (d : A) → get_or (map f xs) i (f d) ≡ f (get_or xs i d)
get_or_map f [] i d = refl
get_or_map f (x ∷ xs) zero d = refl
get_or_map f (x ∷ xs) (suc i) d = get_or_map f xs i d

-- a family has a place for each name
pub names_long : (g : Groups) (seen : List Member) → AreFamilies g seen → length g.names.keys ≡ length g.list.items
names_long g seen a = ap length a.names ∙ (length-map (families_of seen) (λ f. f.heading.name) ∙ (sym (length-map (families_of seen) (group_of seen)) ∙ ap length (sym a.list)))

module _ (old : Groups) (seen : List Member) (x : Member) (h : Heading) (e : heading_of x.metric ≡ Some h) (a : AreFamilies old seen) where
  -- a family has the name
  module _ (groups : List Group) (i : ℕ) (joins : Bool) (p : position (bytes_eq h.name) old.names.keys ≡ Some i)
      (k : (g : Group) → (joins ≡ kind_eq (get_or old.list.items i g).family.heading.kind h.kind) × (groups ≡ set old.list.items i (joined joins (get_or old.list.items i g) x))) where
    abbrev any : Family
    any = record { heading = h; help = [] }

    abbrev fs : List Family
    fs = families_of seen

    abbrev name : Family → List ℕ
    name f = f.heading.name

    first : (i < length (names_of fs)) × (bytes_eq h.name (get_or (names_of fs) i h.name) ≡ true) × ((m : ℕ) → m < i → bytes_eq h.name (get_or (names_of fs) m h.name) ≡ false)
    first = position-Some (bytes_eq h.name) (names_of fs) i h.name (ap (position (bytes_eq h.name)) (sym a.names) ∙ p)

    within : i < length fs
    within = omega (arith, first.0, length-map fs name)

    own : bytes_eq h.name (get_or fs i any).heading.name ≡ true
    own = ap (bytes_eq h.name) (sym (get_or_map name fs i any)) ∙ first.1

    others : (m : ℕ) → m < i → bytes_eq h.name (get_or fs m any).heading.name ≡ false
    others m l = ap (bytes_eq h.name) (sym (get_or_map name fs m any)) ∙ first.2 m l

    is_named : named h.name fs ≡ true
    is_named = list_any_at (bytes_eq h.name) (names_of fs) i h.name first.0 first.1

    stays : families_of (seen ++ x ∷ []) ≡ fs
    stays = families_stay seen x h e (refused_if_named h fs is_named)

    at : get_or old.list.items i (group_of seen any) ≡ group_of seen (get_or fs i any)
    at = ap (λ l. get_or l i (group_of seen any)) a.list ∙ get_or_map (group_of seen) fs i any

    kinds : joins ≡ kind_eq (get_or fs i any).heading.kind h.kind
    kinds = (k (group_of seen any)).0 ∙ ap (λ g. kind_eq g.family.heading.kind h.kind) at

    pub joins_families : AreFound groups old.names.keys old.sample_names.keys (seen ++ x ∷ [])
    joins_families = record {
      list =
          (k (group_of seen any)).1
          ∙ ((λ j. set (a.list j) i (joined (kinds j) (get_or (a.list j) i (group_of seen any)) x))
          ∙ (sym (at_place seen x h e [] fs i any (group_of seen any) (stand_apart seen) within own others)
          ∙ ap (map (group_of (seen ++ x ∷ []))) (sym stays)));
      names = a.names ∙ ap names_of (sym stays);
      samples = λ m. a.samples m ∙ ap (λ l. list_any (bytes_eq m) (sample_names_of l)) (sym stays);
    }

    pub joins_has : joins ≡ has_family (seen ++ x ∷ []) h
    joins_has = kinds ∙ (sym (has_at seen x h e [] fs i any (stand_apart seen) within own others) ∙ ap (list_any (λ f. same_heading f.heading h)) (sym stays))

-- ======== names that were noted ========
also : (b c : Bool) → (c ≡ true → b ≡ true) → b ≡ (b || c)
also true c f = refl
also false true f = f refl
also false false f = refl

or_last : (b c : Bool) → (b || (c || false)) ≡ (b || c)
or_last true c = refl
or_last false true = refl
or_last false false = refl

or_assoc : (a b c : Bool) → ((a || b) || c) ≡ (a || (b || c))
or_assoc true b c = refl
or_assoc false b c = refl

noted_one : (n : List ℕ) (ks : List (List ℕ)) (k : List ℕ) → list_any (bytes_eq n) (insert_key bytes_eq ks k) ≡ (list_any (bytes_eq n) ks || bytes_eq n k)
noted_one n ks k = either (list_any (bytes_eq k) ks) refl
  where
    either : (t : Bool) → list_any (bytes_eq k) ks ≡ t → list_any (bytes_eq n) (cond t ks (ks ++ k ∷ [])) ≡ (list_any (bytes_eq n) ks || bytes_eq n k)
    either true e = also (list_any (bytes_eq n) ks) (bytes_eq n k) (λ h. ap (λ m. list_any (bytes_eq m) ks) ((bytes_decides n k).0 h) ∙ e)
    either false e = list_any-append (bytes_eq n) ks (k ∷ []) ∙ or_last (list_any (bytes_eq n) ks) (bytes_eq n k)

noted_each : (n : List ℕ) (ks ms : List (List ℕ)) → list_any (bytes_eq n) (fold (insert_key bytes_eq) ks ms) ≡ (list_any (bytes_eq n) ks || list_any (bytes_eq n) ms)
noted_each n ks [] = also (list_any (bytes_eq n) ks) false (λ h. absurd (true≢false (sym h)))
noted_each n ks (m ∷ ms) =
    noted_each n (insert_key bytes_eq ks m) ms
    ∙ (ap (λ t. t || list_any (bytes_eq n) ms) (noted_one n ks m)
    ∙ or_assoc (list_any (bytes_eq n) ks) (bytes_eq n m) (list_any (bytes_eq n) ms))

-- ======== a new name ========
module _ (old : Groups) (seen : List Member) (x : Member) (h : Heading) (e : IsNewName old h x) (a : AreFamilies old seen) where
  unnamed : named h.name (families_of seen) ≡ false
  unnamed = ap (list_any (bytes_eq h.name)) (sym a.names) ∙ e.absent

  pub refused_is : (r result : Bool) (given : List (List ℕ)) → result ≡ r → result ≡ (is_reserved h.name || (list_any (bytes_eq h.name) old.sample_names.keys || list_any (λ n. list_any (bytes_eq n) old.names.keys) given))
      → given ≡ sample_names h → is_refused (families_of seen) h ≡ r
  refused_is r result given is k g =
      refused_by_name h (families_of seen)
      ∙ ((λ i. is_reserved h.name || (unnamed i || (sym (a.samples h.name) i || list_any (λ n. list_any (bytes_eq n) (sym a.names i)) (sym g i))))
      ∙ (sym k ∙ is))

  -- it can't stand beside the families
  module _ (r : is_refused (families_of seen) h ≡ true) where
    pub refused_families : AreFamilies old (seen ++ x ∷ [])
    refused_families = record {
      list = a.list ∙ (sym (all_stay seen x h e.heading (families_of seen) unnamed) ∙ ap (map (group_of (seen ++ x ∷ []))) (sym (families_stay seen x h e.heading r)));
      names = a.names ∙ ap names_of (sym (families_stay seen x h e.heading r));
      samples = λ m. a.samples m ∙ ap (λ l. list_any (bytes_eq m) (sample_names_of l)) (sym (families_stay seen x h e.heading r));
    }

    pub refused_has : has_family (seen ++ x ∷ []) h ≡ false
    refused_has = ap (list_any (λ f. same_heading f.heading h)) (families_stay seen x h e.heading r) ∙ none_has seen x h e.heading (families_of seen) unnamed

  -- it can
  module _ (r : is_refused (families_of seen) h ≡ false) where
    abbrev pub founded : Family
    founded = record { heading = h; help = x.metric.description }

    grows : families_of (seen ++ x ∷ []) ≡ families_of seen ++ founded ∷ []
    grows = families_grow seen x h e.heading r

    groups_grow : groups_of (seen ++ x ∷ []) ≡ groups_of seen ++ record { family = founded; members = x ∷ [] } ∷ []
    groups_grow =
        ap (map (group_of (seen ++ x ∷ []))) grows
        ∙ (map-append (group_of (seen ++ x ∷ [])) (families_of seen) (founded ∷ [])
        ∙ (λ i. all_stay seen x h e.heading (families_of seen) unnamed i ++ new_group seen x h e.heading r i ∷ []))

    samples_grow : (m : List ℕ) → list_any (bytes_eq m) (sample_names_of (families_of (seen ++ x ∷ []))) ≡ (list_any (bytes_eq m) (sample_names_of (families_of seen)) || list_any (bytes_eq m) (sample_names h))
    samples_grow m =
        ap (λ l. list_any (bytes_eq m) (sample_names_of l)) grows
        ∙ (ap (list_any (bytes_eq m)) (flat_map-append (λ f. sample_names f.heading) (families_of seen) (founded ∷ []) ∙ ap (λ l. sample_names_of (families_of seen) ++ l) (append-nil (sample_names h)))
        ∙ list_any-append (bytes_eq m) (sample_names_of (families_of seen)) (sample_names h))

    pub new_families : (groups : List Group) (names noted : List (List ℕ)) → groups ≡ old.list.items ++ record { family = founded; members = x ∷ [] } ∷ [] → names ≡ insert_key bytes_eq old.names.keys h.name
        → noted ≡ fold (insert_key bytes_eq) old.sample_names.keys (sample_names h) → AreFound groups names noted (seen ++ x ∷ [])
    new_families groups names noted l n s = record {
      list = l ∙ (ap (λ gs. gs ++ record { family = founded; members = x ∷ [] } ∷ []) a.list ∙ sym groups_grow);
      names =
          n
          ∙ ((λ i. cond (e.absent i) old.names.keys (old.names.keys ++ h.name ∷ []))
          ∙ (ap (λ ns. ns ++ h.name ∷ []) a.names
          ∙ (sym (map-append (λ f. f.heading.name) (families_of seen) (founded ∷ [])) ∙ ap names_of (sym grows))));
      samples = λ m.
          ap (list_any (bytes_eq m)) s
          ∙ (noted_each m old.sample_names.keys (sample_names h)
          ∙ (ap (λ t. t || list_any (bytes_eq m) (sample_names h)) (a.samples m) ∙ sym (samples_grow m)));
    }

    pub new_has : has_family (seen ++ x ∷ []) h ≡ true
    new_has =
        ap (list_any (λ f. same_heading f.heading h)) grows
        ∙ (list_any-append (λ f. same_heading f.heading h) (families_of seen) (founded ∷ [])
        ∙ right_true (list_any (λ f. same_heading f.heading h) (families_of seen)) (same_heading h h || false) (left_true (same_heading h h) false (same_itself h)))

-- ======== a metric that can't be shown ========
pub hidden_families : (g : Groups) (seen : List Member) (x : Member) → heading_of x.metric ≡ None → AreFamilies g seen → AreFamilies g (seen ++ x ∷ [])
hidden_families g seen x e a = record {
  list = a.list ∙ (sym (hidden_groups seen x e (families_of seen)) ∙ ap (map (group_of (seen ++ x ∷ []))) (sym (families_hidden seen x e)));
  names = a.names ∙ ap names_of (sym (families_hidden seen x e));
  samples = λ m. a.samples m ∙ ap (λ l. list_any (bytes_eq m) (sample_names_of l)) (sym (families_hidden seen x e));
}

-- ======== counts ========
own_conflict : (seen : List Member) (x : Member) (o : Option Heading) → heading_of x.metric ≡ o → conflicting_in (families_of (seen ++ x ∷ [])) x.metric ≡ conflicting_if (families_of (seen ++ x ∷ [])) (content_length x.metric.content) o
own_conflict seen x o e = ap (conflicting_if (families_of (seen ++ x ∷ [])) (content_length x.metric.content)) e

counted_all : (seen : List Member) (x : Member) (o : Option Heading) → heading_of x.metric ≡ o → conflicting_among (seen ++ x ∷ []) ≡ conflicting_among seen + conflicting_if (families_of (seen ++ x ∷ [])) (content_length x.metric.content) o
counted_all seen x o e = conflicting_more seen x ∙ ap (λ n. conflicting_among seen + n) (own_conflict seen x o e)

nothing_more : (n a b : ℕ) → b ≡ a + 0 → n ≡ a % 2 ^ 64 → n ≡ b % 2 ^ 64
nothing_more n a b e k = omega (arith, e, k)

more : (n a b c d : ℕ) → b ≡ a + c → n ≡ a % 2 ^ 64 → d ≡ (n + c) % 2 ^ 64 → d ≡ b % 2 ^ 64
more n a b c d e k l = omega (arith, e, k, l)

pub hidden_groups_stay : (g : Groups) (seen : List Member) (x : Member) → heading_of x.metric ≡ None → AreGroups g seen → AreGroups g (seen ++ x ∷ [])
hidden_groups_stay g seen x e a = record {
  families = hidden_families g seen x e a.families;
  conflicting = nothing_more g.conflicting (conflicting_among seen) (conflicting_among (seen ++ x ∷ [])) (counted_all seen x None e) a.conflicting;
}

module _ (old new : Groups) (seen : List Member) (x : Member) (h : Heading) (e : heading_of x.metric ≡ Some h) (a : AreGroups old seen) (f : AreFamilies new (seen ++ x ∷ [])) where
  pub with_family : has_family (seen ++ x ∷ []) h ≡ true → new.conflicting ≡ old.conflicting → AreGroups new (seen ++ x ∷ [])
  with_family t c = record {
    families = f;
    conflicting =
        c
        ∙ nothing_more old.conflicting (conflicting_among seen) (conflicting_among (seen ++ x ∷ []))
        (counted_all seen x (Some h) e ∙ ap (λ b. conflicting_among seen + cond b 0 (content_length x.metric.content)) t) a.conflicting;
  }

  pub without_family : has_family (seen ++ x ∷ []) h ≡ false → new.conflicting ≡ (old.conflicting + content_length x.metric.content) % 2 ^ 64 → AreGroups new (seen ++ x ∷ [])
  without_family t c = record {
    families = f;
    conflicting =
        more old.conflicting (conflicting_among seen) (conflicting_among (seen ++ x ∷ [])) (content_length x.metric.content) new.conflicting
        (counted_all seen x (Some h) e ∙ ap (λ b. conflicting_among seen + cond b 0 (content_length x.metric.content)) t) a.conflicting c;
  }
