-- The merge of resources, and their builders.
use Rattle.std.proofs.Common.{◌≡◌, ⊎_elim, ℕ, Bool, true, false, List, [], ◌∷◌, ◌++◌, reverse, refl, sym, ◌∙◌, ap, Option, Some, None, cond}
use Rattle.std.specs.Prelude.{◌≢◌}
use Rattle.std.specs.Option.{option_or}
use Rattle.std.specs.Ordering.{is_eq, eq_by_cmp}
use Rattle.std.specs.Cmp.{Equal-is}
use Rattle.std.specs.Cmp.Lexicographic.{nat_list_cmp_total, bytes_decides}
use Rattle.std.proofs.lemmas.List.{reverse-append}
use Rattle.std.proofs.lemmas.Cmp.{tied_itself}
use Rattle.std.proofs.lemmas.Bool.{cases_Bool, true≢false}
use Rattle.otel_common.specs.Canonical.{canon, key_cmp}
use Rattle.otel_common.specs.Equality.{bytes_eq}
use Rattle.otel_common.specs.declared.attributes.KeyValue.{KeyValue}
use Rattle.otel_common.proofs.CanonLaws.{key_cmp-IsAntisymmetric, value_at-canon, canon-same, canon-rising}
use Rattle.otel_common.proofs.CanonLaws as found
use Rattle.otel_common.specs.Resources.{merged_url, value_at, resource_of, url_of, GivenValuesWin, OwnValuesWin, GivenOneByOne, OthersValuesWin, UrlsMergeFromTheLeft, UrlsMergeFromTheRight, MergesAreCanonical}

-- the two tests of a key
same_test : (k q : List ℕ) → bytes_eq k q ≡ eq_by_cmp key_cmp q k
same_test k q = ⊎_elim
    (λ e. e ∙ sym (ap (λ x. eq_by_cmp key_cmp x k) (sym ((bytes_decides k q).0 e)) ∙ ap is_eq (tied_itself nat_list_cmp_total k)))
    (λ e. e ∙ sym (⊎_elim
    (λ t. absurd (true≢false (sym ((bytes_decides k q).1 (sym (key_cmp-IsAntisymmetric q k ((Equal-is (key_cmp q k)).0 t)))) ∙ e)))
    (λ t. t)
    (cases_Bool (eq_by_cmp key_cmp q k))))
    (cases_Bool (bytes_eq k q))

same_value : (q : List ℕ) (l : List KeyValue) → value_at q l ≡ found.value_at q l
same_value q [] = refl
same_value q (p ∷ l) = λ i. cond (same_test p.key q i) (Some p.value) (same_value q l i)

value_at-append : (q : List ℕ) (l m : List KeyValue) → value_at q (l ++ m) ≡ option_or (value_at q l) (value_at q m)
value_at-append q [] m = refl
value_at-append q (p ∷ l) m = go (bytes_eq p.key q) (value_at-append q l m)
  where
    go : (b : Bool) → value_at q (l ++ m) ≡ option_or (value_at q l) (value_at q m) → cond b (Some p.value) (value_at q (l ++ m)) ≡ option_or (cond b (Some p.value) (value_at q l)) (value_at q m)
    go true e = refl
    go false e = e

pub values_law : OthersValuesWin
values_law resource other key =
    same_value key (canon (other.attributes ++ resource.attributes))
    ∙ (value_at-canon (other.attributes ++ resource.attributes) key
    ∙ (sym (same_value key (other.attributes ++ resource.attributes))
    ∙ value_at-append key other.attributes resource.attributes))

pub canonical_law : MergesAreCanonical
canonical_law resource other = canon-rising (other.attributes ++ resource.attributes)

differ : (one two : List ℕ) → one ≢ two → bytes_eq one two ≡ false
differ one two n = ⊎_elim (λ e. absurd (n ((bytes_decides one two).0 e))) (λ e. e) (cases_Bool (bytes_eq one two))

pub left_law : UrlsMergeFromTheLeft
left_law a b c one two n e f g =
    (λ i. merged_url (merged_url (e i) (f i)) (g i))
    ∙ ap (λ t. merged_url (cond t (Some one) None) (Some two)) (differ one two n)

pub right_law : UrlsMergeFromTheRight
right_law a b c one two n e f g =
    (λ i. merged_url (e i) (merged_url (f i) (g i)))
    ∙ (ap (λ t. merged_url (Some one) (cond t (Some two) None)) ((bytes_decides two two).1 refl)
    ∙ ap (λ t. cond t (Some one) None) (differ one two n))

-- ======== builders ========
value_of_list : (q : List ℕ) (l : List KeyValue) → value_at q (canon l) ≡ value_at q l
value_of_list q l = same_value q (canon l) ∙ (value_at-canon l q ∙ sym (same_value q l))

pub given_law : GivenValuesWin
given_law builder attributes key =
    values_law builder (resource_of attributes None) key
    ∙ ap (λ o. option_or o (value_at key builder.attributes)) (value_of_list key (reverse attributes))

pub own_law : OwnValuesWin
own_law builder attributes url key =
    values_law (resource_of attributes (url_of url)) builder key
    ∙ ap (option_or (value_at key builder.attributes)) (value_of_list key (reverse attributes))

same_url : (o : Option (List ℕ)) → merged_url o None ≡ merged_url (merged_url o None) None
same_url None = refl
same_url (Some url) = refl

-- lists with the same values have one canonical form
alike : (l m : List KeyValue) → ((q : List ℕ) → value_at q l ≡ value_at q m) → canon l ≡ canon m
alike l m h = canon-same l m (λ q. sym (same_value q l) ∙ (h q ∙ same_value q m))

or_of_three : {X : Type 0} (a b c : Option X) → option_or (option_or a b) c ≡ option_or a (option_or b c)
or_of_three None b c = refl
or_of_three (Some x) b c = refl

pub one_by_one_law : GivenOneByOne
one_by_one_law builder l p = λ i. record { attributes = alike given one_more same i; schema_url = same_url builder.schema_url i }
  where
    given : List KeyValue
    given = canon (reverse (l ++ p ∷ [])) ++ builder.attributes

    one_more : List KeyValue
    one_more = canon (p ∷ []) ++ canon (canon (reverse l) ++ builder.attributes)

    same : (q : List ℕ) → value_at q given ≡ value_at q one_more
    same q =
        value_at-append q (canon (reverse (l ++ p ∷ []))) builder.attributes
        ∙ (ap (λ o. option_or o (value_at q builder.attributes)) (value_of_list q (reverse (l ++ p ∷ [])) ∙ (ap (value_at q) (reverse-append l (p ∷ [])) ∙ value_at-append q (p ∷ []) (reverse l)))
        ∙ (or_of_three (value_at q (p ∷ [])) (value_at q (reverse l)) (value_at q builder.attributes)
        ∙ sym (value_at-append q (canon (p ∷ [])) (canon (canon (reverse l) ++ builder.attributes))
        ∙ (λ i. option_or (value_of_list q (p ∷ []) i) (given_law (record { attributes = builder.attributes; schema_url = None }) l q i)))))
