-- Arrays that are being written.
use Rattle.std.proofs.Common.{◌≡◌, ℕ, ◌+◌, ◌<◌, List, [], ◌∷◌, ◌++◌, map, drop, length, get_or, ap, sym, ◌∙◌, append_assoc, add-one, drop-cons}
use Rattle.json.specs.Json.{Json}
use Rattle.json.specs.Token.{Token}
use Rattle.json.specs.Tree.{json_tokens, items_tokens}
use Rattle.json.specs.Written.{Written}
use Rattle.otel_otlp.specs.Arrays.{items_from, array_of}

-- of an array of xs, as f writes each, the items from place i on are left
pub record Writing {A : Type 0} (f : A → Json) (old new : Written) (xs : List A) (i : ℕ) : Type 0 where
  pub whole : new.tokens ++ items_tokens (items_from (map f (drop i xs))) ≡ old.tokens ++ json_tokens (array_of f xs)
  pub before : new.before ≡ old.before

pub begun : {A : Type 0} (f : A → Json) (old new : Written) (xs : List A) → new.tokens ≡ old.tokens ++ Token.begin_array ∷ [] → new.before ≡ old.before → Writing f old new xs 0
begun f old new xs e b = record {
  whole = ap (λ t. t ++ items_tokens (items_from (map f xs))) e ∙ append_assoc old.tokens (Token.begin_array ∷ []) (items_tokens (items_from (map f xs)));
  before = b;
}

pub one_more : {A : Type 0} (f : A → Json) (old new newer : Written) (xs : List A) (i : ℕ) (x : A)
    → Writing f old new xs i → i < length xs → x ≡ get_or xs i x → newer.tokens ≡ new.tokens ++ json_tokens (f x) → newer.before ≡ new.before → Writing f old newer xs (i + 1)
one_more f old new newer xs i x w h is e b = record {
  whole =
      ap (λ t. t ++ items_tokens (items_from (map f (drop (i + 1) xs)))) e
      ∙ append_assoc new.tokens (json_tokens (f x)) (items_tokens (items_from (map f (drop (i + 1) xs))))
      ∙ ap (λ y. new.tokens ++ (json_tokens (f y) ++ items_tokens (items_from (map f (drop (i + 1) xs))))) is
      ∙ ap (λ k. new.tokens ++ (json_tokens (f (get_or xs i x)) ++ items_tokens (items_from (map f (drop k xs))))) (add-one i)
      ∙ ap (λ ys. new.tokens ++ items_tokens (items_from (map f ys))) (sym (drop-cons xs i x h))
      ∙ w.whole;
  before = b ∙ w.before;
}

-- of an array of xs, as f writes each, the items of this list are left
pub record Left {A : Type 0} (f : A → Json) (old new : Written) (xs left : List A) : Type 0 where
  pub whole : new.tokens ++ items_tokens (items_from (map f left)) ≡ old.tokens ++ json_tokens (array_of f xs)
  pub before : new.before ≡ old.before

-- ======== steps, one after another ========

pub joined2 : {A : Type 0} (t a b : List A) → (t ++ a) ++ b ≡ t ++ (a ++ b)
joined2 t a b = append_assoc t a b

pub joined3 : {A : Type 0} (t a b c : List A) → ((t ++ a) ++ b) ++ c ≡ t ++ (a ++ (b ++ c))
joined3 t a b c = append_assoc (t ++ a) b c ∙ joined2 t a (b ++ c)

pub joined4 : {A : Type 0} (t a b c d : List A) → (((t ++ a) ++ b) ++ c) ++ d ≡ t ++ (a ++ (b ++ (c ++ d)))
joined4 t a b c d = append_assoc ((t ++ a) ++ b) c d ∙ joined3 t a b (c ++ d)

pub joined5 : {A : Type 0} (t a b c d e : List A) → ((((t ++ a) ++ b) ++ c) ++ d) ++ e ≡ t ++ (a ++ (b ++ (c ++ (d ++ e))))
joined5 t a b c d e = append_assoc (((t ++ a) ++ b) ++ c) d e ∙ joined4 t a b c (d ++ e)

pub joined6 : {A : Type 0} (t a b c d e f : List A) → (((((t ++ a) ++ b) ++ c) ++ d) ++ e) ++ f ≡ t ++ (a ++ (b ++ (c ++ (d ++ (e ++ f)))))
joined6 t a b c d e f = append_assoc ((((t ++ a) ++ b) ++ c) ++ d) e f ∙ joined5 t a b c d (e ++ f)

pub joined7 : {A : Type 0} (t a b c d e f g : List A) → ((((((t ++ a) ++ b) ++ c) ++ d) ++ e) ++ f) ++ g ≡ t ++ (a ++ (b ++ (c ++ (d ++ (e ++ (f ++ g))))))
joined7 t a b c d e f g = append_assoc (((((t ++ a) ++ b) ++ c) ++ d) ++ e) f g ∙ joined6 t a b c d e (f ++ g)

pub joined8 : {A : Type 0} (t a b c d e f g h : List A) → (((((((t ++ a) ++ b) ++ c) ++ d) ++ e) ++ f) ++ g) ++ h ≡ t ++ (a ++ (b ++ (c ++ (d ++ (e ++ (f ++ (g ++ h)))))))
joined8 t a b c d e f g h = append_assoc ((((((t ++ a) ++ b) ++ c) ++ d) ++ e) ++ f) g h ∙ joined7 t a b c d e f (g ++ h)

pub joined9 : {A : Type 0} (t a b c d e f g h i : List A) → ((((((((t ++ a) ++ b) ++ c) ++ d) ++ e) ++ f) ++ g) ++ h) ++ i ≡ t ++ (a ++ (b ++ (c ++ (d ++ (e ++ (f ++ (g ++ (h ++ i))))))))
joined9 t a b c d e f g h i = append_assoc (((((((t ++ a) ++ b) ++ c) ++ d) ++ e) ++ f) ++ g) h i ∙ joined8 t a b c d e f g (h ++ i)
