-- The text of a few lines.
use Rattle.std.proofs.Common.{◌≡◌, ℕ, List, [], ◌∷◌, ◌++◌, codes, sym, ap, ◌∙◌, append_assoc, append-nil}
use Rattle.std.specs.Fmt.{signed_decimal}
use Rattle.otel_prometheus.specs.Lines.{Line, kind, sample, spelled, text_of}
use Rattle.otel_prometheus.specs.Numbers.{unsigned}
use Rattle.otel_prometheus.specs.Samples.{Pair, labels_text, line_text, sample_text}
use Rattle.otel_prometheus.specs.declared.text.formats.Format.{Format}
use Rattle.otel_prometheus.specs.Collections.{kind_word, kind_end, help_lines, front_lines, target_front, target_lines}
use Rattle.otel_prometheus.specs.declared.expositions.LeftOut.{LeftOut}
use Rattle.otel_prometheus.specs.declared.families.Family.{Family}
use Rattle.otel_prometheus.proofs.SeriesLemmas.{text_of_append}

pub front_text : (f : Format) (x : Family) (n m w out mid new : List ℕ)
    → n ≡ x.heading.name ++ kind_end f x.heading.kind → m ≡ x.heading.name ++ kind_end f x.heading.kind → w ≡ kind_word x.heading.kind
    → mid ≡ out ++ text_of f (help_lines n x.help) → new ≡ mid ++ spelled f (kind m w) → new ≡ out ++ text_of f (front_lines f x)
front_text f x n m w out mid new en em ew h k =
    let name : List ℕ = x.heading.name ++ kind_end f x.heading.kind in
    let first : List ℕ = text_of f (help_lines name x.help) in
    let second : List ℕ = spelled f (kind name (kind_word x.heading.kind)) in
    k
    ∙ (ap (λ t. mid ++ spelled f (kind t w)) em
    ∙ (ap (λ t. mid ++ spelled f (kind name t)) ew
    ∙ (ap (λ t. t ++ second) h
    ∙ (ap (λ t. (out ++ text_of f (help_lines t x.help)) ++ second) en
    ∙ (append_assoc out first second
    ∙ (ap (λ t. out ++ (first ++ t)) (sym (append-nil second))
    ∙ ap (λ t. out ++ t) (sym (text_of_append f (help_lines name x.help) (kind name (kind_word x.heading.kind) ∷ [])))))))))

pub target_text : (f : Format) (l : Pair) (ls all : List Pair) (labels out mid new : List ℕ)
    → all ≡ l ∷ ls → mid ≡ out ++ text_of f (target_front f) → labels ≡ labels_text all → new ≡ mid ++ line_text (codes "target_info") labels (signed_decimal (unsigned 1))
    → new ≡ out ++ text_of f (target_lines f all)
target_text f l ls all labels out mid new e h p k =
    let first : List ℕ = text_of f (target_front f) in
    let second : List ℕ = sample_text (record { name = codes "target_info"; labels = l ∷ ls; value = unsigned 1 }) in
    k
    ∙ (ap (λ t. mid ++ line_text (codes "target_info") t (signed_decimal (unsigned 1))) (p ∙ ap labels_text e)
    ∙ (ap (λ t. t ++ second) h
    ∙ (append_assoc out first second
    ∙ (ap (λ t. out ++ (first ++ t)) (sym (append-nil second))
    ∙ (ap (λ t. out ++ t) (sym (text_of_append f (target_front f) (sample (record { name = codes "target_info"; labels = l ∷ ls; value = unsigned 1 }) ∷ [])))
    ∙ ap (λ t. out ++ text_of f (target_lines f t)) (sym e))))))

-- two lines, one after the other
pub two_lines : (f : Format) (a b : Line) (out mid new : List ℕ) → mid ≡ out ++ spelled f a → new ≡ mid ++ spelled f b → new ≡ out ++ text_of f (a ∷ (b ∷ []))
two_lines f a b out mid new e h =
    h
    ∙ (ap (λ t. t ++ spelled f b) e
    ∙ (append_assoc out (spelled f a) (spelled f b)
    ∙ ap (λ t. out ++ (spelled f a ++ t)) (sym (append-nil (spelled f b)))))

pub same_left_out : (a b c x y z : ℕ) → a ≡ x → b ≡ y → c ≡ z → ◌≡◌ {A = LeftOut} (record { delta = a; conflicting = b; doubled = c }) (record { delta = x; conflicting = y; doubled = z })
same_left_out a b c x y z e f g = λ i. record { delta = e i; conflicting = f i; doubled = g i }
