-- Labels with one more.
use Rattle.std.proofs.Common.{◌≡◌, List, [], ◌∷◌, ◌++◌, refl, ap, sym}
use Rattle.otel_prometheus.specs.Samples.{Pair, label_text, more_labels_text, labels_text, with_last_text}

more_with_last : (ls : List Pair) (m : Pair) → more_labels_text (ls ++ m ∷ []) ≡ 44 ∷ with_last_text ls m
more_with_last [] m = refl
more_with_last (l ∷ ls) m = ap (λ x. 44 ∷ (label_text l ++ x)) (more_with_last ls m)

pub labels_with_last : (ls : List Pair) (m : Pair) → 123 ∷ with_last_text ls m ≡ labels_text (ls ++ m ∷ [])
labels_with_last [] m = refl
labels_with_last (l ∷ ls) m = ap (λ x. 123 ∷ (label_text l ++ x)) (sym (more_with_last ls m))
