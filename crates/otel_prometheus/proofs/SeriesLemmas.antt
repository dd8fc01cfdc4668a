-- Series that are kept, and their text.
use Rattle.std.proofs.Common.{◌≡◌, ℕ, ◌+◌, ◌≤◌, ◌%◌, ◌^◌, Bool, true, false, cond, List, [], ◌∷◌, ◌++◌, flat_map, map, fold, take, drop, length, refl, sym, ap, ◌∙◌, append_assoc, append-nil, length-append, arith}
use Rattle.std.proofs.lemmas.Grind.{flat_map-append}
use Rattle.std.proofs.lemmas.List.{take-append-drop}
use Rattle.otel_prometheus.specs.Lines.{Line, sample, spelled, text_of}
use Rattle.otel_prometheus.specs.Samples.{Pair, Sample, labels_text, sample_text}
use Rattle.otel_prometheus.specs.declared.text.formats.Format.{Format}
use Rattle.otel_prometheus.specs.Texts.{Written, written_behind, with_series, pieces_from, pieces}
use Rattle.otel_prometheus.specs.declared.series.Mark.{Mark}
use Rattle.otel_prometheus.specs.Series.{Series, is_seen, kept, doubled, samples_text, spelled_series, kept_text, doubled_texts}

one_more : (is_doubled : Bool) (x : Series) (a b : List Series) (u v : List ℕ) → u ≡ samples_text (flat_map (λ x. x.samples) a) → v ≡ samples_text (flat_map (λ x. x.samples) b)
    → cond is_doubled u (samples_text x.samples ++ v) ≡ samples_text (flat_map (λ x. x.samples) (cond is_doubled a (x ∷ b)))
one_more true x a b u v e f = e
one_more false x a b u v e f = ap (λ w. samples_text x.samples ++ w) f ∙ sym (flat_map-append sample_text x.samples (flat_map (λ x. x.samples) b))

-- the text of series is that of the samples that are kept
pub kept_spelled : (seen : List (List ℕ)) (xs : List Series) → kept_text seen (map spelled_series xs) ≡ samples_text (flat_map (λ x. x.samples) (kept seen xs))
kept_spelled seen [] = refl
kept_spelled seen (x ∷ xs) =
    one_more (is_seen (labels_text x.labels) seen) x (kept seen xs) (kept (seen ++ labels_text x.labels ∷ []) xs) _ _
    (kept_spelled seen xs) (kept_spelled (seen ++ labels_text x.labels ∷ []) xs)

same_choice : (t : Bool) (a b c d : ℕ) → a ≡ b → c ≡ d → cond t (1 + a) c ≡ cond t (1 + b) d
same_choice true a b c d e f = ap (λ n. 1 + n) e
same_choice false a b c d e f = f

pub doubled_spelled : (seen : List (List ℕ)) (xs : List Series) → doubled_texts seen (map spelled_series xs) ≡ doubled seen xs
doubled_spelled seen [] = refl
doubled_spelled seen (x ∷ xs) =
    same_choice (is_seen (labels_text x.labels) seen) _ _ _ _ (doubled_spelled seen xs) (doubled_spelled (seen ++ labels_text x.labels ∷ []) xs)

-- samples are spelled alike in both forms of the text
pub text_of_samples : (f : Format) (xs : List Sample) → text_of f (map sample xs) ≡ samples_text xs
text_of_samples f [] = refl
text_of_samples f (x ∷ xs) = ap (λ t. sample_text x ++ t) (text_of_samples f xs)

pub text_of_append : (f : Format) (a b : List Line) → text_of f (a ++ b) ≡ text_of f a ++ text_of f b
text_of_append f a b = flat_map-append (spelled f) a b

pub samples_text_append : (a b : List Sample) → samples_text (a ++ b) ≡ samples_text a ++ samples_text b
samples_text_append a b = flat_map-append sample_text a b

-- ======== texts ========
take_front : (a b : List ℕ) → take (length a) (a ++ b) ≡ a
take_front [] b = refl
take_front (x ∷ a) b = ap (λ t. x ∷ t) (take_front a b)

drop_front : (a b : List ℕ) → drop (length a) (a ++ b) ≡ b
drop_front [] b = refl
drop_front (x ∷ a) b = drop_front a b

abbrev mark_of : Series → Mark
mark_of x = record { labels = length (labels_text x.labels); lines = length (samples_text x.samples) }

abbrev all_labels : List Series → List ℕ
all_labels xs = flat_map (λ x. labels_text x.labels) xs

abbrev all_lines : List Series → List ℕ
all_lines xs = flat_map (λ x. samples_text x.samples) xs

written : (w : Written) (xs : List Series) → fold with_series w xs ≡ record { labels = w.labels ++ all_labels xs; lines = w.lines ++ all_lines xs; marks = w.marks ++ map mark_of xs }
written w [] = λ i. record { labels = sym (append-nil w.labels) i; lines = sym (append-nil w.lines) i; marks = sym (append-nil w.marks) i }
written w (x ∷ xs) =
    written (with_series w x) xs
    ∙ (λ i. record {
      labels = append_assoc w.labels (labels_text x.labels) (all_labels xs) i;
      lines = append_assoc w.lines (samples_text x.samples) (all_lines xs) i;
      marks = append_assoc w.marks (mark_of x ∷ []) (map mark_of xs) i;
    })

each_piece : (xs : List Series) → pieces_from (all_labels xs) (all_lines xs) (map mark_of xs) ≡ map spelled_series xs
each_piece [] = refl
each_piece (x ∷ xs) =
    let l : List ℕ = labels_text x.labels in
    let m : List ℕ = samples_text x.samples in
    (λ i. (take_front l (all_labels xs) i, take_front m (all_lines xs) i) ∷ pieces_from (drop_front l (all_labels xs) i) (drop_front m (all_lines xs) i) (map mark_of xs))
    ∙ ap (λ t. spelled_series x ∷ t) (each_piece xs)

-- the lines of all series
lines_of_all : (xs : List Series) → flat_map (λ p. p.1) (map spelled_series xs) ≡ all_lines xs
lines_of_all [] = refl
lines_of_all (x ∷ xs) = ap (λ t. samples_text x.samples ++ t) (lines_of_all xs)

kept_or_not : (t : Bool) (own k l rest : List ℕ) (m n : ℕ) → cond t (1 + m) n ≡ 0 → (n ≡ 0 → l ≡ rest) → cond t k (own ++ l) ≡ own ++ rest
kept_or_not true own k l rest m n e f = absurd (omega (arith, e))
kept_or_not false own k l rest m n e f = ap (λ t. own ++ t) (f e)

-- if none is left out, all lines stand
pub all_kept : (seen : List (List ℕ)) (ps : List Pair) → doubled_texts seen ps ≡ 0 → kept_text seen ps ≡ flat_map (λ p. p.1) ps
all_kept seen [] e = refl
all_kept seen (p ∷ ps) e = kept_or_not (is_seen p.0 seen) p.1 (kept_text seen ps) (kept_text (seen ++ p.0 ∷ []) ps) (flat_map (λ q. q.1) ps) (doubled_texts seen ps) (doubled_texts (seen ++ p.0 ∷ []) ps) e (all_kept (seen ++ p.0 ∷ []) ps)

-- the text is whole as it stands if none is left out
pub kept_whole : (w : Written) (start : ℕ) (labels lines : List ℕ) (marks : List Mark) → record { labels = labels; lines = lines; marks = marks } ≡ w → ((ls : List ℕ) → doubled_texts [] (pieces_from labels ls marks) ≡ 0)
    → flat_map (λ p. p.1) (pieces start w) ≡ drop start w.lines → lines ≡ take start w.lines ++ kept_text [] (pieces start w)
kept_whole w start labels lines marks e h whole =
    let none : doubled_texts [] (pieces start w) ≡ 0 = ap (λ x. doubled_texts [] (pieces start x)) (sym e) ∙ h (drop start lines) in
    ap (λ x. x.lines) e
    ∙ (sym (take-append-drop start w.lines)
    ∙ ap (λ t. take start w.lines ++ t) (sym (all_kept [] (pieces start w) none ∙ whole)))

-- series that were written behind a text
module _ (found : Written) (before : List ℕ) (start : ℕ) (xs : List Series) (e : found ≡ fold with_series (written_behind before) xs) (at : start ≡ length before) where
  found_is : found ≡ record { labels = all_labels xs; lines = before ++ all_lines xs; marks = map mark_of xs }
  found_is = e ∙ written (written_behind before) xs

  pub lines_before : take start found.lines ≡ before
  lines_before = (λ i. take (at i) (found_is i).lines) ∙ take_front before (all_lines xs)

  lines_behind : drop start found.lines ≡ all_lines xs
  lines_behind = (λ i. drop (at i) (found_is i).lines) ∙ drop_front before (all_lines xs)

  pub all_pieces : pieces start found ≡ map spelled_series xs
  all_pieces = (λ i. pieces_from (found_is i).labels (lines_behind i) (found_is i).marks) ∙ each_piece xs

  pub are_whole : flat_map (λ p. p.1) (pieces start found) ≡ drop start found.lines
  are_whole = ap (flat_map (λ p. p.1)) all_pieces ∙ (lines_of_all xs ∙ sym lines_behind)

  pub starts_within : start ≤ length found.lines
  starts_within = omega (arith, at, ap length (λ i. (found_is i).lines), length-append before (all_lines xs))

-- ======== families ========
module _ (xs : List Series) (found : Written) (before : List ℕ) (start : ℕ) (e : found ≡ fold with_series (written_behind before) xs) (at : start ≡ length before) where
  pub family_text : (f : Format) → take start found.lines ++ kept_text [] (pieces start found) ≡ before ++ text_of f (map sample (flat_map (λ x. x.samples) (kept [] xs)))
  family_text f =
      (λ i. lines_before found before start xs e at i ++ kept_text [] (all_pieces found before start xs e at i))
      ∙ ap (λ t. before ++ t) (kept_spelled [] xs ∙ sym (text_of_samples f (flat_map (λ x. x.samples) (kept [] xs))))

  pub family_doubled : doubled_texts [] (pieces start found) ≡ doubled [] xs
  family_doubled = ap (λ t. doubled_texts [] t) (all_pieces found before start xs e at) ∙ doubled_spelled [] xs

-- ======== counts modulo 2^64 ========
pub counted : (count n rest whole : ℕ) → (count + (n + rest)) % 2 ^ 64 ≡ whole → ((count + n) % 2 ^ 64 + rest) % 2 ^ 64 ≡ whole
counted count n rest whole e = omega (arith, e)

pub counted_rest : (count n rest whole : ℕ) → (count + (n + rest)) % 2 ^ 64 ≡ whole → ((count + n % 2 ^ 64) % 2 ^ 64 + rest) % 2 ^ 64 ≡ whole
counted_rest count n rest whole e = omega (arith, e)
