-- What is spelled is read again.
use Rattle.std.proofs.Common.{◌≡◌, ℕ, ◌<◌, ◌^◌, ℤ, pos, negsuc, suc, Bool, true, false, cond, List, [], ◌∷◌, ◌++◌, length, refl, sym, ap, subst, ◌∙◌, append_assoc, append-nil, arith, rules, Option, Some, option_map, ◌&&◌, ◌==◌, ⊎_elim, decimal, codes}
use Rattle.std.specs.Fmt.{signed_decimal}
use Rattle.std.specs.Char.{is_ascii_digit}
use Rattle.std.specs.Str.{all_ascii_digits}
use Rattle.std.proofs.lemmas.Bool.{cases_eq, ne_eqb, true≢false}
use Rattle.std.proofs.lemmas.Fmt.{digits_decimal, digits_value-decimal, decimal_nonempty}
use Rattle.std.proofs.lemmas.Str.Parse.{IsNumeralModel, numerals_by_fold}
use Rattle.otel_prometheus.specs.Samples.{Pair, Sample, IsNumber, AreLabels, IsLabelName, IsMetricName, AreAll, escaped_byte, escaped, label_text, more_labels_text, labels_text, line_text, is_letter, is_label_byte, is_metric_letter, is_metric_byte}
use Rattle.otel_prometheus.specs.declared.text.formats.Format.{Format}
use Rattle.otel_prometheus.specs.declared.text.formats.Format.TheVariants.{Prometheus, OpenMetrics}
use Rattle.otel_prometheus.specs.Lines.{Line, help, kind, sample, finish, help_byte, help_text, spelled, text_of, IsText}
use Rattle.otel_prometheus.specs.Reading.{upto_space, before, unescaped, comment_line, given, behind_comment, start, comment, name, label, value, closed, gap, number, bad, after, read_from, read, is_natural, is_integer, integer_of, number_after, negated}

-- ======== tests ========
chosen : {A : Type 0} (t : Bool) (x y : A) → t ≡ true → cond t x y ≡ x
chosen t x y e = ap (λ b. cond b x y) e

passed : {A : Type 0} (t : Bool) (x y : A) → t ≡ false → cond t x y ≡ y
passed t x y e = ap (λ b. cond b x y) e

both : (a b : Bool) → (a && b) ≡ true → (a ≡ true) × (b ≡ true)
both true b e = (refl, e)
both false b e = absurd (true≢false (sym e))

-- a byte that passes a test is none that doesn't
differs : (test : ℕ → Bool) (b k : ℕ) → test b ≡ true → test k ≡ false → (b == k) ≡ false
differs test b k h e = ne_eqb b k (λ same. true≢false (sym h ∙ (ap test same ∙ e)))

-- ======== names ========
read_name : (n bs rest : List ℕ) → AreAll is_metric_byte bs → read_from (name n) (bs ++ rest) ≡ read_from (name (n ++ bs)) rest
read_name n [] rest h = ap (λ m. read_from (name m) rest) (sym (append-nil n))
read_name n (b ∷ bs) rest h =
    ap (λ p. read_from p (bs ++ rest)) (chosen (is_metric_byte b) _ _ h.0)
    ∙ read_name (n ++ b ∷ []) bs rest h.1
    ∙ ap (λ m. read_from (name m) rest) (append_assoc n (b ∷ []) bs)

read_label_name : (n : List ℕ) (ls : List Pair) (c : ℕ) (cs bs rest : List ℕ) → AreAll is_label_byte bs → read_from (label n ls (c ∷ cs)) (bs ++ rest) ≡ read_from (label n ls (c ∷ (cs ++ bs))) rest
read_label_name n ls c cs [] rest h = ap (λ m. read_from (label n ls (c ∷ m)) rest) (sym (append-nil cs))
read_label_name n ls c cs (b ∷ bs) rest h =
    ap (λ p. read_from p (bs ++ rest)) (chosen (is_label_byte b) _ _ h.0)
    ∙ read_label_name n ls c (cs ++ b ∷ []) bs rest h.1
    ∙ ap (λ m. read_from (label n ls (c ∷ m)) rest) (append_assoc cs (b ∷ []) bs)

-- ======== values of labels ========
ReadsByte : List ℕ → List Pair → List ℕ → List ℕ → List ℕ → ℕ → Type 0
ReadsByte n ls l v rest b = read_from (value n ls l v) (escaped_byte b ++ rest) ≡ read_from (value n ls l (v ++ b ∷ [])) rest

read_plain : (n : List ℕ) (ls : List Pair) (l v rest : List ℕ) (b : ℕ) → (b ≡ 92 → ⊥) → (b ≡ 34 → ⊥) → (b ≡ 10 → ⊥) → ReadsByte n ls l v rest b
unfolding ReadsByte
read_plain n ls l v rest b p q r =
    ap (λ t. read_from (value n ls l v) (t ++ rest)) (passed (b == 92) _ _ (ne_eqb b 92 p) ∙ (passed (b == 34) _ _ (ne_eqb b 34 q) ∙ passed (b == 10) _ _ (ne_eqb b 10 r)))
    ∙ ap (λ place. read_from place rest) (passed (b == 92) _ _ (ne_eqb b 92 p) ∙ (passed (b == 34) _ _ (ne_eqb b 34 q) ∙ passed (b == 10) _ _ (ne_eqb b 10 r)))

read_byte : (n : List ℕ) (ls : List Pair) (l v rest : List ℕ) (b : ℕ) → ReadsByte n ls l v rest b
unfolding ReadsByte
read_byte n ls l v rest b =
    ⊎_elim
    (λ e. subst (ReadsByte n ls l v rest) (sym e) refl)
    (λ p. ⊎_elim
    (λ e. subst (ReadsByte n ls l v rest) (sym e) refl)
    (λ q. ⊎_elim
    (λ e. subst (ReadsByte n ls l v rest) (sym e) refl)
    (λ r. read_plain n ls l v rest b p q r)
    (cases_eq b 10))
    (cases_eq b 34))
    (cases_eq b 92)

read_escaped : (n : List ℕ) (ls : List Pair) (l v t rest : List ℕ) → read_from (value n ls l v) (escaped t ++ rest) ≡ read_from (value n ls l (v ++ t)) rest
unfolding ReadsByte
read_escaped n ls l v [] rest = ap (λ m. read_from (value n ls l m) rest) (sym (append-nil v))
read_escaped n ls l v (b ∷ t) rest =
    ap (read_from (value n ls l v)) (append_assoc (escaped_byte b) (escaped t) rest)
    ∙ read_byte n ls l v (escaped t ++ rest) b
    ∙ read_escaped n ls l (v ++ b ∷ []) t rest
    ∙ ap (λ m. read_from (value n ls l m) rest) (append_assoc v (b ∷ []) t)

-- ======== labels ========
read_label : (n : List ℕ) (ls : List Pair) (k v rest : List ℕ) → IsLabelName k → read_from (label n ls []) (label_text (k, v) ++ rest) ≡ read_from (closed n (ls ++ (k, v) ∷ [])) rest
read_label n ls [] v rest h = absurd h
read_label n ls (b ∷ bs) v rest h =
    ap (λ p. read_from p ((bs ++ behind) ++ rest)) (chosen (is_letter b) _ _ h.0)
    ∙ ap (read_from (label n ls (b ∷ []))) (append_assoc bs behind rest)
    ∙ read_label_name n ls b [] bs (behind ++ rest) h.1
    ∙ ap (read_from (value n ls (b ∷ bs) [])) (append_assoc (escaped v) (34 ∷ []) rest)
    ∙ read_escaped n ls (b ∷ bs) [] v (34 ∷ rest)
  where
    behind : List ℕ
    behind = 61 ∷ (34 ∷ (escaped v ++ 34 ∷ []))

read_more_labels : (n : List ℕ) (ls ms : List Pair) (rest : List ℕ) → AreLabels ms → read_from (closed n ls) (more_labels_text ms ++ rest) ≡ read_from (gap n (ls ++ ms)) rest
read_more_labels n ls [] rest h = ap (λ m. read_from (gap n m) rest) (sym (append-nil ls))
read_more_labels n ls (m ∷ ms) rest h =
    ap (read_from (label n ls [])) (append_assoc (label_text m) (more_labels_text ms) rest)
    ∙ read_label n ls m.0 m.1 (more_labels_text ms ++ rest) h.0
    ∙ read_more_labels n (ls ++ m ∷ []) ms rest h.1
    ∙ ap (λ k. read_from (gap n k) rest) (append_assoc ls (m ∷ []) ms)

read_labels : (n : List ℕ) (ls : List Pair) (rest : List ℕ) → AreLabels ls → read_from (name n) (labels_text ls ++ 32 ∷ rest) ≡ read_from (number n ls []) rest
read_labels n [] rest h = refl
read_labels n (l ∷ ls) rest h =
    ap (read_from (label n [] [])) (append_assoc (label_text l) (more_labels_text ls) (32 ∷ rest))
    ∙ read_label n [] l.0 l.1 (more_labels_text ls ++ 32 ∷ rest) h.0
    ∙ read_more_labels n (l ∷ []) ls (32 ∷ rest) h.1

-- ======== numbers ========
own : IsNumeralModel (λ ds. all_ascii_digits ds ≡ true) (number_after 0)
own = numerals_by_fold _ (search rules) number_after (search rules)

abbrev sample_of : List ℕ → List Pair → ℤ → Sample
sample_of n ls z = record { name = n; labels = ls; value = z }

abbrev made : List ℕ → List Pair → ℤ → Line
made n ls z = sample (sample_of n ls z)

read_digit : (n : List ℕ) (ls : List Pair) (ds : List ℕ) (b : ℕ) (rest : List ℕ) → (b == 10) ≡ false → read_from (number n ls ds) (b ∷ rest) ≡ read_from (number n ls (ds ++ b ∷ [])) rest
read_digit n ls ds b rest e = ap (λ (t : Bool). after (cond t (made n ls (integer_of ds) ∷ []) []) (read_from (cond t (cond (is_integer ds) start bad) (number n ls (ds ++ b ∷ []))) rest)) e

read_digits : (n : List ℕ) (ls : List Pair) (ds bs rest : List ℕ) → all_ascii_digits bs ≡ true → read_from (number n ls ds) (bs ++ rest) ≡ read_from (number n ls (ds ++ bs)) rest
read_digits n ls ds [] rest h = ap (λ m. read_from (number n ls m) rest) (sym (append-nil ds))
read_digits n ls ds (b ∷ bs) rest h =
    read_digit n ls ds b (bs ++ rest) (differs is_ascii_digit b 10 (both (is_ascii_digit b) (all_ascii_digits bs) h).0 refl)
    ∙ read_digits n ls (ds ++ b ∷ []) bs rest (both (is_ascii_digit b) (all_ascii_digits bs) h).1
    ∙ ap (λ m. read_from (number n ls m) rest) (append_assoc ds (b ∷ []) bs)

are_natural : (ds : List ℕ) → all_ascii_digits ds ≡ true → 0 < length ds → is_natural ds ≡ true
are_natural [] h l = absurd (omega arith)
are_natural (b ∷ bs) h l = h

digits_are_integer : (ds : List ℕ) → all_ascii_digits ds ≡ true → 0 < length ds → is_integer ds ≡ true
digits_are_integer [] h l = absurd (omega arith)
digits_are_integer (b ∷ bs) h l = passed (b == 45) _ _ (differs is_ascii_digit b 45 (both (is_ascii_digit b) (all_ascii_digits bs) h).0 refl) ∙ h

integer_of_digits : (ds : List ℕ) → all_ascii_digits ds ≡ true → 0 < length ds → integer_of ds ≡ pos (number_after 0 ds)
integer_of_digits [] h l = absurd (omega arith)
integer_of_digits (b ∷ bs) h l = passed (b == 45) _ _ (differs is_ascii_digit b 45 (both (is_ascii_digit b) (all_ascii_digits bs) h).0 refl)

-- the end of a line with a number
read_end : (n : List ℕ) (ls : List Pair) (ds : List ℕ) (z : ℤ) (rest : List ℕ) → is_integer ds ≡ true → integer_of ds ≡ z → read_from (number n ls ds) (10 ∷ rest) ≡ after (made n ls z ∷ []) (read_from start rest)
read_end n ls ds z rest e f = λ i. after (made n ls (f i) ∷ []) (read_from (cond (e i) start bad) rest)

read_value : (n : List ℕ) (ls : List Pair) (z : ℤ) (rest : List ℕ) → IsNumber z → read_from (number n ls []) (signed_decimal z ++ 10 ∷ rest) ≡ after (made n ls z ∷ []) (read_from start rest)
read_value n ls (pos k) rest h =
    read_digits n ls [] (decimal k) (10 ∷ rest) digits
    ∙ read_end n ls (decimal k) (pos k) rest (digits_are_integer (decimal k) digits (decimal_nonempty k h))
    (integer_of_digits (decimal k) digits (decimal_nonempty k h) ∙ ap pos (digits_value-decimal own k h))
  where
    digits : all_ascii_digits (decimal k) ≡ true
    digits = digits_decimal own k h
read_value n ls (negsuc k) rest h =
    read_digits n ls (45 ∷ []) (decimal (suc k)) (10 ∷ rest) digits
    ∙ read_end n ls (45 ∷ decimal (suc k)) (negsuc k) rest (are_natural (decimal (suc k)) digits (decimal_nonempty (suc k) small)) (ap negated (digits_value-decimal own (suc k) small))
  where
    small : suc k < 2 ^ 64
    small = omega arith

    digits : all_ascii_digits (decimal (suc k)) ≡ true
    digits = digits_decimal own (suc k) small

-- ======== lines ========
read_line : (n : List ℕ) (ls : List Pair) (z : ℤ) (rest : List ℕ) → IsMetricName n → AreLabels ls → IsNumber z → read_from start (line_text n (labels_text ls) (signed_decimal z) ++ rest) ≡ after (made n ls z ∷ []) (read_from start rest)
read_line [] ls z rest hn hl hz = absurd hn
read_line (b ∷ bs) ls z rest hn hl hz =
    ap (λ p. read_from p ((bs ++ behind) ++ rest)) (chosen (is_metric_letter b) _ _ hn.0)
    ∙ ap (read_from (name (b ∷ []))) (append_assoc bs behind rest)
    ∙ read_name (b ∷ []) bs (behind ++ rest) hn.1
    ∙ ap (read_from (name (b ∷ bs))) (append_assoc (labels_text ls) (32 ∷ (signed_decimal z ++ 10 ∷ [])) rest)
    ∙ read_labels (b ∷ bs) ls ((signed_decimal z ++ 10 ∷ []) ++ rest) hl
    ∙ ap (read_from (number (b ∷ bs) ls [])) (append_assoc (signed_decimal z) (10 ∷ []) rest)
    ∙ read_value (b ∷ bs) ls z rest hz
  where
    behind : List ℕ
    behind = labels_text ls ++ 32 ∷ (signed_decimal z ++ 10 ∷ [])

-- ======== comments ========
abbrev NoLineEnd : List ℕ → Type 0
NoLineEnd [] = Unit {0}
NoLineEnd (b ∷ bs) = ((b == 10) ≡ false) × NoLineEnd bs

-- what follows a comment that is this
abbrev then : Option (List Line) → List ℕ → Option (List Line)
then o rest = after (given o) (read_from (behind_comment o) rest)

read_comment : (c bs rest : List ℕ) → NoLineEnd bs → read_from (comment c) (bs ++ 10 ∷ rest) ≡ then (comment_line (c ++ bs)) rest
read_comment c [] rest h = ap (λ m. then (comment_line m) rest) (sym (append-nil c))
read_comment c (b ∷ bs) rest h =
    ap (λ (t : Bool). after (cond t (given (comment_line c)) []) (read_from (cond t (behind_comment (comment_line c)) (comment (c ++ b ∷ []))) (bs ++ 10 ∷ rest))) h.0
    ∙ read_comment (c ++ b ∷ []) bs rest h.1
    ∙ ap (λ m. then (comment_line m) rest) (append_assoc c (b ∷ []) bs)

NoLineEnd-append : (a b : List ℕ) → NoLineEnd a → NoLineEnd b → NoLineEnd (a ++ b)
NoLineEnd-append [] b h k = k
NoLineEnd-append (x ∷ a) b h k = (h.0, NoLineEnd-append a b h.1 k)

NoLineEnd-all : (test : ℕ → Bool) (bs : List ℕ) → test 10 ≡ false → AreAll test bs → NoLineEnd bs
NoLineEnd-all test [] e h = tt
NoLineEnd-all test (b ∷ bs) e h = (differs test b 10 h.0 e, NoLineEnd-all test bs e h.1)

letter_is_byte : (b : ℕ) → is_metric_letter b ≡ true → is_metric_byte b ≡ true
letter_is_byte b h = grind arith

bytes_of_name : (n : List ℕ) → IsMetricName n → AreAll is_metric_byte n
bytes_of_name [] h = absurd h
bytes_of_name (b ∷ bs) h = (letter_is_byte b h.0, h.1)

-- a byte of a help text is read again, and ends no line
record ReadsHelp (f : Format) (t : List ℕ) (b : ℕ) : Type 0 where
  again : unescaped false (help_byte f b ++ help_text f t) ≡ before b (unescaped false (help_text f t))
  no_end : NoLineEnd (help_byte f b)

reads_plain : (f : Format) (t : List ℕ) (b : ℕ) → (b ≡ 92 → ⊥) → (b ≡ 10 → ⊥) → (b ≡ 34 → ⊥) → ReadsHelp f t b
reads_plain f t b p q r = record {
  again = ap (λ x. unescaped false (x ++ help_text f t)) plain ∙ passed (b == 92) _ _ (ne_eqb b 92 p);
  no_end = subst NoLineEnd (sym plain) (ne_eqb b 10 q, tt);
}
  where
    plain : help_byte f b ≡ b ∷ []
    plain = passed (b == 92) _ _ (ne_eqb b 92 p) ∙ (passed (b == 10) _ _ (ne_eqb b 10 q) ∙ passed (b == 34) _ _ (ne_eqb b 34 r))

reads_backslash : (f : Format) (t : List ℕ) → ReadsHelp f t 92
reads_backslash f t = record { again = refl; no_end = (refl, (refl, tt)) }

reads_line_end : (f : Format) (t : List ℕ) → ReadsHelp f t 10
reads_line_end f t = record { again = refl; no_end = (refl, (refl, tt)) }

reads_quote : (f : Format) (t : List ℕ) → ReadsHelp f t 34
reads_quote Prometheus t = record { again = refl; no_end = (refl, tt) }
reads_quote OpenMetrics t = record { again = refl; no_end = (refl, (refl, tt)) }

reads_help : (f : Format) (t : List ℕ) (b : ℕ) → ReadsHelp f t b
reads_help f t b =
    ⊎_elim
    (λ e. subst (ReadsHelp f t) (sym e) (reads_backslash f t))
    (λ p. ⊎_elim
    (λ e. subst (ReadsHelp f t) (sym e) (reads_line_end f t))
    (λ q. ⊎_elim
    (λ e. subst (ReadsHelp f t) (sym e) (reads_quote f t))
    (λ r. reads_plain f t b p q r)
    (cases_eq b 34))
    (cases_eq b 10))
    (cases_eq b 92)

unescaped-help_text : (f : Format) (t : List ℕ) → unescaped false (help_text f t) ≡ Some t
unescaped-help_text f [] = refl
unescaped-help_text f (b ∷ t) = (reads_help f t b).again ∙ ap (before b) (unescaped-help_text f t)

NoLineEnd-help_text : (f : Format) (t : List ℕ) → NoLineEnd (help_text f t)
NoLineEnd-help_text f [] = tt
NoLineEnd-help_text f (b ∷ t) = NoLineEnd-append (help_byte f b) (help_text f t) (reads_help f t b).no_end (NoLineEnd-help_text f t)

upto_space-name : (n t : List ℕ) → AreAll is_metric_byte n → upto_space (n ++ 32 ∷ t) ≡ (n, t)
upto_space-name [] t h = refl
upto_space-name (b ∷ n) t h =
    passed (b == 32) _ _ (differs is_metric_byte b 32 h.0 refl)
    ∙ ap (λ (p : List ℕ × List ℕ). (b ∷ p.0, p.1)) (upto_space-name n t h.1)

regrouped : (n t rest : List ℕ) → (n ++ 32 ∷ (t ++ 10 ∷ [])) ++ rest ≡ (n ++ 32 ∷ t) ++ 10 ∷ rest
regrouped n t rest =
    append_assoc n (32 ∷ (t ++ 10 ∷ [])) rest
    ∙ ap (λ x. n ++ 32 ∷ x) (append_assoc t (10 ∷ []) rest)
    ∙ sym (append_assoc n (32 ∷ t) (10 ∷ rest))

NoLineEnd-named : (n t : List ℕ) → AreAll is_metric_byte n → NoLineEnd t → NoLineEnd (n ++ 32 ∷ t)
NoLineEnd-named n t h k = NoLineEnd-append n (32 ∷ t) (NoLineEnd-all is_metric_byte n refl h) (refl, k)

read_help : (f : Format) (n t rest : List ℕ) → IsMetricName n → read_from start (spelled f (help n t) ++ rest) ≡ after (help n t ∷ []) (read_from start rest)
read_help f n t rest h =
    ap (λ x. read_from start (codes "# HELP " ++ x)) (regrouped n (help_text f t) rest)
    ∙ read_comment [] (codes " HELP " ++ (n ++ 32 ∷ help_text f t)) rest (refl, (refl, (refl, (refl, (refl, (refl, NoLineEnd-named n (help_text f t) (bytes_of_name n h) (NoLineEnd-help_text f t)))))))
    ∙ ap (λ (p : List ℕ × List ℕ). then (option_map (λ x. help p.0 x ∷ []) (unescaped false p.1)) rest) (upto_space-name n (help_text f t) (bytes_of_name n h))
    ∙ ap (λ o. then (option_map (λ x. help n x ∷ []) o) rest) (unescaped-help_text f t)

read_kind : (f : Format) (n w rest : List ℕ) → IsMetricName n → AreAll is_letter w → read_from start (spelled f (kind n w) ++ rest) ≡ after (kind n w ∷ []) (read_from start rest)
read_kind f n w rest h k =
    ap (λ x. read_from start (codes "# TYPE " ++ x)) (regrouped n w rest)
    ∙ read_comment [] (codes " TYPE " ++ (n ++ 32 ∷ w)) rest (refl, (refl, (refl, (refl, (refl, (refl, NoLineEnd-named n w (bytes_of_name n h) (NoLineEnd-all is_letter w refl k)))))))
    ∙ ap (λ (p : List ℕ × List ℕ). then (Some (kind p.0 p.1 ∷ [])) rest) (upto_space-name n w (bytes_of_name n h))

-- ======== expositions ========
-- the text of lines reads as these lines
pub read_lines : (f : Format) (ls : List Line) → IsText ls → read (text_of f ls) ≡ Some ls
read_lines f [] h = refl
read_lines f (help n t ∷ ls) h =
    read_help f n t (text_of f ls) h.0
    ∙ ap (option_map (λ found. help n t ∷ found)) (read_lines f ls h.1)
read_lines f (kind n w ∷ ls) h =
    read_kind f n w (text_of f ls) h.0.0 h.0.1
    ∙ ap (option_map (λ found. kind n w ∷ found)) (read_lines f ls h.1)
read_lines f (sample s ∷ ls) h =
    read_line s.name s.labels s.value (text_of f ls) h.0.name h.0.labels h.0.value
    ∙ ap (option_map (λ found. sample s ∷ found)) (read_lines f ls h.1)
read_lines f (finish ∷ ls) h = subst (λ l. read (text_of f (finish ∷ l)) ≡ Some (finish ∷ l)) (sym h) refl
