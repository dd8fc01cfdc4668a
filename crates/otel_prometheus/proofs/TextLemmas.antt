-- Series that are left among texts.
use Rattle.std.proofs.Common.{◌≡◌, ℕ, ◌+◌, ◌<◌, ◌%◌, ◌^◌, Bool, true, false, cond, List, ◌∷◌, ◌++◌, length, take, drop, slice_index_or, sym, ap, ◌∙◌, arith}
use Rattle.std.proofs.lemmas.List.{drop_more}
use Rattle.otel_prometheus.specs.Samples.{Pair}
use Rattle.otel_prometheus.specs.Series.{kept_text, doubled_texts}
use Rattle.otel_prometheus.specs.Texts.{pieces_from}
use Rattle.otel_prometheus.specs.declared.series.Mark.{Mark}
use Rattle.otel_prometheus.proofs.SeriesLemmas.{counted}

abbrev pub mark_at : List Mark → ℕ → Mark
mark_at marks i = slice_index_or marks i (record { labels = 0; lines = 0 })

module _ (marks : List Mark) (i : ℕ) (labels lines key own more_labels more_lines : List ℕ) (seen now_seen : List (List ℕ)) (h : i < length marks)
    (e : key ≡ take (mark_at marks i).labels labels) (f : own ≡ take (mark_at marks i).lines lines)
    (g : more_labels ≡ drop (mark_at marks i).labels labels) (k : more_lines ≡ drop (mark_at marks i).lines lines) where
  -- the next series stands in front of those that are left then
  next_piece : (key, own) ∷ pieces_from more_labels more_lines (drop (i + 1) marks) ≡ pieces_from labels lines (drop i marks)
  next_piece =
      (λ j. (e j, f j) ∷ pieces_from (g j) (k j) (drop (i + 1) marks))
      ∙ ap (pieces_from labels lines) (sym (drop_more marks i (record { labels = 0; lines = 0 }) h))

  pub text_left : (old new whole : List ℕ) → ((rest : List Pair) → new ++ kept_text now_seen rest ≡ old ++ kept_text seen ((key, own) ∷ rest))
      → old ++ kept_text seen (pieces_from labels lines (drop i marks)) ≡ whole → new ++ kept_text now_seen (pieces_from more_labels more_lines (drop (i + 1) marks)) ≡ whole
  text_left old new whole step e = step (pieces_from more_labels more_lines (drop (i + 1) marks)) ∙ (ap (λ t. old ++ kept_text seen t) next_piece ∙ e)

  pub count_left : (count n whole : ℕ) → ((rest : List Pair) → doubled_texts seen ((key, own) ∷ rest) ≡ n + doubled_texts now_seen rest)
      → (count + doubled_texts seen (pieces_from labels lines (drop i marks))) % 2 ^ 64 ≡ whole → ((count + n) % 2 ^ 64 + doubled_texts now_seen (pieces_from more_labels more_lines (drop (i + 1) marks))) % 2 ^ 64 ≡ whole
  count_left count n whole step e =
      counted count n (doubled_texts now_seen (pieces_from more_labels more_lines (drop (i + 1) marks))) whole
      (ap (λ t. (count + t) % 2 ^ 64) (sym (step (pieces_from more_labels more_lines (drop (i + 1) marks))) ∙ ap (doubled_texts seen) next_piece) ∙ e)

  pub none_doubled : (is_new : Bool) → is_new ≡ true → ((rest : List Pair) → doubled_texts seen ((key, own) ∷ rest) ≡ cond is_new (doubled_texts now_seen rest) (1 + doubled_texts now_seen rest))
      → doubled_texts now_seen (pieces_from more_labels more_lines (drop (i + 1) marks)) ≡ 0 → doubled_texts seen (pieces_from labels lines (drop i marks)) ≡ 0
  none_doubled is_new is step e =
      let rest : List Pair = pieces_from more_labels more_lines (drop (i + 1) marks) in
      ap (doubled_texts seen) (sym next_piece)
      ∙ (step rest
      ∙ (ap (λ b. cond b (doubled_texts now_seen rest) (1 + doubled_texts now_seen rest)) is ∙ e))

-- what a series adds to the count
pub counts_new : (is_new : Bool) (x n : ℕ) → x ≡ cond is_new n (1 + n) → is_new ≡ true → x ≡ 0 + n
counts_new is_new x n e is = e ∙ (ap (λ b. cond b n (1 + n)) is ∙ omega arith)

pub counts_seen : (is_new : Bool) (x n : ℕ) → x ≡ cond is_new n (1 + n) → is_new ≡ false → x ≡ 1 + n
counts_seen is_new x n e is = e ∙ ap (λ b. cond b n (1 + n)) is
