use Rattle.std.proofs.Common.{◌≡◌, ◌<◌, ◌≤◌, ◌-◌, ℕ, List, [], ◌∷◌, Bor, codes, drop, get_or, inl, length, take, rules, arith}
use Rattle.std.proofs.lemmas.Result.{err_from_is_err_and}
use Rattle.metrics_script.specs.Progress.{progress_of}
use Rattle.metrics_script.proofs.SetUps.{no_reader, no_set_up, no_view, reader_line, rest_of}
use Rattle.metrics_script.proofs.script_lines.Reading.set_up.Goals as goal
use Rattle.metrics_script.proofs.script_lines.Reading.set_up.Goals.{in_default-via-then-words-lt1, in_default-via-else-words-lt1+then-words-lt2+in_default, in_default-via-else-words-lt1+else-words-lt2+in_default}

pub returns-in_err-reader-in-reader-clause-meaningless : goal.returns-in_err-reader-in-reader-clause-meaningless
returns-in_err-reader-in-reader-clause-meaningless c =
    let answer = err_from_is_err_and c.from_residual.result c.from_residual.ensures.1 in
    let words = c.args.words.now in
    rw (answer.1, answer.2) (λ bad new. no_reader words (take (length words - 2) (drop 2 words)) _ (progress_of c.args.self.now) new c.in-reader.len_at_least c.in-reader.is-reader (c.in_err-reader-in-reader.ensures.meaningless bad) (rest_of words))

pub returns-in_err-view-in-view-clause-meaningless : goal.returns-in_err-view-in-view-clause-meaningless
returns-in_err-view-in-view-clause-meaningless c =
    let answer = err_from_is_err_and c.from_residual-in_err-view-in-view.result c.from_residual-in_err-view-in-view.ensures.1 in
    let words = c.args.words.now in
    rw (answer.1, answer.2) (λ bad new. no_view words (take (length words - 2) (drop 2 words)) _ (progress_of c.args.self.now) new c.in-view.len_at_least c.in-view.is-view (c.in_err-view-in-view.ensures.meaningless bad) (rest_of words))

pub returns-in_ok-push-in-reader-clause-added : goal.returns-in_ok-push-in-reader-clause-added
returns-in_ok-push-in-reader-clause-added c =
    let words = c.args.words.now in
    let reader = c.in_ok-reader-in-reader.reader in
    inl (
      reader,
      reader_line words (take (length words - 2) (drop 2 words)) _ reader c.in-reader.len_at_least c.in-reader.is-reader c.in_ok-reader-in-reader.ensures.reader (rest_of words),
      λ i. record (progress_of c.args.self.now) { readers = c.in_ok-push-in-reader.ensures.items i },
    )

pub returns-in_default-clause-meaningless : goal.returns-in_default-clause-meaningless
returns-in_default-clause-meaningless c = λ bad new.
    let words = c.args.words.now in
    let d : Bor (List ℕ) = record { ref_ptr = (0, 0); now = [] } in
    let others : (2 ≤ length words → (get_or words 0 d).now ≡ codes "reader" → ⊥) × (2 ≤ length words → (get_or words 0 d).now ≡ codes "view" → ⊥) × (length words < 2 → (get_or words 0 d).now ≡ codes "go" → ⊥) = elim c.in_default.branch [
      | in_default-via-then-words-lt1 w ↦ (
          let below : length words < 1 = first_of (search rules, grind arith) in
          (λ two verb. omega (arith, below, two), λ two verb. omega (arith, below, two), λ one verb. no_word words below verb))
      | in_default-via-else-words-lt1+then-words-lt2+in_default w ↦ (
          let below : length words < 2 = first_of (search rules, grind arith) in
          let go : (get_or words 0 d).now ≡ codes "go" → ⊥ = first_of (search rules, grind arith) in
          (λ two verb. omega (arith, below, two), λ two verb. omega (arith, below, two), λ one verb. go verb))
      | in_default-via-else-words-lt1+else-words-lt2+in_default w ↦ (
          let least : 2 ≤ length words = first_of (search rules, grind arith) in
          let reader : (get_or words 0 d).now ≡ codes "reader" → ⊥ = first_of (search rules, grind arith) in
          let view : (get_or words 0 d).now ≡ codes "view" → ⊥ = first_of (search rules, grind arith) in
          (λ two verb. reader verb, λ two verb. view verb, λ one verb. omega (arith, least, one)))
    ] in
    no_set_up words d (progress_of c.args.self.now) new others.0 others.1 others.2
  where
    no_word : (refs : List (Bor (List ℕ))) → length refs < 1 → (get_or refs 0 (record { ref_ptr = (0, 0); now = [] })).now ≡ codes "go" → ⊥
    no_word [] below verb = cc
    no_word (a ∷ refs) below verb = omega (arith, below)
