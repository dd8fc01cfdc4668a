use Rattle.std.proofs.Common.{◌≡◌, ◌<◌, ◌≤◌, ℕ, List, [], Bor, codes, get_or, length, rules, arith}
use Rattle.std.proofs.lemmas.Result.{err_from_is_err_and}
use Rattle.metrics_script.specs.Progress.{progress_of}
use Rattle.metrics_script.proofs.SetUps.{no_step, not_none}
use Rattle.metrics_script.proofs.script_lines.Reading.go_on.Goals as goal
use Rattle.metrics_script.proofs.script_lines.Reading.go_on.Goals.{in_default-via-then-words-lt3, in_default-via-else-words-lt3+then-words-lt4+in_default-2, in_default-via-else-words-lt3+else-words-lt4+then-words-lt5+in_default-2, in_default-via-else-words-lt3+else-words-lt4+else-words-lt5}

pub returns-in_err-call-in_default-clause-meaningless : goal.returns-in_err-call-in_default-clause-meaningless
returns-in_err-call-in_default-clause-meaningless c =
    let words = c.args.words.now in
    let d : Bor (List ℕ) = record { ref_ptr = (0, 0); now = [] } in
    let others : (4 ≤ length words → length words < 5 → (get_or words 0 d).now ≡ codes "observe" → ⊥) × (3 ≤ length words → length words < 4 → (get_or words 0 d).now ≡ codes "collect" → ⊥) = elim c.in_default.branch [
      | in_default-via-then-words-lt3 w ↦ (
          let below : length words < 3 = first_of (search rules, grind arith) in
          (λ least most verb. omega (arith, below, least), λ least most verb. omega (arith, below, least)))
      | in_default-via-else-words-lt3+then-words-lt4+in_default-2 w ↦ (
          let below : length words < 4 = first_of (search rules, grind arith) in
          let collect : (get_or words 0 d).now ≡ codes "collect" → ⊥ = first_of (search rules, grind arith) in
          (λ least most verb. omega (arith, below, least), λ least most verb. collect verb))
      | in_default-via-else-words-lt3+else-words-lt4+then-words-lt5+in_default-2 w ↦ (
          let four : 4 ≤ length words = first_of (search rules, grind arith) in
          let observe : (get_or words 0 d).now ≡ codes "observe" → ⊥ = first_of (search rules, grind arith) in
          (λ least most verb. observe verb, λ least most verb. omega (arith, four, most)))
      | in_default-via-else-words-lt3+else-words-lt4+else-words-lt5 w ↦ (
          let five : 5 ≤ length words = first_of (search rules, grind arith) in
          (λ least most verb. omega (arith, five, most), λ least most verb. omega (arith, five, most)))
    ] in
    let answer = err_from_is_err_and c.from_residual-in_err-call-in_default.result c.from_residual-in_err-call-in_default.ensures.1 in
    rw (answer.1, answer.2) (λ bad new. no_step words d (progress_of c.args.self.now) new others.0 others.1 (λ none. c.in_err-call-in_default.ensures.meaningless bad))

pub returns-in_default-2-clause-meaningless : goal.returns-in_default-2-clause-meaningless
returns-in_default-2-clause-meaningless c = λ bad new.
    let words = c.args.words.now in
    let d : Bor (List ℕ) = record { ref_ptr = (0, 0); now = [] } in
    let others : (4 ≤ length words → length words < 5 → (get_or words 0 d).now ≡ codes "observe" → ⊥) × (3 ≤ length words → length words < 4 → (get_or words 0 d).now ≡ codes "collect" → ⊥) = elim c.in_default.branch [
      | in_default-via-then-words-lt3 w ↦ (
          let below : length words < 3 = first_of (search rules, grind arith) in
          (λ least most verb. omega (arith, below, least), λ least most verb. omega (arith, below, least)))
      | in_default-via-else-words-lt3+then-words-lt4+in_default-2 w ↦ (
          let below : length words < 4 = first_of (search rules, grind arith) in
          let collect : (get_or words 0 d).now ≡ codes "collect" → ⊥ = first_of (search rules, grind arith) in
          (λ least most verb. omega (arith, below, least), λ least most verb. collect verb))
      | in_default-via-else-words-lt3+else-words-lt4+then-words-lt5+in_default-2 w ↦ (
          let four : 4 ≤ length words = first_of (search rules, grind arith) in
          let observe : (get_or words 0 d).now ≡ codes "observe" → ⊥ = first_of (search rules, grind arith) in
          (λ least most verb. observe verb, λ least most verb. omega (arith, four, most)))
      | in_default-via-else-words-lt3+else-words-lt4+else-words-lt5 w ↦ (
          let five : 5 ≤ length words = first_of (search rules, grind arith) in
          (λ least most verb. omega (arith, five, most), λ least most verb. omega (arith, five, most)))
    ] in
    let some = not_none c.args.self.now.observations.items (first_of (search rules, grind arith)) in
    no_step words d (progress_of c.args.self.now) new others.0 others.1 (λ none. absurd (some none))
