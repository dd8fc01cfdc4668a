-- Worked rows on what waits for a sending, and on when a schedule is due.
use Rattle.std.proofs.Common.{◌≡◌, ℕ, ◌-◌, ◌^◌, ◌++◌, List, [], ◌∷◌, ◌<◌, ◌≢◌, zero, suc, length, get_or, Some, true, false, refl, ap, inl, arith, lit≤, lit<, length-append}
use Rattle.otel_export.specs.Outboxes.{Unsent, AreLines, HandsOver, Sends, SendsOrKeeps, close_of, ended, line_break}
use Rattle.otel_export.specs.Schedules.{Moments, IsFirstPast, IsNextAfter}

-- ======== lines ========
abbrev a : List ℕ
a = 97 ∷ 10 ∷ []

abbrev b : List ℕ
b = 98 ∷ 99 ∷ 10 ∷ []

pub feed : line_break ≡ 10 ∷ []
feed = refl

pub ended_once : ended (97 ∷ []) ≡ a
ended_once = refl

pub ended_already : ended a ≡ a
ended_already = refl

pub nothing_ended : ended [] ≡ 10 ∷ []
nothing_ended = refl

pub no_lines : AreLines []
no_lines = refl

pub two_lines : AreLines (a ++ b)
two_lines = refl

pub half_a_line : AreLines (a ++ 98 ∷ []) → ⊥
half_a_line e = omega (arith, e)

-- ======== sendings ========
abbrev unsent : List ℕ → Unsent
unsent lines = record { budget = 100; waiting = lines; is_cut = false }

abbrev cut : List ℕ → Unsent
cut lines = record { budget = 100; waiting = lines; is_cut = true }

pub closed_if_cut : close_of (cut b) ≡ 10 ∷ []
closed_if_cut = refl

pub not_closed : close_of (unsent b) ≡ []
not_closed = refl

pub first_handed : HandsOver (unsent (a ++ b)) (unsent b)
first_handed = (a, refl, refl)

pub line_invented : HandsOver (unsent []) (unsent a) → ⊥
line_invented (handed, same, lines) = omega (arith, ap length same, length-append handed a)

half : (handed : List ℕ) → b ≡ handed ++ 99 ∷ 10 ∷ [] → AreLines handed → ⊥
half [] same lines = omega (arith, ap length same)
half (x ∷ []) same lines = omega (arith, ap (λ l. get_or l 0 0) same, lines)
half (x ∷ y ∷ rest) same lines = omega (arith, ap length same, length-append rest (99 ∷ 10 ∷ []))

pub half_line_handed : HandsOver (unsent b) (unsent (99 ∷ 10 ∷ [])) → ⊥
half_line_handed (handed, same, lines) = half handed same lines

no_break : (k d : ℕ) → k < 1 → get_or (98 ∷ []) k d ≢ 10
no_break zero d first e = omega (arith, e)
no_break (suc k) d first e = omega (arith, first)

-- a writer takes a line and the first byte of the next
pub cut_in_the_second : Sends (unsent (a ++ b)) (cut b) (Some []) (Some (a ++ 98 ∷ []))
cut_in_the_second = record { handed = a; part = 98 ∷ []; ordered = refl; whole = refl; begun = (99 ∷ 10 ∷ [], refl); unfinished = no_break; cut = (λ _. lit< tt, λ _. refl); written = refl }

-- the half line is closed, and written again
pub written_again : Sends (cut b) (unsent []) (Some (a ++ 98 ∷ [])) (Some (a ++ 98 ∷ 10 ∷ b))
written_again = record { handed = b; part = []; ordered = refl; whole = refl; begun = ([], refl); unfinished = λ k d none e. absurd (omega (arith, none)); cut = (λ told. grind (arith, told), λ some. absurd (omega (arith, some))); written = refl }

pub forgotten_unwritten : Sends (unsent a) (unsent []) (Some []) (Some []) → ⊥
forgotten_unwritten s = omega (arith, ap length s.ordered, length-append s.handed [], ap length s.written, length-append s.handed s.part)

pub half_line_left_open : Sends (cut b) (unsent []) (Some (98 ∷ [])) (Some (98 ∷ b)) → ⊥
half_line_left_open s = omega (arith, ap (λ l. get_or l 1 0) s.written)

pub nothing_written : SendsOrKeeps (cut b) (cut b) (Some (98 ∷ [])) (Some (98 ∷ []))
nothing_written = inl (refl, refl)

-- ======== schedules ========
abbrev each_ten : Moments
each_ten = record { start = 100; period = 10; next = 100 }

pub next_one : IsFirstPast each_ten 105 110
next_one = record { k = 1; planned = refl; past = lit< tt; first = lit≤ tt }

pub at_a_moment : IsFirstPast each_ten 110 120
at_a_moment = record { k = 2; planned = refl; past = lit< tt; first = lit≤ tt }

pub after_a_pause : IsFirstPast each_ten 157 160
after_a_pause = record { k = 6; planned = refl; past = lit< tt; first = lit≤ tt }

pub not_at_once : IsFirstPast each_ten 110 110 → ⊥
not_at_once s = omega (arith, s.past)

pub not_a_later_one : IsFirstPast each_ten 105 120 → ⊥
not_a_later_one s = omega (arith, s.first)

pub not_between : IsFirstPast each_ten 105 112 → ⊥
not_between s = omega (arith, s.planned)

pub at_the_end : IsNextAfter (record { start = 0; period = 2 ^ 63; next = 0 }) (2 ^ 64 - 1) (2 ^ 64 - 1)
at_the_end = (2 ^ 64, record { k = 2; planned = refl; past = lit< tt; first = lit≤ tt }, refl)

pub not_before_the_end : IsNextAfter each_ten 105 (2 ^ 64 - 1) → ⊥
not_before_the_end (moment, s, e) = omega (arith, s.first, e)
