-- When a schedule is due.
use Rattle.std.specs.Prelude.{◌≡◌, ℕ, ◌+◌, ◌-◌, ◌*◌, ◌^◌, ◌<◌, ◌≤◌, min}

-- a schedule: its first moment, how far its moments are apart, and the next that is not reached yet
pub record Moments : Type 0 where
  pub start : ℕ
  pub period : ℕ
  pub next : ℕ

-- the first of the moments `start + k * period` past `now`
pub record IsFirstPast (schedule : Moments) (now moment : ℕ) : Type 0 where
  pub k : ℕ
  pub planned : moment ≡ schedule.start + k * schedule.period
  pub past : now < moment
  pub first : moment ≤ now + schedule.period

-- that moment, or the last that a `u64` has
abbrev pub IsNextAfter : Moments → ℕ → ℕ → Type 0
IsNextAfter schedule now next = (moment : ℕ) × IsFirstPast schedule now moment × (next ≡ min moment (2 ^ 64 - 1))
