-- The first moment of a schedule past another moment.
use Rattle.std.proofs.Common.{◌≡◌, ℕ, ◌+◌, ◌-◌, ◌*◌, ◌/◌, ◌%◌, ◌<◌, ◌≤◌, arith}
use Rattle.std.proofs.lemmas.Nat.{div-add-mod', mod_below}
use Rattle.otel_export.specs.Schedules.{Moments, IsFirstPast}

planned_next : (start period now q r : ℕ) → start ≤ now → q * period + r ≡ now - start → now - r + period ≡ start + (q + 1) * period
planned_next start period now q r reached e = grind arith

pub next_past : (schedule : Moments) (now : ℕ) → 0 < schedule.period → schedule.start ≤ now → IsFirstPast schedule now (now - (now - schedule.start) % schedule.period + schedule.period)
next_past schedule now positive reached =
    let r : ℕ = (now - schedule.start) % schedule.period in
    let below : r < schedule.period = mod_below (now - schedule.start) schedule.period positive in
    record {
      k = (now - schedule.start) / schedule.period + 1;
      planned = planned_next schedule.start schedule.period now ((now - schedule.start) / schedule.period) r reached (div-add-mod' (now - schedule.start) schedule.period);
      past = omega (arith, below);
      first = omega arith;
    }
