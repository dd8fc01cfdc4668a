-- What an instrument's records add up to, read off a provider's state.
use Rattle.std.specs.Prelude.{ℕ, ◌+◌, ◌==◌, cond, List, [], ◌∷◌, Option, None, Some, slice_get}
use Rattle.opentelemetry_sdk.specs.Calls.{Call, Record, Reply}
use Rattle.opentelemetry_sdk.specs.State.{InstrumentState, State}

-- the sum that the instrument keeps; 0 if there is none
abbrev pub sum_of : Option InstrumentState → ℕ
sum_of None = 0
sum_of (Some i) = i.sum

-- the sum of what the instrument with this number has accepted so far, modulo 2^64
abbrev pub total_of : ℕ → State → ℕ
total_of n st = sum_of (slice_get st.shared.instruments n)

-- ======== lists of records ========
-- the call is a record
abbrev pub IsRecord : Call → Type 0
IsRecord (Record n v l) = Unit {0}
IsRecord _ = ⊥

-- so is each of them
abbrev pub AreRecords : List Call → Type 0
AreRecords [] = Unit {0}
AreRecords (call ∷ calls) = IsRecord call × AreRecords calls

-- what a call with this reply adds to the total of instrument n: the value of a record at it that was answered `Done`
abbrev pub done_by : ℕ → Call → Reply → ℕ
done_by n (Record k v l) Reply.Done = cond (k == n) v.amount.bits 0
done_by n _ _ = 0

-- what a list of calls with these replies adds to it
abbrev pub done_at : ℕ → List Call → List Reply → ℕ
done_at n (call ∷ calls) (reply ∷ replies) = done_by n call reply + done_at n calls replies
done_at n _ _ = 0
