-- How many measurements a provider's instruments accept over calls, and the sum of their values, modulo 2^64.
use Rattle.std.specs.Prelude.{◌≡◌, ℕ, ◌+◌, List, [], ◌∷◌, sum_by}
use Rattle.otel_model_stream.specs.Folds.{Amount, wrap}
use Rattle.otel_model.specs.Calls.{Call, Meter, Build, Record, Bind, RecordBound, Unbind, Collect, Flush, Shutdown, Reply}
use Rattle.otel_model.specs.Demands.{Views}
use Rattle.otel_model.specs.State.{InstrumentState, State}
use Rattle.otel_model.specs.Steps.{Step, Run}

-- the number of measurements that the instruments accepted, added up over all instruments
abbrev pub count_in : State → ℕ
count_in st = sum_by (λ (i : InstrumentState). i.count) st.shared.instruments

-- the sum of their values, added up over all instruments
abbrev pub sum_in : State → ℕ
sum_in st = sum_by (λ (i : InstrumentState). i.sum) st.shared.instruments

-- each measurement counts 1
abbrev pub one_each : Amount → ℕ
one_each v = 1

-- each measurement counts the bits of its value
abbrev pub bits_of : Amount → ℕ
bits_of v = v.bits

-- what a call adds: the amount of the measurement that it records, if it records one
abbrev pub added_by : (Amount → ℕ) → Call → ℕ
added_by amount (Meter scope) = 0
added_by amount (Build meter about now) = 0
added_by amount (Record n v l) = amount v.amount
added_by amount (Bind n l) = 0
added_by amount (RecordBound h v) = amount v.amount
added_by amount (Unbind h) = 0
added_by amount (Collect r now os) = 0
added_by amount Flush = 0
added_by amount Shutdown = 0

-- the amount if the reply is `Done`, otherwise 0
abbrev pub if_done : Reply → ℕ → ℕ
if_done (Reply.Meter n) k = 0
if_done (Reply.Instrument n) k = 0
if_done (Reply.Handle n) k = 0
if_done Reply.Done k = k
if_done (Reply.Collected c) k = 0
if_done (Reply.Refused f) k = 0

-- what a list of calls with these replies adds
abbrev pub added_among : (Amount → ℕ) → List Call → List Reply → ℕ
added_among amount [] replies = 0
added_among amount (call ∷ calls) [] = 0
added_among amount (call ∷ calls) (reply ∷ replies) = if_done reply (added_by amount call) + added_among amount calls replies

-- a call that is answered by `Done` adds its measurement, if it has one, and the bits of its value, modulo 2^64; no
-- other call adds anything
abbrev pub EachCallIsBooked : Type 0
EachCallIsBooked = (views : Views) (old : State) (call : Call) (reply : Reply) (new : State) → Step views old call reply new
    → (wrap (count_in new) ≡ wrap (count_in old + if_done reply (added_by one_each call))) × (wrap (sum_in new) ≡ wrap (sum_in old + if_done reply (added_by bits_of call)))

-- and so do the calls of a run
abbrev pub EachRunIsBooked : Type 0
EachRunIsBooked = (views : Views) (old : State) (calls : List Call) (replies : List Reply) (new : State) → Run views old calls replies new
    → (wrap (count_in new) ≡ wrap (count_in old + added_among one_each calls replies)) × (wrap (sum_in new) ≡ wrap (sum_in old + added_among bits_of calls replies))
