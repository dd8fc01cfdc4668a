-- Worked rows on how many measurements a provider's instruments accepted, and on the sum of their values.
use Rattle.std.specs.Prelude.{◌≡◌, ◌+◌, negsuc, List, [], ◌∷◌, ◌++◌, map, replicate, Some}
use Rattle.std.proofs.Common.{refl}
use Rattle.otel_model_stream.specs.Folds.{wrap}
use Rattle.otel_model.specs.Books.{count_in, sum_in, one_each, bits_of, added_by, if_done, added_among, EachCallIsBooked, EachRunIsBooked}
use Rattle.otel_model.specs.Calls.{Counter, Call, Meter, Build, Record, Bind, RecordBound, Unbind, Collect, Flush, Shutdown, OutOfMemory, UnknownInstrument, Reply}
use Rattle.otel_model.specs.State.{State}
use Rattle.otel_model.specs.Steps.{Step, Run}
use Rattle.otel_model_rows.specs.Rows.{a, m, about, u64, i64, x1, y1, add, observe}
use Rattle.otel_model_rows.specs.RunRows.{views, calls, replies, collected, accepting, shared, state}

-- ======== what instruments accepted ========
-- sums do not wrap
abbrev great : State
great = record state { shared = record shared { instruments = accepting Counter 2 18446744073709551615 ∷ accepting Counter 4 3 ∷ [] } }

pub books_of_states : (count_in state ≡ 4) × (sum_in state ≡ 15) × (count_in great ≡ 6) × (sum_in great ≡ 18446744073709551618)
books_of_states = (refl, refl, refl, refl)

-- -1 has the greatest bits
pub amounts : (map one_each ((u64 7).amount ∷ (u64 0).amount ∷ []) ≡ 1 ∷ 1 ∷ []) × (map bits_of ((u64 7).amount ∷ (i64 18446744073709551615 (negsuc 0)).amount ∷ []) ≡ 7 ∷ 18446744073709551615 ∷ [])
amounts = (refl, refl)

-- ======== what a call adds ========
-- one call of each kind
abbrev each_call : List Call
each_call = Meter m ∷ Build (Some 0) (about Counter a) 100 ∷ Record 0 (u64 5) x1 ∷ Bind 0 x1 ∷ RecordBound 0 (u64 7) ∷ Unbind 0 ∷ Collect 0 200 (observe 0 3 [] ∷ []) ∷ Flush ∷ Shutdown ∷ []

pub added_by_each : (map (added_by bits_of) each_call ≡ 0 ∷ 0 ∷ 5 ∷ 0 ∷ 7 ∷ 0 ∷ 0 ∷ 0 ∷ 0 ∷ []) × (map (added_by one_each) each_call ≡ 0 ∷ 0 ∷ 1 ∷ 0 ∷ 1 ∷ 0 ∷ 0 ∷ 0 ∷ 0 ∷ [])
added_by_each = (refl, refl)

pub counted_if_done : map (λ reply. if_done reply 5) (Reply.Meter (Some 0) ∷ Reply.Instrument 0 ∷ Reply.Handle 0 ∷ Reply.Done ∷ Reply.Collected collected ∷ Reply.Refused UnknownInstrument ∷ Reply.Refused OutOfMemory ∷ [])
    ≡ 0 ∷ 0 ∷ 0 ∷ 5 ∷ 0 ∷ 0 ∷ 0 ∷ []
counted_if_done = refl

-- ======== what calls add ========
-- 1000 records of 1 and 500 of 3 by each of four workers
pub row_18 : (added_among one_each (replicate 4000 (add 1 []) ++ replicate 2000 (add 3 [])) (replicate 6000 Reply.Done) ≡ 6000)
    × (added_among bits_of (replicate 4000 (add 1 []) ++ replicate 2000 (add 3 [])) (replicate 6000 Reply.Done) ≡ 10000)
row_18 = (refl, refl)

-- a record of the value 1, and one that is refused
pub row_29 : (added_among one_each (Record 0 (u64 1) [] ∷ Record 9 (u64 1) [] ∷ []) (Reply.Done ∷ Reply.Refused UnknownInstrument ∷ []) ≡ 1)
    × (added_among bits_of (Record 0 (u64 1) [] ∷ Record 9 (u64 1) [] ∷ []) (Reply.Done ∷ Reply.Refused UnknownInstrument ∷ []) ≡ 1)
row_29 = (refl, refl)

-- a record through a handle counts, a bind and its end do not
pub through_handle : added_among bits_of (Bind 0 [] ∷ RecordBound 0 (u64 7) ∷ Unbind 0 ∷ []) (Reply.Handle 0 ∷ Reply.Done ∷ Reply.Done ∷ []) ≡ 7
through_handle = refl

pub not_wrapped : added_among bits_of (add 18446744073709551615 [] ∷ add 18446744073709551615 [] ∷ []) (Reply.Done ∷ Reply.Done ∷ []) ≡ 36893488147419103230
not_wrapped = refl

-- a call without a reply adds nothing, nor does a reply without a call
pub unmatched : (added_among one_each (add 1 [] ∷ add 2 [] ∷ []) (Reply.Done ∷ []) ≡ 1) × (added_among one_each (add 1 [] ∷ []) (Reply.Done ∷ Reply.Done ∷ []) ≡ 1) × (added_among one_each [] (Reply.Done ∷ []) ≡ 0)
unmatched = (refl, refl, refl)

pub added_in_run : (added_among one_each calls replies ≡ 4) × (added_among bits_of calls replies ≡ 15)
added_in_run = (refl, refl)

-- ======== laws ========
-- a record that is made, and one that is refused
pub law_of_calls : EachCallIsBooked → (new : State)
    → (Step views state (Record 1 (u64 5) y1) Reply.Done new → (wrap (count_in new) ≡ 5) × (wrap (sum_in new) ≡ 20))
    × (Step views state (RecordBound 0 (u64 5)) Reply.Done new → (wrap (count_in new) ≡ 5) × (wrap (sum_in new) ≡ 20))
    × (Step views state (Record 1 (u64 5) y1) (Reply.Refused OutOfMemory) new → (wrap (count_in new) ≡ 4) × (wrap (sum_in new) ≡ 15))
    × (Step views state Flush Reply.Done new → (wrap (count_in new) ≡ 4) × (wrap (sum_in new) ≡ 15))
law_of_calls h new = (
  h views state (Record 1 (u64 5) y1) Reply.Done new,
  h views state (RecordBound 0 (u64 5)) Reply.Done new,
  h views state (Record 1 (u64 5) y1) (Reply.Refused OutOfMemory) new,
  h views state Flush Reply.Done new,
)

pub law_of_runs : EachRunIsBooked → (new : State) → Run views state calls replies new → (wrap (count_in new) ≡ 8) × (wrap (sum_in new) ≡ 30)
law_of_runs h new = h views state calls replies new
