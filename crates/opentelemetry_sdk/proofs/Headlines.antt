-- The laws of the model, cited for a run of the code.
use Rattle.std.proofs.Common.{◌≡◌, ℕ, List, map, Some, slice_get, subst}
use Rattle.otel_model.specs.Calls as model
use Rattle.otel_model.specs.Demands.{ReaderAnswers, Views}
use Rattle.otel_model.specs.Laws.{OfReader, OfStream, OfEachReader, OfEachStream, IsRun}
use Rattle.otel_model.specs.Resources.{Resource}
use Rattle.otel_model.specs.State.{State}
use Rattle.otel_model.specs.Steps.{Run}
use Rattle.otel_model.proofs.Reorder.{records_law}
use Rattle.opentelemetry_sdk.specs.Headline.{OfReaders, OfStreams, OfAnswers, InAnyOrder}
use Rattle.opentelemetry_sdk.specs.Correspondence.{call_of, reply_of}
use Rattle.opentelemetry_sdk.specs.declared.calls.Call.{Call}
use Rattle.opentelemetry_sdk.specs.declared.calls.Reply.{Reply}

-- the calls and replies of the code are a run
abbrev pub IsRunOf : Views → State → List Call → List Reply → State → Type 0
IsRunOf views old calls replies new = Run views old (map call_of calls) (map reply_of replies) new

pub of_readers : (P : OfReader) (law : OfEachReader P) (views : Views) (old new : State) (calls : List Call) (replies : List Reply) → IsRunOf views old calls replies new → OfReaders P views old calls replies new
of_readers P law views old new calls replies run resource identity readers fresh r answers part at is =
    law views resource identity readers (map call_of calls) (map reply_of replies) new (subst (λ st. IsRunOf views st calls replies new) fresh run) r answers part at is

pub of_streams : (P : OfStream) (law : OfEachStream P) (views : Views) (old new : State) (calls : List Call) (replies : List Reply) → IsRunOf views old calls replies new → OfStreams P views old calls replies new
of_streams P law views old new calls replies run = of_readers _ law views old new calls replies run

-- what holds of each reader's answers
abbrev pub EachAnswered : (Views → Resource → ℕ → List model.Call → List model.Reply → ℕ → ReaderAnswers → Type 0) → Type 0
EachAnswered P = (views : Views) (resource : Resource) (identity : ℕ) (readers : List ReaderAnswers) (calls : List model.Call) (replies : List model.Reply) (new : State)
    → IsRun views resource identity readers calls replies new
    → (r : ℕ) (answers : ReaderAnswers) → slice_get readers r ≡ Some answers → P views resource identity calls replies r answers

pub of_answers : (P : Views → Resource → ℕ → List model.Call → List model.Reply → ℕ → ReaderAnswers → Type 0) (law : EachAnswered P) (views : Views) (old new : State) (calls : List Call) (replies : List Reply)
    → IsRunOf views old calls replies new → OfAnswers P views old calls replies
of_answers P law views old new calls replies run resource identity readers fresh r answers at =
    law views resource identity readers (map call_of calls) (map reply_of replies) new (subst (λ st. IsRunOf views st calls replies new) fresh run) r answers at

pub in_any_order : (views : Views) (old new : State) (calls : List Call) (replies : List Reply) → IsRunOf views old calls replies new → InAnyOrder views old calls replies new
in_any_order views old new calls replies run before later n v l m reordered is = records_law views old new before later n v l m (map reply_of replies) reordered (subst (λ cs. Run views old cs (map reply_of replies) new) is run)
