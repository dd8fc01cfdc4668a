-- Collections that the provider makes are the model's.
use Rattle.std.proofs.Common.{◌≡◌, ◌<◌, ℕ, Bool, false, cond, List, map, length, set, slice_get, Option, Some, None, refl, sym, ◌∙◌, ap, Result, Ok, Err, OnOk, OnErr, IfOk, IsOkUnless, lt-ltb}
use Rattle.std.proofs.lemmas.List.{map-set}
use Rattle.std.proofs.lemmas.Option.{get_or_from_slice_get, slice_get_within}
use Rattle.otel_common.specs.declared.faults.Fault.{Fault}
use Rattle.otel_common.specs.declared.faults.Fault.TheVariants as fault
use Rattle.otel_data.specs.declared.collections.ResourceMetrics.{ResourceMetrics}
use Rattle.otel_model.specs.Calls as model
use Rattle.otel_model.specs.Demands.{Views}
use Rattle.otel_model.specs.Machine.{changed_at, part_after_call, accepted_after}
use Rattle.otel_model.specs.Refusals.{refusal, observations_refusal}
use Rattle.otel_model.specs.State.{ReaderPart, State}
use Rattle.otel_model.specs.Steps.{Step, collect_reply, reply_by, after_by}
use Rattle.otel_model.proofs.Single.{get_map}
use Rattle.opentelemetry_sdk.specs.pipeline.Collections.{IsCollectedFrom}
use Rattle.opentelemetry_sdk.specs.pipeline.Pipelines.{Piped, part_of}
use Rattle.opentelemetry_sdk.specs.Correspondence.{reply_from}
use Rattle.opentelemetry_sdk.proofs.pipeline.Writes.{set-changed}
use Rattle.opentelemetry_sdk.proofs.Stepped.{memory-step}

-- ======== one reader of several ========
-- a reader is changed, as the model sees it
pub set-seen : (f : ReaderPart → ReaderPart) (ps : List Piped) (r : ℕ) (p new : Piped) → slice_get ps r ≡ Some p → part_of new ≡ f (part_of p) → map part_of (set ps r new) ≡ changed_at r f (map part_of ps)
set-seen f ps r p new at e =
    let there : slice_get (map part_of ps) r ≡ Some (part_of p) = get_map part_of ps r p at in
    map-set part_of ps r new ∙ set-changed f (map part_of ps) r (part_of p) (part_of new) (slice_get_within (map part_of ps) r (part_of p) there) (sym (get_or_from_slice_get (map part_of ps) r (part_of p) (part_of p) there)) e

-- ======== whole calls ========
-- why a collection is refused: the reader isn't there, the provider was shut down, or an observation is bad
abbrev fault_by : Bool → Bool → Option model.Fault → Option model.Fault
fault_by known shut bad = cond known (cond shut (Some model.Fault.ReaderShutDown) bad) (Some model.Fault.UnknownReader)

module _ (old : State) (r now : ℕ) (os : List model.Observed) where
  -- where the reader is there and the provider was not shut down, what was observed decides
  by-observations : r < length old.readers → old.shared.shut ≡ false → refusal old.shared (length old.readers) (model.Call.Collect r now os) ≡ observations_refusal old.shared.instruments os
  by-observations h opened = λ i. fault_by (lt-ltb r (length old.readers) h i) (opened i) (observations_refusal old.shared.instruments os)

  -- a collection of a reader that is there, with good observations
  pub collect-step : (p : ReaderPart) (readers : List ReaderPart) (res : Result ResourceMetrics Fault) → old.shared.shut ≡ false → slice_get old.readers r ≡ Some p → observations_refusal old.shared.instruments os ≡ None
      → IfOk res (IsCollectedFrom old.shared.resource old.shared.meters now os p) → OnOk res (readers ≡ changed_at r (part_after_call 0 (model.Call.Collect r now os)) old.readers) → OnErr res (readers ≡ old.readers) → IsOkUnless res fault.OutOfMemory
      → (views : Views) → Step views old (model.Call.Collect r now os) (reply_from (λ c. model.Reply.Collected c) res) (record old { readers = readers })
  collect-step p readers (Ok c) opened at good given left same only views =
      let none : refusal old.shared (length old.readers) (model.Call.Collect r now os) ≡ None = by-observations (slice_get_within old.readers r p at) opened ∙ good in (
        ap model.Reply.Collected (given old.shared refl refl) ∙ sym (λ i. reply_by (none i) (collect_reply old.shared now os (at i))),
        ap (λ ps. record old { readers = ps }) left ∙ sym (ap (λ o. after_by o old (accepted_after views old (model.Call.Collect r now os))) none),
      )
  collect-step p readers (Err f) opened at good given left same only views =
      memory-step views old (record old { readers = readers }) (model.Call.Collect r now os) f refl only (by-observations (slice_get_within old.readers r p at) opened ∙ good) (ap (λ ps. record old { readers = ps }) same)
