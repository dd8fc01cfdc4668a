-- Collections that are made of the streams are the model's.
use Rattle.std.proofs.Common.{◌≡◌, ℕ, List, [], ◌∷◌, map, filter, refl, sym, ◌∙◌, ap}
use Rattle.std.proofs.lemmas.Simd.{map-map}
use Rattle.otel_common.specs.declared.resource.Resource.{Resource}
use Rattle.otel_common.specs.declared.scopes.InstrumentationScope.{InstrumentationScope}
use Rattle.otel_data.specs.declared.collections.ResourceMetrics.{ResourceMetrics}
use Rattle.otel_aggregate.proofs.All.{all-filter, filter-map}
use Rattle.otel_model.specs.Calls as model
use Rattle.otel_model.specs.Collections.{metric, in_scope, has_metrics, ScopedMetric}
use Rattle.otel_model.specs.Demands.{Identity, ReaderAnswers}
use Rattle.otel_model.specs.Machine.{part_after_call, points_at, stream_after}
use Rattle.otel_model.specs.State.{Stream}
use Rattle.otel_model.specs.Streams.{is_delta}
use Rattle.opentelemetry_sdk.specs.pipeline.Collections.{scoped_metric, all_scoped, scopes_shown, IsCollectedFrom}
use Rattle.opentelemetry_sdk.specs.pipeline.Pipelines.{part_by, fates_of, named_identities, is_streamed, AreAnswered, all_without_pending, all_after_collection}
use Rattle.opentelemetry_sdk.specs.pipeline.Streams.{StreamContents, without_pending, contents_after_collection}
use Rattle.opentelemetry_sdk.proofs.pipeline.PipelineLemmas.{feeds-same, settled-part}

module _ (answers : ReaderAnswers) (feeds : List (List Identity)) (now : ℕ) where
  -- ======== what is shown ========
  abbrev scoped_by : Stream → ScopedMetric
  scoped_by q = (q.demand.identity.scope, metric answers now q.start q.reported q.demand (points_at answers feeds [] q))

  metrics_are : (ks : List StreamContents) → AreAnswered answers ks → map scoped_by (map (λ (h : StreamContents). h.stream) ks) ≡ map (scoped_metric now) ks
  metrics_are [] all = refl
  metrics_are (k ∷ ks) all = λ i. scoped_metric now (record k { resets = sym all.0 i }) ∷ metrics_are ks all.1 i

  -- ======== what it leaves ========
  streams-finished : (next r : ℕ) (ks : List StreamContents) → AreAnswered answers ks → map (stream_after answers feeds next (model.Call.Collect r now [])) (map (λ (h : StreamContents). h.stream) ks) ≡ map (λ (h : StreamContents). h.stream) (all_after_collection now ks)
  streams-finished next r [] all = refl
  streams-finished next r (k ∷ ks) all = λ i. (contents_after_collection now (record k { resets = sym all.0 i })).stream ∷ streams-finished next r ks all.1 i

-- which records are prepared makes no difference
filter-settled : (now : ℕ) (ks : List StreamContents) → all_scoped now (all_without_pending ks) ≡ all_scoped now ks
filter-settled now ks = ap (map (scoped_metric now)) (filter-map without_pending is_streamed ks) ∙ map-map (scoped_metric now) without_pending (filter is_streamed ks)

pub shown-settled : (now : ℕ) (meters : List InstrumentationScope) (a b : List StreamContents) → all_without_pending a ≡ all_without_pending b → scopes_shown now a meters ≡ scopes_shown now b meters
shown-settled now meters a b e =
    ap (λ (ms : List ScopedMetric). filter has_metrics (map (in_scope ms) meters))
    (sym (filter-settled now a) ∙ (ap (all_scoped now) e ∙ filter-settled now b))

finished-once : (now : ℕ) (ks : List StreamContents) → all_without_pending (all_after_collection now (all_without_pending ks)) ≡ all_without_pending (all_after_collection now ks)
finished-once now ks =
    ap all_without_pending (map-map (contents_after_collection now) without_pending ks)
    ∙ (map-map without_pending (λ (k : StreamContents). contents_after_collection now (without_pending k)) ks ∙ sym (map-map without_pending (contents_after_collection now) ks))

pub finished-settled : (now : ℕ) (a b : List StreamContents) → all_without_pending a ≡ all_without_pending b → all_without_pending (all_after_collection now a) ≡ all_without_pending (all_after_collection now b)
finished-settled now a b e = sym (finished-once now a) ∙ (ap (λ ks. all_without_pending (all_after_collection now ks)) e ∙ finished-once now b)

-- a collection has the scopes that are shown
pub collected-is : (resource : Resource) (meters : List InstrumentationScope) (now : ℕ) (answers : ReaderAnswers) (ks : List StreamContents) (feeds : List (List ℕ)) (c : ResourceMetrics) → AreAnswered answers ks
    → c.resource ≡ resource → c.scope_metrics ≡ scopes_shown now ks meters → IsCollectedFrom resource meters now [] (part_by answers ks feeds) c
collected-is resource meters now answers ks feeds c all r e s to_resource to_meters = λ i. record {
  resource = (r ∙ sym to_resource) i;
  scope_metrics = (e ∙ λ j. filter has_metrics (map (in_scope (sym (metrics_are answers (map (named_identities ks) feeds) now (filter is_streamed ks) (all-filter (λ (h : StreamContents). h.resets ≡ is_delta answers h.stream.demand) is_streamed ks all)) j)) (sym to_meters j))) i;
}

-- a reader's part after its collection
pub part-finished : (answers : ReaderAnswers) (next r now : ℕ) (old new : List StreamContents) (feeds : List (List ℕ)) → AreAnswered answers old → all_without_pending new ≡ all_without_pending (all_after_collection now old)
    → part_by answers new feeds ≡ part_after_call next (model.Call.Collect r now []) (part_by answers old feeds)
part-finished answers next r now old new feeds all e =
    let same : fates_of (all_after_collection now old) ≡ fates_of old = map-map (λ (k : StreamContents). k.stream.demand) (contents_after_collection now) old in
    settled-part answers new (all_after_collection now old) feeds e
    ∙ λ i. record {
      answers = answers;
      fates = same i;
      streams = (ap (map (λ (h : StreamContents). h.stream)) (filter-map (contents_after_collection now) is_streamed old)
          ∙ sym (streams-finished answers (map (named_identities old) feeds) now next r (filter is_streamed old) (all-filter (λ (h : StreamContents). h.resets ≡ is_delta answers h.stream.demand) is_streamed old all))) i;
      feeds = feeds-same (all_after_collection now old) old same feeds i;
    }
