use Rattle.std.proofs.Common.{◌≡◌, ◌∙◌, ◌++◌, ◌∷◌, [], List, None, map, drop, length, position, ap, sym, subst, inl, inr, ⊎_elim, arith}
use Rattle.std.proofs.lemmas.List.{drop-map, get_or_push, length-map, length_push, map-append}
use Rattle.std.specs.List.{AllByRecursion}
use Rattle.indexmap.proofs.CallerLemmas.{insert_entry-new}
use Rattle.indexmap.specs.IndexMap.{keys}
use Rattle.otel_common.specs.declared.attributes.KeyValue.{KeyValue}
use Rattle.opentelemetry_sdk.specs.Series.{IsListOf, series, series_eq}
use Rattle.opentelemetry_sdk.specs.Waiting.{Waits, record_in}
use Rattle.opentelemetry_sdk.specs.declared.calls.record_attributes.SharedAttributes.{SharedAttributes}
use Rattle.opentelemetry_sdk.specs.declared.metrics.shared.series.Series.{Series}
use Rattle.otel_model.proofs.Amounts.{each_push}
use Rattle.opentelemetry_sdk.proofs.SeriesLemmas.{absent}
use Rattle.opentelemetry_sdk.proofs.WaitingLemmas.{grown, has-grown}
use Rattle.opentelemetry_sdk.proofs.metrics.shared.waiting.Waiting.learn.Goals.{Joined-insert-2}
use Rattle.opentelemetry_sdk.proofs.metrics.shared.waiting.Waiting.learn.Goals as goal

module _ (c : Joined-insert-2) where
  abbrev new : Series
  new = series c.args.instrument c.args.attributes.items

  none : position (series_eq new) (keys c.self.inside.series) ≡ None
  none = ap (λ (w : Waits). position (series_eq new) w.series) c.self.view_is
      ∙ ⊎_elim (λ stayed. ap (position (series_eq new)) stayed.1 ∙ c.requires) (λ forgot. ap (position (series_eq new)) forgot.3) c.forget_many.ensures.series

  -- the series goes to the end
  pushed : c.insert.new.self.entries ≡ c.self.inside.series.entries ++ (new, c.in_ok-attributes.shared) ∷ []
  pushed = subst (λ (l : List KeyValue). c.insert.new.self.entries ≡ c.self.inside.series.entries ++ (series c.args.instrument l, c.in_ok-attributes.shared) ∷ []) (c.new-2.ensures ∙ c.in_ok-attributes.ensures.list.0)
      (c.in-Ok.ensures.entries ∙ insert_entry-new series_eq c.self.inside.series (series c.args.instrument c.new-2.result) c.in_ok-attributes.shared
      (rw (c.new-2.ensures ∙ c.in_ok-attributes.ensures.list.0) (absent (series_eq new) c.self.inside.series.entries none)))

  added : keys c.insert.new.self ≡ keys c.self.inside.series ++ new ∷ []
  added = ap (λ (es : List (Series × SharedAttributes)). map (λ e. e.0) es) pushed ∙ map-append (λ (e : Series × SharedAttributes). e.0) c.self.inside.series.entries ((new, c.in_ok-attributes.shared) ∷ [])

pub invariant_of-self-in-Ok : goal.invariant_of-self-in-Ok
invariant_of-self-in-Ok c = (
  c.self.invariant.0,
  rw (added c, length_push (keys c.self.inside.series) (new c)) (has-grown (length (keys c.self.inside.series)) c.self.inside.records.items c.self.invariant.1),
  subst (AllByRecursion IsListOf) (sym (pushed c)) (each_push IsListOf c.self.inside.series.entries (new c, c.in_ok-attributes.shared) c.self.invariant.2 c.in_ok-attributes.ensures.list.1),
  (λ none. tt),
)

pub invariant_of-self-2 : goal.invariant_of-self-2
invariant_of-self-2 c = rw (c.in-Err.ensures.err) (c.self.invariant.0, c.self.invariant.1, c.self.invariant.2, (λ none. tt))

pub returns-in-Ok-clause-placed : goal.returns-in-Ok-clause-placed
returns-in-Ok-clause-placed c =
    let ss = keys c.self.inside.series in
    let same : length ss ≡ c.len-place.result = length-map c.self.inside.series.entries (λ e. e.0) ∙ sym c.len-place.ensures.len in
    rw (added c) (omega (arith, same, length_push ss (new c)), get_or_push ss (new c) _ _ same)

pub returns-in-Ok-clause-kept : goal.returns-in-Ok-clause-kept
returns-in-Ok-clause-kept c =
    let rs = c.self.inside.records.items in
    let still = grown (keys c.self.inside.series) (new c ∷ []) rs c.self.invariant.1 in (
      ap (λ (ss : List Series). map (record_in ss) (drop c.self.inside.made rs)) (added c) ∙ sym (drop-map _ c.self.inside.made rs) ∙ ap (drop c.self.inside.made) still ∙ drop-map _ c.self.inside.made rs ∙ ap (λ (w : Waits). w.records) c.self.view_is ∙ c.forget_many.ensures.records,
      omega (arith, ap (λ (w : Waits). w.room) c.self.view_is, c.forget_many.ensures.room),
    )

-- the worker knows one more, after it forgot the others or with them
pub returns-in-Ok-clause-series : goal.returns-in-Ok-clause-series
returns-in-Ok-clause-series c = ⊎_elim
    (λ stayed. inl (ap (λ (w : Waits). w.emptied) c.self.view_is ∙ stayed.0, new c ∷ [], added c ∙ ap (λ (ss : List Series). ss ++ new c ∷ []) (ap (λ (w : Waits). w.series) c.self.view_is ∙ stayed.1)))
    (λ forgot. inr (forgot.0, forgot.1, ap (λ (w : Waits). w.emptied) c.self.view_is ∙ forgot.2))
    c.forget_many.ensures.series
