use Rattle.std.proofs.Common.{◌≡◌, ◌∙◌, ◌==◌, List, true, ap, sym, subst, Bor}
use Rattle.std.proofs.lemmas.Bool.Decides.{same_from_decides}
use Rattle.std.specs.Cmp.{unsigned_Decides}
use Rattle.otel_common.specs.Equality.{set_eq, set_eq-Decides}
use Rattle.otel_common.specs.declared.attributes.KeyValue.{KeyValue}
use Rattle.opentelemetry_sdk.specs.Series.{series_eq}
use Rattle.opentelemetry_sdk.specs.declared.metrics.shared.series.Series.{Series}
use Rattle.opentelemetry_sdk.proofs.metrics.shared.series.RefSeriesQueryEquivalentSeries.equivalent.Goals as goal

-- the order of two lists makes no difference
turned : (a b : List KeyValue) → set_eq a b ≡ set_eq b a
turned a b = same_from_decides _ _ (set_eq-Decides a b) ((λ h. sym ((set_eq-Decides b a).0 h)), (λ e. (set_eq-Decides b a).1 (sym e)))

pub returns-then-self-key : goal.returns-then-self-key
returns-then-self-key c =
    let k = c.args.key.now in
    let q = c.self.inside.now in
    let same : (q.instrument == k.instrument) ≡ true = (unsigned_Decides q.instrument k.instrument).1 c.if-self-key.true in
    let listed : c.is_list.result ≡ set_eq q.attributes.now k.attributes = c.is_list.ensures ∙ ap (λ (l : List KeyValue). set_eq l q.attributes.now) c.lent.ensures ∙ turned k.attributes q.attributes.now in
    subst (λ (s : Bor Series). c.is_list.result ≡ series_eq s.now k) c.self.view_is (rw same listed)
