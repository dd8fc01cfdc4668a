-- Series of records: an instrument and a list of attributes as given.
use Rattle.std.specs.Prelude.{◌≡◌, ℕ, ◌==◌, ◌&&◌, ◌++◌, Bool, List, Decides, flat_map}
use Rattle.std.proofs.Common.{ap}
use Rattle.std.specs.Cmp.{unsigned_Decides}
use Rattle.std.specs.Hash as fed
use Rattle.std.specs.Hash.{HashWrites}
use Rattle.otel_common.specs.Equality.{set_eq, set_eq-Decides, both_decide}
use Rattle.otel_common.specs.Hashes.{key_value_writes}
use Rattle.otel_common.specs.declared.attributes.KeyValue.{KeyValue}
use Rattle.opentelemetry_sdk.specs.Lent.{shared_list}
use Rattle.opentelemetry_sdk.specs.declared.calls.record_attributes.SharedAttributes.{SharedAttributes}
use Rattle.opentelemetry_sdk.specs.declared.metrics.shared.series.Series.{Series}

-- the series of an instrument and a list
abbrev pub series : ℕ → List KeyValue → Series
series n l = record { instrument = n; attributes = l }

-- whether two series are one
abbrev pub series_eq : Series → Series → Bool
series_eq s t = s.instrument == t.instrument && set_eq s.attributes t.attributes

pub series_eq-Decides : (s t : Series) → Decides (series_eq s t) (s ≡ t)
series_eq-Decides s t =
    both_decide (s.instrument == t.instrument) (set_eq s.attributes t.attributes) (unsigned_Decides s.instrument t.instrument) (set_eq-Decides s.attributes t.attributes)
    (λ n l i. record { instrument = n i; attributes = l i })
    (λ e. (ap (λ q. q.instrument) e, ap (λ q. q.attributes) e))

-- what a series feeds to a hasher
abbrev pub series_writes : Series → HashWrites
series_writes s = fed.u64 s.instrument ++ flat_map key_value_writes s.attributes

-- the list that is shared out is that of the series
abbrev pub IsListOf : Series × SharedAttributes → Type 0
IsListOf e = shared_list e.1 ≡ e.0.attributes
