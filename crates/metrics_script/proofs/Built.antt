-- Streams that are built of what was said of them.
use Rattle.std.proofs.Common.{◌≡◌, ℕ, List, Option, Some, None, Result, Ok, Err, ap, ◌∙◌}
use Rattle.std.specs.Prelude.{MatchOption}
use Rattle.otel_common.specs.declared.metrics.Aggregation.{Aggregation}
use Rattle.otel_stream.specs.Settings.{nothing_said}
use Rattle.otel_stream.specs.declared.stream_fault.StreamFault.{StreamFault}
use Rattle.otel_stream.specs.declared.stream_spec.StreamSpec.{StreamSpec}

-- all that is said, one after the other
pub all_said : (start named described united limited kept aggregated : StreamSpec) (name description unit : Option (List ℕ)) (limit : Option ℕ) (allow : Option (List (List ℕ))) (aggregation : Option Aggregation) → start ≡ nothing_said
    → (start.name ≡ None → named ≡ record start { name = name })
    → (named.description ≡ None → described ≡ record named { description = description })
    → (described.unit ≡ None → united ≡ record described { unit = unit })
    → (united.limit ≡ None → limited ≡ record united { limit = limit })
    → (limited.allow ≡ None → kept ≡ record limited { allow = allow })
    → (kept.aggregation ≡ None → aggregated ≡ record kept { aggregation = aggregation })
    → aggregated ≡ record { name = name; description = description; unit = unit; aggregation = aggregation; allow = allow; limit = limit }
all_said start named described united limited kept aggregated name description unit limit allow aggregation e h1 h2 h3 h4 h5 h6 =
    let e1 : named ≡ record nothing_said { name = name } = h1 (ap (λ (s : StreamSpec). s.name) e) ∙ ap {A = StreamSpec} {B = StreamSpec} (λ s. record s { name = name }) e in
    let e2 : described ≡ record nothing_said { name = name; description = description } = h2 (ap (λ (s : StreamSpec). s.description) e1) ∙ ap {A = StreamSpec} {B = StreamSpec} (λ s. record s { description = description }) e1 in
    let e3 : united ≡ record nothing_said { name = name; description = description; unit = unit } = h3 (ap (λ (s : StreamSpec). s.unit) e2) ∙ ap {A = StreamSpec} {B = StreamSpec} (λ s. record s { unit = unit }) e2 in
    let e4 : limited ≡ record nothing_said { name = name; description = description; unit = unit; limit = limit } = h4 (ap (λ (s : StreamSpec). s.limit) e3) ∙ ap {A = StreamSpec} {B = StreamSpec} (λ s. record s { limit = limit }) e3 in
    let e5 : kept ≡ record nothing_said { name = name; description = description; unit = unit; limit = limit; allow = allow } = h5 (ap (λ (s : StreamSpec). s.allow) e4) ∙ ap {A = StreamSpec} {B = StreamSpec} (λ s. record s { allow = allow }) e4 in
    h6 (ap (λ (s : StreamSpec). s.aggregation) e5) ∙ ap {A = StreamSpec} {B = StreamSpec} (λ s. record s { aggregation = aggregation }) e5

-- what is built without a fault is what was said
pub built_as_said : (fault : Option StreamFault) (said stream : StreamSpec) → let built : Result StreamSpec StreamFault = Ok stream in MatchOption fault (built ≡ Ok said) (λ f. built ≡ Err f) → stream ≡ said
built_as_said None said stream is = cc
built_as_said (Some f) said stream is = cc

-- what can't be built has a fault
pub unbuilt_has_fault : (fault : Option StreamFault) (said : StreamSpec) (refused : StreamFault) → let built : Result StreamSpec StreamFault = Err refused in MatchOption fault (built ≡ Ok said) (λ f. built ≡ Err f) → fault ≡ None → ⊥
unbuilt_has_fault None said refused is none = cc
unbuilt_has_fault (Some f) said refused is none = cc
