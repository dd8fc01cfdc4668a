-- Worked rows on what belongs to a provider: meters, instruments and handles that have its identity, and no others.
use Rattle.std.specs.Prelude.{◌≡◌}
use Rattle.std.proofs.Common.{refl, sym, ◌∙◌, arith}
use Rattle.opentelemetry_sdk.specs.Providers.{state_of, identity_of}
use Rattle.opentelemetry_sdk.specs.Typed.{IsMeterOf, IsInstrumentOf, instrument_identity, IsObservableOf, handle_identity, IsBoundOf, kept_identity, IsKeptOf}
use Rattle.opentelemetry_sdk.specs.declared.values.asynchronous.Asynchronous.{Asynchronous}
use Rattle.opentelemetry_sdk.specs.declared.values.bound.Bound.{Bound}
use Rattle.opentelemetry_sdk.specs.declared.values.bound.Kept.{Kept}
use Rattle.opentelemetry_sdk.specs.declared.values.meters.Meter.{Meter}
use Rattle.opentelemetry_sdk.specs.declared.provider.Provider.{Provider}
use Rattle.opentelemetry_sdk.specs.declared.values.synchronous.Synchronous.{Synchronous}

-- a provider's identity is that of its state
pub identity : {P V R U I : Type 0} (p : Provider P V R U I) → identity_of p ≡ (state_of p).shared.identity
identity p = refl

-- of a provider with the identity 7 are those with 7
pub own_meter : {P V R U I : Type 0} (m : Meter) (p : Provider P V R U I) → m.identity ≡ 7 → identity_of p ≡ 7 → IsMeterOf m p
own_meter m p e f = e ∙ sym f

pub other_meter : {P V R U I : Type 0} (m : Meter) (p : Provider P V R U I) → m.identity ≡ 8 → identity_of p ≡ 7 → IsMeterOf m p → ⊥
other_meter m p e f h = absurd (omega (e, f, h, arith))

pub own_instrument : {K T P V R U I : Type 0} (i : Synchronous K T) (p : Provider P V R U I) → instrument_identity i ≡ 7 → identity_of p ≡ 7 → IsInstrumentOf i p
own_instrument i p e f = e ∙ sym f

pub other_instrument : {K T P V R U I : Type 0} (i : Synchronous K T) (p : Provider P V R U I) → instrument_identity i ≡ 8 → identity_of p ≡ 7 → IsInstrumentOf i p → ⊥
other_instrument i p e f h = absurd (omega (e, f, h, arith))

pub own_observable : {K T P V R U I : Type 0} (i : Asynchronous K T) (p : Provider P V R U I) → i.identity ≡ 7 → identity_of p ≡ 7 → IsObservableOf i p
own_observable i p e f = e ∙ sym f

pub other_observable : {K T P V R U I : Type 0} (i : Asynchronous K T) (p : Provider P V R U I) → i.identity ≡ 8 → identity_of p ≡ 7 → IsObservableOf i p → ⊥
other_observable i p e f h = absurd (omega (e, f, h, arith))

pub own_handle : {T P V R U I : Type 0} (b : Bound T) (p : Provider P V R U I) → handle_identity b ≡ 7 → identity_of p ≡ 7 → IsBoundOf b p
own_handle b p e f = e ∙ sym f

pub other_handle : {T P V R U I : Type 0} (b : Bound T) (p : Provider P V R U I) → handle_identity b ≡ 8 → identity_of p ≡ 7 → IsBoundOf b p → ⊥
other_handle b p e f h = absurd (omega (e, f, h, arith))

pub own_kept : {T P V R U I : Type 0} (k : Kept T) (p : Provider P V R U I) → kept_identity k ≡ 7 → identity_of p ≡ 7 → IsKeptOf k p
own_kept k p e f = e ∙ sym f

pub other_kept : {T P V R U I : Type 0} (k : Kept T) (p : Provider P V R U I) → kept_identity k ≡ 8 → identity_of p ≡ 7 → IsKeptOf k p → ⊥
other_kept k p e f h = absurd (omega (e, f, h, arith))
