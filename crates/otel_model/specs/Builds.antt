-- Two builds of the same streams (Metrics SDK, "Duplicate instrument registration").
use Rattle.std.specs.Prelude.{◌≡◌, ℕ, true, map, Some, slice_get}
use Rattle.otel_common.specs.declared.scopes.InstrumentationScope.{InstrumentationScope}
use Rattle.otel_model.specs.Calls.{ascii_lowercase}
use Rattle.otel_model.specs.Demands.{View, Views, instrument_of, description_of, unit_of, is_good}
use Rattle.otel_model.specs.History.{Built, builds_in, made_calls}
use Rattle.otel_model.specs.Laws.{OfEachReader}

-- two valid builds on meters of one scope that agree in kind, number type, description, unit and, apart from ASCII
-- case, name, and to which each view gives the same answer
pub record AreAlike (views : Views) (i j : Built) : Type 0 where
  pub scope : InstrumentationScope
  pub first_scope : i.scope ≡ Some scope
  pub second_scope : j.scope ≡ Some scope
  pub first_good : is_good i.about ≡ true
  pub second_good : is_good j.about ≡ true
  pub kind : i.about.kind ≡ j.about.kind
  pub signed : i.about.signed ≡ j.about.signed
  pub description : description_of i.about ≡ description_of j.about
  pub unit : unit_of i.about ≡ unit_of j.about
  pub name : ascii_lowercase i.about.name ≡ ascii_lowercase j.about.name
  pub answers : map (λ (view : View). view (instrument_of scope i.about)) views ≡ map (λ (view : View). view (instrument_of scope j.about)) views

-- the instruments of two such builds feed the same streams
abbrev pub AlikeFeedTheSame : Type 0
AlikeFeedTheSame = OfEachReader (λ views resource calls replies new r answers part.
    (m n : ℕ) (i j : Built) → slice_get (builds_in (made_calls calls replies)) m ≡ Some i → slice_get (builds_in (made_calls calls replies)) n ≡ Some j → AreAlike views i j
    → slice_get part.feeds m ≡ slice_get part.feeds n)
