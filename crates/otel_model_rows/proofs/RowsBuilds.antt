-- Worked rows on builds that feed the same streams.
use Rattle.std.specs.Prelude.{◌≡◌, pos, false, true, Bool, cond, is_some, List, [], ◌∷◌, Option, Some, None, slice_get}
use Rattle.std.proofs.Common.{refl, sym, ◌∙◌, ap, true≢false}
use Rattle.otel_common.specs.Equality.{bytes_eq}
use Rattle.otel_common.specs.declared.scopes.InstrumentationScope.{InstrumentationScope}
use Rattle.otel_model.specs.Builds.{AreAlike, AlikeFeedTheSame}
use Rattle.otel_model.specs.Calls.{Text, ascii_lowercase, kind_eq, Counter, UpDownCounter, Call, Meter, Build, Flush, Reply}
use Rattle.otel_model.specs.Demands.{StreamSpec, Views, nothing_said}
use Rattle.otel_model.specs.History.{Built}
use Rattle.otel_model.specs.Laws.{IsRun}
use Rattle.otel_model.specs.State.{ReaderPart, State}
use Rattle.otel_model_rows.specs.Rows.{b, m, scope_named, about, if_named, limited, delta}
use Rattle.otel_model_rows.specs.RunRows.{unit_1, product, readers}

-- ======== alike ========
-- names that differ in case
abbrev capital : Text
capital = 65 ∷ 98 ∷ []

abbrev small : Text
small = 97 ∷ 66 ∷ []

abbrev lower : Text
lower = 97 ∷ 98 ∷ []

-- a view of each of these names, and one of another
abbrev views : Views
views = (λ i. cond (bytes_eq (ascii_lowercase i.name) lower) (Some (limited 5)) None) ∷ if_named b nothing_said ∷ []

abbrev first : Built
first = record { scope = Some m; about = record (about Counter capital) { description = Some b; unit = Some unit_1 } }

-- the bounds of a counter are not looked at
abbrev second : Built
second = record { scope = Some m; about = record (about Counter small) { description = Some b; unit = Some unit_1; bounds = Some (pos 10 ∷ []) } }

pub alike : AreAlike views first second
alike = record { scope = m; first_scope = refl; second_scope = refl; first_good = refl; second_good = refl; kind = refl; signed = refl; description = refl; unit = refl; name = refl; answers = refl }

-- an empty description or unit is none; the same with signed values
abbrev empty_texts : Built
empty_texts = record { scope = Some m; about = record (about UpDownCounter capital) { signed = true; description = Some []; unit = Some [] } }

abbrev no_texts : Built
no_texts = record { scope = Some m; about = record (about UpDownCounter small) { signed = true } }

pub alike_without_texts : AreAlike [] empty_texts no_texts
alike_without_texts = record { scope = m; first_scope = refl; second_scope = refl; first_good = refl; second_good = refl; kind = refl; signed = refl; description = refl; unit = refl; name = refl; answers = refl }

-- ======== not alike ========
abbrev is_m : Option InstrumentationScope → Bool
is_m None = false
is_m (Some s) = bytes_eq s.name m.name

pub other_scope : AreAlike [] first (record second { scope = Some (scope_named b) }) → ⊥
other_scope h = true≢false (ap is_m (h.first_scope ∙ sym h.second_scope))

pub no_scope : AreAlike [] (record first { scope = None }) (record second { scope = None }) → ⊥
no_scope h = true≢false (sym (ap (λ (s : Option InstrumentationScope). is_some s) h.first_scope))

pub other_kind : AreAlike [] first (record second { about = record second.about { kind = UpDownCounter } }) → ⊥
other_kind h = true≢false (ap (λ k. kind_eq k Counter) h.kind)

pub other_type : AreAlike [] first (record second { about = record second.about { signed = true } }) → ⊥
other_type h = true≢false (sym h.signed)

pub other_description : AreAlike [] first (record second { about = record second.about { description = None } }) → ⊥
other_description h = true≢false (ap (λ t. bytes_eq t b) h.description)

pub other_unit : AreAlike [] first (record second { about = record second.about { unit = None } }) → ⊥
other_unit h = true≢false (ap (λ t. bytes_eq t unit_1) h.unit)

pub other_name : AreAlike [] first (record second { about = record second.about { name = b } }) → ⊥
other_name h = true≢false (ap (λ t. bytes_eq t lower) h.name)

-- invalid names
abbrev unnamed : Built
unnamed = record { scope = Some m; about = about Counter [] }

pub not_good : AreAlike [] unnamed unnamed → ⊥
not_good h = true≢false (sym h.first_good)

pub second_not_good : AreAlike [] first unnamed → ⊥
second_not_good h = true≢false (sym h.second_good)

-- a view that answers one of them alone
abbrev is_first_answered : List (Option StreamSpec) → Bool
is_first_answered [] = false
is_first_answered (o ∷ os) = is_some o

pub other_answer : AreAlike (if_named capital nothing_said ∷ []) first second → ⊥
other_answer h = true≢false (ap is_first_answered h.answers)

-- ======== what they feed ========
abbrev calls : List Call
calls = Meter m ∷ Build (Some 0) first.about 100 ∷ Build None first.about 100 ∷ Build (Some 0) second.about 200 ∷ Flush ∷ []

abbrev replies : List Reply
replies = Reply.Meter (Some 0) ∷ Reply.Instrument 0 ∷ Reply.Instrument 1 ∷ Reply.Instrument 2 ∷ Reply.Done ∷ []

pub law_of_builds : AlikeFeedTheSame → (new : State) (part : ReaderPart) → IsRun views product 5 readers calls replies new → slice_get new.readers 1 ≡ Some part → slice_get part.feeds 0 ≡ slice_get part.feeds 2
law_of_builds h new part run e = h views product 5 readers calls replies new run 1 delta part refl e 0 2 first second refl refl alike
