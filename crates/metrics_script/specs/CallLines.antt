-- The lines of a script that are calls.
use Rattle.std.specs.Prelude.{◌≡◌, ℕ, List, [], ◌∷◌, codes, Option, None, Some, ⊤, MatchOption}
use Rattle.std.specs.Option.{option_map}
use Rattle.std.specs.Str.{IsUtf8}
use Rattle.otel_common.specs.declared.scopes.InstrumentationScope.{InstrumentationScope}
use Rattle.opentelemetry_sdk.specs.declared.calls.Call.{Call}
use Rattle.opentelemetry_sdk.specs.declared.calls.Call.TheVariants.{Meter, Build, Record, Bind, RecordBound, Unbind, Flush, Shutdown}
use Rattle.metrics_script.specs.Attributes.{ReadsAttributes}
use Rattle.metrics_script.specs.Calls.{IsIndexWord, IsMeterWord, IsSortWord}
use Rattle.metrics_script.specs.Numbers.{IsNumberWord}
use Rattle.metrics_script.specs.Options.{ReadsOptions, ReadsText}
use Rattle.metrics_script.specs.Texts.{text_of_word}

-- the scope of a name and, perhaps, a version, which have to be UTF-8
abbrev pub IsScopeOf : List ℕ → Option (List ℕ) → InstrumentationScope → Type 0
IsScopeOf name version scope = IsUtf8 (text_of_word name) × MatchOption version ⊤ (λ word. IsUtf8 (text_of_word word)) × (scope ≡ record { name = text_of_word name; version = option_map text_of_word version; schema_url = None; attributes = [] })

-- the build of an instrument: the meter, the sort, the name, the moment and the options
abbrev pub IsBuildOf : List ℕ → List ℕ → List ℕ → List ℕ → List (List ℕ) → Call → Type 0
IsBuildOf m s n at options (Build meter sort name description unit boundaries now) = IsMeterWord m meter × IsSortWord s sort × ReadsText n name × IsIndexWord at now × ReadsOptions options (record { description = description; unit = unit; boundaries = boundaries })
IsBuildOf m s n at options _ = ⊥

-- a verb and what it is about; a collection is no such line, since it takes in the observations before it
abbrev pub IsCallLine : List (List ℕ) → Call → Type 0
IsCallLine (verb ∷ []) Flush = verb ≡ codes "flush"
IsCallLine (verb ∷ []) Shutdown = verb ≡ codes "shutdown"
IsCallLine (verb ∷ name ∷ []) (Meter scope) = (verb ≡ codes "meter") × IsScopeOf name None scope
IsCallLine (verb ∷ name ∷ version ∷ []) (Meter scope) = (verb ≡ codes "meter") × IsScopeOf name (Some version) scope
IsCallLine (verb ∷ meter ∷ sort ∷ name ∷ now ∷ options) (Build m s n d u b t) = (verb ≡ codes "build") × IsBuildOf meter sort name now options (Build m s n d u b t)
IsCallLine (verb ∷ instrument ∷ number ∷ attributes ∷ []) (Record i v a) = (verb ≡ codes "record") × IsIndexWord instrument i × IsNumberWord number v × ReadsAttributes attributes a
IsCallLine (verb ∷ instrument ∷ attributes ∷ []) (Bind i a) = (verb ≡ codes "bind") × IsIndexWord instrument i × ReadsAttributes attributes a
IsCallLine (verb ∷ handle ∷ number ∷ []) (RecordBound h v) = (verb ≡ codes "recordbound") × IsIndexWord handle h × IsNumberWord number v
IsCallLine (verb ∷ handle ∷ []) (Unbind h) = (verb ≡ codes "unbind") × IsIndexWord handle h
IsCallLine _ _ = ⊥
