-- What the lines of a script say together.
use Rattle.std.specs.Prelude.{◌≡◌, ◌+◌, ℕ, ◌⊎◌, List, [], ◌∷◌, ◌++◌, length, map, codes}
use Rattle.std.specs.List.{All}
use Rattle.std.specs.Str.{IsUtf8}
use Rattle.otel_stream.specs.Settings.{IsLawful}
use Rattle.otel_stream.specs.declared.observation.Observed.{Observed}
use Rattle.otel_stream.specs.declared.selector.SelectorView.{SelectorView}
use Rattle.otel_stream.specs.declared.wants.Wants.{Wants}
use Rattle.opentelemetry_sdk.specs.declared.calls.Call.{Call}
use Rattle.metrics_script.specs.CallLines.{IsCallLine}
use Rattle.metrics_script.specs.Calls.{IsCollectOf, IsObservedOf}
use Rattle.metrics_script.specs.Readers.{ReadsReader}
use Rattle.metrics_script.specs.ScriptLines.{kept, words_of}
use Rattle.metrics_script.specs.Views.{ReadsView}

-- `reader`, a temporality and options
abbrev pub IsReaderLine : List (List ℕ) → Wants → Type 0
IsReaderLine (verb ∷ temporality ∷ options) reader = (verb ≡ codes "reader") × ReadsReader temporality options reader
IsReaderLine _ reader = ⊥

-- `view`, whose instruments it is for, and options that make a good stream
abbrev pub IsViewLine : List (List ℕ) → SelectorView → Type 0
IsViewLine (verb ∷ selector ∷ options) view = (verb ≡ codes "view") × ReadsView selector options view × IsLawful view.stream
IsViewLine _ view = ⊥

-- `observe`, an instrument, a number and attributes
abbrev pub IsObserveLine : List (List ℕ) → Observed → Type 0
IsObserveLine (verb ∷ instrument ∷ number ∷ attributes ∷ []) observed = (verb ≡ codes "observe") × IsObservedOf instrument number attributes observed
IsObserveLine _ observed = ⊥

-- `collect`, a reader and a moment; what was observed before is collected
abbrev pub IsCollectLine : List Observed → List (List ℕ) → Call → Type 0
IsCollectLine observations (verb ∷ reader ∷ now ∷ []) call = (verb ≡ codes "collect") × IsCollectOf reader now observations call
IsCollectLine observations _ call = ⊥

-- where something was observed, only a collection may come
abbrev pub IsNextCall : List Observed → List (List ℕ) → Call → Type 0
IsNextCall observations words call = IsCollectLine observations words call ⊎ ((observations ≡ []) × IsCallLine words call)

-- what lines behind `go` say, where this was observed before them: an observation is for the next collection, which has
-- to come
abbrev pub ReadsCalls : List Observed → List (List (List ℕ)) → List Call → Type 0
ReadsCalls observations [] calls = (observations ≡ []) × (calls ≡ [])
ReadsCalls observations (words ∷ rest) calls =
    ((observed : Observed) × IsObserveLine words observed × ReadsCalls (observations ++ observed ∷ []) rest calls)
    ⊎ ((call : Call) × (others : List Call) × IsNextCall observations words call × (calls ≡ call ∷ others) × ReadsCalls [] rest others)

-- what the lines of a script say: readers and views, then `go`, then calls
abbrev pub ReadsScript : List (List (List ℕ)) → List Wants → List SelectorView → List Call → Type 0
ReadsScript [] readers views calls = ⊥
ReadsScript (words ∷ rest) readers views calls =
    ((reader : Wants) × (others : List Wants) × IsReaderLine words reader × (readers ≡ reader ∷ others) × ReadsScript rest others views calls)
    ⊎ ((view : SelectorView) × (others : List SelectorView) × IsViewLine words view × (views ≡ view ∷ others) × ReadsScript rest readers others calls)
    ⊎ ((words ≡ codes "go" ∷ []) × (readers ≡ []) × (views ≡ []) × ReadsCalls [] rest calls)

-- the lines that count are UTF-8, and say this
abbrev pub IsScript : List (List ℕ) → List Wants → List SelectorView → List Call → Type 0
IsScript lines readers views calls = All IsUtf8 (kept lines) × ReadsScript (map words_of (kept lines)) readers views calls

-- lines with which a script begins
abbrev pub BeginsScript : List (List ℕ) → Type 0
BeginsScript lines = (more : List (List ℕ)) × (readers : List Wants) × (views : List SelectorView) × (calls : List Call) × IsScript (lines ++ more) readers views calls

-- with these lines no script begins, or, if there are no more, they are no script
abbrev pub IsBadAfter : List (List ℕ) → List (List ℕ) → Type 0
IsBadAfter before [] = (readers : List Wants) (views : List SelectorView) (calls : List Call) → ¬ IsScript before readers views calls
IsBadAfter before (line ∷ rest) = ¬ BeginsScript (before ++ line ∷ [])

-- the number, from 1, of the first line with which no script begins; where the lines are only the beginning of one, the
-- line behind the last one is bad
abbrev pub IsFirstBad : List (List ℕ) → ℕ → Type 0
IsFirstBad lines number = (before : List (List ℕ)) × (rest : List (List ℕ)) × (lines ≡ before ++ rest) × (number ≡ length before + 1) × BeginsScript before × IsBadAfter before rest
