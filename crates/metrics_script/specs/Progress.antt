-- What has been read of a script, and what one more line adds.
use Rattle.std.specs.Prelude.{◌≡◌, ℕ, Bool, true, ◌⊎◌, List, [], ◌∷◌, ◌++◌, codes}
use Rattle.std.specs.Bool.{MatchBool}
use Rattle.std.specs.Str.{IsUtf8}
use Rattle.otel_stream.specs.declared.observation.Observed.{Observed}
use Rattle.otel_stream.specs.declared.selector.SelectorView.{SelectorView}
use Rattle.otel_stream.specs.declared.wants.Wants.{Wants}
use Rattle.opentelemetry_sdk.specs.declared.calls.Call.{Call}
use Rattle.metrics_script.specs.ScriptLines.{is_skipped, words_of}
use Rattle.metrics_script.specs.Scripts.{IsNextCall, IsObserveLine, IsReaderLine, IsViewLine}
use Rattle.metrics_script.specs.declared.script_lines.Reading.{Reading}

-- the readers, views and calls so far; whether `go` has been read, and what was observed since the last call
pub record Progress : Type 0 where
  pub readers : List Wants
  pub views : List SelectorView
  pub calls : List Call
  pub is_started : Bool
  pub observations : List Observed

abbrev pub progress_of : Reading → Progress
progress_of reading = record { readers = reading.script.readers.items; views = reading.script.views.items; calls = reading.script.calls.items; is_started = reading.is_started; observations = reading.observations.items }

-- a line before `go` adds a reader or a view, or is `go`
abbrev pub SetsUp : List (List ℕ) → Progress → Progress → Type 0
SetsUp words old new =
    ((reader : Wants) × IsReaderLine words reader × (new ≡ record old { readers = old.readers ++ reader ∷ [] }))
    ⊎ ((view : SelectorView) × IsViewLine words view × (new ≡ record old { views = old.views ++ view ∷ [] }))
    ⊎ ((words ≡ codes "go" ∷ []) × (new ≡ record old { is_started = true }))

-- a line behind `go` adds an observation, or a call that takes the observations
abbrev pub GoesOn : List (List ℕ) → Progress → Progress → Type 0
GoesOn words old new =
    ((observed : Observed) × IsObserveLine words observed × (new ≡ record old { observations = old.observations ++ observed ∷ [] }))
    ⊎ ((call : Call) × IsNextCall old.observations words call × (new ≡ record old { calls = old.calls ++ call ∷ []; observations = [] }))

-- a line that is skipped adds nothing; any other has to be UTF-8
abbrev pub AddsLine : List ℕ → Progress → Progress → Type 0
AddsLine line old new = MatchBool (is_skipped line) (new ≡ old) (IsUtf8 line × MatchBool old.is_started (GoesOn (words_of line) old new) (SetsUp (words_of line) old new))
