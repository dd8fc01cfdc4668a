-- Streams in a script.
use Rattle.std.specs.Prelude.{ℕ, IsTrue, List, [], ◌∷◌, codes, ◌⊎◌}
use Rattle.std.specs.List.{list_all}
use Rattle.otel_stream.specs.Settings.{IsLawful}
use Rattle.otel_stream.specs.declared.stream_spec.StreamSpec.{StreamSpec}
use Rattle.metrics_script.specs.Aggregations.{IsAggregationWord}
use Rattle.metrics_script.specs.Calls.{IsIndexWord}
use Rattle.metrics_script.specs.Keys.{ReadsKeys}
use Rattle.metrics_script.specs.Named.{has_name_of}
use Rattle.metrics_script.specs.Options.{ReadsOption, ReadsText}

-- the names of what a line may say of a stream
abbrev pub stream_names : List (List ℕ)
stream_names = codes "name" ∷ codes "description" ∷ codes "unit" ∷ codes "limit" ∷ codes "keys" ∷ codes "agg" ∷ []

-- what the words say of the stream: each says something, and nothing is said twice
abbrev pub ReadsStream : List (List ℕ) → StreamSpec → Type 0
ReadsStream words stream =
    IsTrue (list_all (has_name_of stream_names) words)
    × ReadsOption ReadsText (codes "name") words stream.name
    × ReadsOption ReadsText (codes "description") words stream.description
    × ReadsOption ReadsText (codes "unit") words stream.unit
    × ReadsOption IsIndexWord (codes "limit") words stream.limit
    × ReadsOption ReadsKeys (codes "keys") words stream.allow
    × ReadsOption IsAggregationWord (codes "agg") words stream.aggregation

-- the words cannot be read as a stream, or are read as one with invalid settings
abbrev pub SaysNoStream : List (List ℕ) → Type 0
SaysNoStream words = ((stream : StreamSpec) → ¬ ReadsStream words stream) ⊎ ((stream : StreamSpec) × ReadsStream words stream × ¬ IsLawful stream)
