-- Readers in a script.
use Rattle.std.specs.Prelude.{◌≡◌, ◌++◌, ℕ, IsTrue, List, ◌∷◌, map, codes, Option, None, Ok}
use Rattle.std.specs.List.{list_all}
use Rattle.std.specs.Option.{option_or}
use Rattle.otel_common.specs.Temporalities.{temporality_named}
use Rattle.otel_stream.specs.Answers.{kinds}
use Rattle.otel_stream.specs.Settings.{limit_fault}
use Rattle.otel_stream.specs.Wants.{limit_of, aggregation_of}
use Rattle.otel_stream.specs.declared.instrument.InstrumentKind.{InstrumentKind}
use Rattle.otel_stream.specs.declared.wants.Wants.{Wants}
use Rattle.metrics_script.specs.Aggregations.{IsAggregationWord}
use Rattle.metrics_script.specs.Calls.{IsIndexWord}
use Rattle.metrics_script.specs.Kinds.{kind_word}
use Rattle.metrics_script.specs.Named.{has_name_of}
use Rattle.metrics_script.specs.Options.{ReadsOption}

-- a number that is a valid limit
abbrev pub IsLimitWord : List ℕ → ℕ → Type 0
IsLimitWord word limit = IsIndexWord word limit × (limit_fault limit ≡ None)

-- the name of a kind's limit
abbrev pub limit_name : InstrumentKind → List ℕ
limit_name kind = codes "limit:" ++ kind_word kind

-- the name of a kind's aggregation
abbrev pub aggregation_name : InstrumentKind → List ℕ
aggregation_name kind = codes "agg:" ++ kind_word kind

-- the names of what a line may say of a reader
abbrev pub reader_names : List (List ℕ)
reader_names = codes "limit" ∷ (map limit_name kinds ++ map aggregation_name kinds)

-- the kind's own limit, or else the limit for all kinds
abbrev pub ReadsLimit : List (List ℕ) → Option ℕ → InstrumentKind → Option ℕ → Type 0
ReadsLimit words for_all kind limit = (own : Option ℕ) × ReadsOption IsLimitWord (limit_name kind) words own × (limit ≡ option_or own for_all)

-- what the words say for a kind
abbrev pub ReadsKind : List (List ℕ) → Option ℕ → Wants → InstrumentKind → Type 0
ReadsKind words for_all reader kind =
    ReadsLimit words for_all kind (limit_of reader kind)
    × ReadsOption IsAggregationWord (aggregation_name kind) words (aggregation_of reader kind)

-- the first word names the reader's temporality; each other word says something of the reader, and nothing is said
-- twice
abbrev pub ReadsReader : List ℕ → List (List ℕ) → Wants → Type 0
ReadsReader temporality words reader =
    (temporality_named temporality ≡ Ok reader.temporality)
    × IsTrue (list_all (has_name_of reader_names) words)
    × ((for_all : Option ℕ) × ReadsOption IsLimitWord (codes "limit") words for_all × ((kind : InstrumentKind) → ReadsKind words for_all reader kind))
