-- The two requests that a provider makes of all its readers.
use Rattle.std.specs.Prelude.{ℕ}
use Rattle.otel_stream.specs.Requests.{Outcome, default_timeout}
use Rattle.otel_stream.specs.declared.each_reader.Question.{Question}
use Rattle.otel_stream.specs.declared.each_reader.Question.TheVariants.{Flush, Shutdown}

-- what the request does to a reader that flushes and shuts down like this; a shutdown has the default timeout
abbrev pub does : {R : Type 0} → (R → R → Outcome → Type 0) → (R → ℕ → R → Outcome → Type 0) → Question → R → R → Outcome → Type 0
does flushes shuts Flush before after outcome = flushes before after outcome
does flushes shuts Shutdown before after outcome = shuts before default_timeout after outcome
