-- The words by which the program is asked for something.
use Rattle.std.specs.Prelude.{ℕ, List, [], ◌∷◌, codes}
use Rattle.opentelemetry_sdk.specs.otel_prometheus.declared.text.formats.Format.TheVariants.{Prometheus, OpenMetrics}
use Rattle.metrics_script.specs.declared.commands.Command.{Command}
use Rattle.metrics_script.specs.declared.commands.Command.TheVariants.{Replies, Collections, LastCollection, Explain, Help}
use Rattle.metrics_script.specs.declared.exports.Form.{Form}
use Rattle.metrics_script.specs.declared.exports.Form.TheVariants.{Text, Request}

-- the word for each form
abbrev pub form_word : Form → List ℕ
form_word (Text Prometheus) = codes "prometheus"
form_word (Text OpenMetrics) = codes "openmetrics"
form_word Request = codes "otlp"

-- the arguments, without the program's name
abbrev pub command_words : Command → List (List ℕ)
command_words Replies = []
command_words (Collections form) = form_word form ∷ []
command_words (LastCollection form) = form_word form ∷ codes "last" ∷ []
command_words Explain = codes "explain" ∷ []
command_words Help = codes "--help" ∷ []
