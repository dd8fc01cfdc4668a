-- What is printed of a collection.
use Rattle.std.specs.Prelude.{ℕ, List, [], true}
use Rattle.otel_data.specs.declared.collections.ResourceMetrics.{ResourceMetrics}
use Rattle.opentelemetry_sdk.specs.declared.calls.Reply.{Reply}
use Rattle.opentelemetry_sdk.specs.declared.calls.Reply.TheVariants as replies
use Rattle.opentelemetry_sdk.specs.otel_otlp.Requests.{line_of}
use Rattle.opentelemetry_sdk.specs.otel_prometheus.Collections.{lines_of}
use Rattle.opentelemetry_sdk.specs.otel_prometheus.Lines.{text_of}
use Rattle.metrics_script.specs.declared.exports.Form.{Form}
use Rattle.metrics_script.specs.declared.exports.Form.TheVariants.{Text, Request}

abbrev pub printed_text : Form → ResourceMetrics → List ℕ
printed_text (Text format) c = text_of format (lines_of (record { format = format; has_scope_labels = true }) c)
printed_text Request c = line_of c

-- of a reply that is no collection nothing is printed
abbrev pub reply_text : Form → Reply → List ℕ
reply_text form (replies.Meter number) = []
reply_text form (replies.Instrument number) = []
reply_text form (replies.Handle number) = []
reply_text form replies.Done = []
reply_text form (replies.Collected c) = printed_text form c
reply_text form (replies.Refused fault) = []
