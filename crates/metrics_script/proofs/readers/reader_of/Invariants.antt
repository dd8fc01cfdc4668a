use Rattle.std.proofs.Common.{◌≡◌, ◌<◌, ◌≤◌, None, Ok, map}
use Rattle.otel_common.specs.Temporalities.{temporality_named}
use Rattle.otel_stream.specs.Answers.{kind_number}
use Rattle.otel_stream.specs.Wants.{limit_of, aggregation_of}
use Rattle.otel_stream.specs.declared.instrument.InstrumentKind.{InstrumentKind}
use Rattle.metrics_script.specs.Readers.{ReadsKind}
use Rattle.metrics_script.proofs.readers.reader_of.Given as goal

-- the kinds so far have what the options say for them, and the others nothing
abbrev pub invariant-loop-kind : goal.invariant-loop-kind
invariant-loop-kind l = record {
  temporality : temporality_named l.fn.temporality ≡ Ok l.builder.temporality;
  done : (kind : InstrumentKind) → kind_number kind < l.kind-index → ReadsKind (map (λ word. word.now) l.options) l.limit l.builder kind;
  rest : (kind : InstrumentKind) → l.kind-index ≤ kind_number kind → (limit_of l.builder kind ≡ None) × (aggregation_of l.builder kind ≡ None);
}
