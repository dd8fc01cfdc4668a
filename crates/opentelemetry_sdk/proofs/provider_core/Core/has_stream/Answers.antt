use Rattle.std.proofs.Common.{◌∙◌, ◌||◌, List, map, refl, ap, sym}
use Rattle.std.specs.List.{list_any}
use Rattle.std.proofs.lemmas.List.Recursion.{same_from_clauses}
use Rattle.opentelemetry_sdk.specs.pipeline.Pipelines.{Piped, has_stream_at, part_of}
use Rattle.opentelemetry_sdk.proofs.provider_core.Core.has_stream.Goals as goal

-- a reader's part is that of its streams
pub returns : goal.returns
returns c = rw (← c.self.view_is) (c.any_stream.ensures ∙ (ap (list_any (λ p. has_stream_at c.args.instrument (part_of p))) c.deref.ensures.value ∙ sym (same_from_clauses (λ (ps : List Piped). list_any (has_stream_at c.args.instrument) (map part_of ps)) (list_any (λ (p : Piped). has_stream_at c.args.instrument (part_of p))) (λ p b. has_stream_at c.args.instrument (part_of p) || b) refl (λ p ps. refl) (λ p ps. refl) c.self.inside.pipelines.items)))
