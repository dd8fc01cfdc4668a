use Rattle.std.proofs.Common.{◌∙◌, ap, map}
use Rattle.opentelemetry_sdk.specs.pipeline.Pipelines.{part_of}
use Rattle.opentelemetry_sdk.proofs.Preparing.{idle-parts}
use Rattle.opentelemetry_sdk.proofs.metrics.shared.batch.give_up.Goals as goal

pub loop-number-preserved : goal.loop-number-preserved
loop-number-preserved c = ap (map part_of) c.change_all.ensures.streams ∙ idle-parts _ c.loop-number.pipelines ∙ c.loop-number.invariant
