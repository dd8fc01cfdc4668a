use Rattle.std.proofs.Common.{length}
use Rattle.opentelemetry_sdk.proofs.provider_core.each_pipeline.+build_or_none.Given as goal

abbrev pub decreases-build_or_none : goal.decreases-build_or_none
decreases-build_or_none l = length l.pipelines.now
