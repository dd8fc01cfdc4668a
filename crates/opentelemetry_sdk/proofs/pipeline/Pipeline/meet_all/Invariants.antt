use Rattle.std.proofs.Common.{take}
use Rattle.opentelemetry_sdk.specs.pipeline.Pipelines.{AreMet, IsLonger}
use Rattle.opentelemetry_sdk.specs.pipeline.Views.{usable_demands}
use Rattle.opentelemetry_sdk.proofs.pipeline.Pipeline.meet_all.Given as goal

-- what the views so far demand is met
abbrev pub invariant-loop-answer : goal.invariant-loop-answer
invariant-loop-answer l = record {
  longer : IsLonger l.initial.self l.self;
  met : AreMet l.fn.now (usable_demands l.initial.self.answers l.scope l.fn.about (take l.answer-index l.answered)) l.initial.self l.self l.feeds.items;
}
