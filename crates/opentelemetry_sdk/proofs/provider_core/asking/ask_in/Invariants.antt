use Rattle.std.proofs.Common.{◌≡◌, ◌≤◌, length, map, take, vec_len, vec_capacity}
use Rattle.opentelemetry_sdk.proofs.provider_core.asking.ask_in.Given as goal

-- the answers of the views so far, and room for the others
abbrev pub invariant-loop-view : goal.invariant-loop-view
invariant-loop-view g l = record {
  many : vec_len l.answers ≡ l.view-index;
  room : length l.views ≤ vec_capacity l.answers;
  so_far : l.answers.items ≡ map (λ v. g.V.View.answer v l.instrument) (take l.view-index l.views);
}
