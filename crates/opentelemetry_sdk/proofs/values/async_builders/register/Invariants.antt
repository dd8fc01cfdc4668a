use Rattle.std.proofs.Common.{◌≡◌, ◌≤◌, ◌+◌, ◌++◌, length, map, vec_len, vec_capacity}
use Rattle.opentelemetry_sdk.specs.Callbacks.{registered_callback}
use Rattle.opentelemetry_sdk.proofs.values.async_builders.register.Given as goal

-- what was registered and what is left are all, and there is room for what is left
abbrev pub invariant-loop-callback : goal.invariant-loop-callback
invariant-loop-callback g l = record {
  all : l.into.items ++ map (registered_callback l.fn.instrument) l.callback-iterator.rest.items ≡ l.initial.into.items ++ map (registered_callback l.fn.instrument) l.fn.callbacks.items;
  room : vec_len l.into + length l.callback-iterator.rest.items ≤ vec_capacity l.into;
}
