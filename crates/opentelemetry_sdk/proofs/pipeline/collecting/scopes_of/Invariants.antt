use Rattle.std.proofs.Common.{◌≡◌, ◌++◌, map, length}
use Rattle.std.specs.Vec.Iter.{into_iter_items, into_iter_len}
use Rattle.opentelemetry_sdk.specs.pipeline.Collections.{shown_in, scopes_shown}
use Rattle.opentelemetry_sdk.proofs.pipeline.collecting.scopes_of.Given as goal

-- the scopes so far, and those of the meters that are left, are all; the lists that are left are of these meters
abbrev pub invariant-loop-scope : goal.invariant-loop-scope
invariant-loop-scope l = record {
  all : l.scopes.items ++ scopes_shown l.fn.now l.fn.streams l.scope-iterator.a ≡ scopes_shown l.fn.now l.fn.streams l.fn.meters.keys;
  left : map (λ v. v.items) (into_iter_items l.scope-iterator.b) ≡ map (λ m. shown_in m l.fn.now l.fn.streams) l.scope-iterator.a;
  many : into_iter_len l.scope-iterator.b ≡ length l.scope-iterator.a;
}
