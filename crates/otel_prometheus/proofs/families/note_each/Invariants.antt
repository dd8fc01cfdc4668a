use Rattle.std.proofs.Common.{◌≡◌, fold}
use Rattle.indexmap.specs.IndexSet.{insert_key}
use Rattle.otel_common.specs.Equality.{bytes_eq}
use Rattle.otel_prometheus.proofs.families.note_each.Given as goal

-- with the names that are left the names are whole
abbrev pub invariant-loop-name : goal.invariant-loop-name
invariant-loop-name l = fold (insert_key bytes_eq) l.names.keys l.name-iterator.rest.items ≡ fold (insert_key bytes_eq) l.fn.names.keys l.fn.more.items
