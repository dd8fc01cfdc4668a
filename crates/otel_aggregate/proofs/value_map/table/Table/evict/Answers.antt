use Rattle.std.proofs.Common.{◌≡◌, ap, sym, ◌∙◌, List, filter}
use Rattle.std.specs.Map.{keys_of}
use Rattle.otel_common.specs.Canonical.{canon}
use Rattle.otel_model_stream.specs.Entries.{Table, has, evicted_table}
use Rattle.otel_aggregate.specs.value_map.Keyed.{Slotted}
use Rattle.otel_aggregate.specs.value_map.Slots.{look_in, Keyed, table_at}
use Rattle.otel_aggregate.proofs.value_map.LeftLemmas.{table-left, kept-left, numbers-left, lists-left, over-left}
use Rattle.otel_aggregate.proofs.value_map.table.Table.evict.Goals as goal

pub invariant_of-self : goal.invariant_of-self
invariant_of-self g c =
    let meaning = g.A.Aggregator.meaning in
    let laws = kept-left (look_in meaning c.self.inside.slots) (look_in meaning c.settle.new.slots) c.settle.ensures.look c.self.inside.none c.self.inside.keys.sets c.self.inside.keys.aliases c.self.invariant.0 in
    rw (c.keep_filled.ensures.sets, c.keep_filled.ensures.aliases) (laws, c.self.invariant.1 ∙ sym (over-left (look_in meaning c.self.inside.slots) (look_in meaning c.settle.new.slots) c.settle.ensures.look c.self.inside.keys.sets c.self.invariant.0.fits))

pub returns-clause-table : goal.returns-clause-table
returns-clause-table g c =
    let meaning = g.A.Aggregator.meaning in
    let other = look_in meaning c.settle.new.slots in
    ap (λ (es : List Keyed). table_at other c.self.inside.none es) c.keep_filled.ensures.sets
    ∙ table-left (look_in meaning c.self.inside.slots) other c.settle.ensures.look c.self.inside.none c.self.inside.keys.sets c.self.inside.keys.aliases c.self.invariant.0
    ∙ ap (λ (t : Slotted). evicted_table t.table) c.self.view_is

pub returns-clause-numbers : goal.returns-clause-numbers
returns-clause-numbers g c =
    let meaning = g.A.Aggregator.meaning in
    let look = look_in meaning c.self.inside.slots in
    let other = look_in meaning c.settle.new.slots in
    let none = c.self.inside.none in
    let left = table-left look other c.settle.ensures.look none c.self.inside.keys.sets c.self.inside.keys.aliases c.self.invariant.0 in
    let kept = numbers-left look other c.settle.ensures.look none c.self.inside.keys.sets c.self.inside.keys.aliases c.self.invariant.0 in
    let entries : (table_at other none _).entries ≡ (evicted_table (table_at look none c.self.inside.keys.sets)).entries = ap (λ (t : Table). t.entries) left in
    rw (← c.self.view_is) (rw c.keep_filled.ensures.sets (λ s n e h. kept s n e (rw entries h)))

pub returns-clause-aliases : goal.returns-clause-aliases
returns-clause-aliases g c =
    let meaning = g.A.Aggregator.meaning in
    let look = look_in meaning c.self.inside.slots in
    let other = look_in meaning c.settle.new.slots in
    let none = c.self.inside.none in
    let left = table-left look other c.settle.ensures.look none c.self.inside.keys.sets c.self.inside.keys.aliases c.self.invariant.0 in
    let lists = lists-left look other c.settle.ensures.look none c.self.inside.keys.sets c.self.inside.keys.aliases c.self.invariant.0 c.self.inside.keys.aliases c.self.invariant.0.linked in
    rw (← c.self.view_is) (ap keys_of c.keep_filled.ensures.aliases ∙ lists ∙ ap (λ (t : Table). filter (λ l. has (canon l) t.entries) (keys_of c.self.inside.keys.aliases)) left)
