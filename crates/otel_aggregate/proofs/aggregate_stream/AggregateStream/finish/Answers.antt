use Rattle.std.proofs.Common.{ap, is_some, rules, sym, subst, List}
use Rattle.otel_model_stream.specs.Events.{Handles}
use Rattle.otel_model_stream.specs.Entries.{evicted_table}
use Rattle.otel_model_stream.specs.Maps.{MapState}
use Rattle.otel_aggregate.specs.value_map.Numbers.{Numbers}
use Rattle.otel_aggregate.specs.Any.{Form, form_of, aggregate_of}
use Rattle.otel_aggregate.specs.Kept.{IsKeptMap}
use Rattle.otel_aggregate.specs.Links.{Link, handles_of, AreHeld}
use Rattle.otel_aggregate.proofs.LinkLemmas.{lead-still, still-left}
use Rattle.otel_aggregate.proofs.HandleLemmas.{placed-evicted, held-evicted}
use Rattle.otel_aggregate.proofs.KeptLemmas.{kept-evicted, reported-none}
use Rattle.otel_aggregate.proofs.StepLemmas.{collected-made}
use Rattle.otel_aggregate.proofs.aggregate_stream.AggregateStream.finish.Goals as goal

pub invariant_of-self : goal.invariant_of-self
invariant_of-self c =
    let was = c.self.inside.map in
    let now = c.reset_and_evict in
    let new : Numbers = now.new.self.numbers in
    let links : List Link = c.self.inside.live.entries in
    let live : Handles = handles_of was.numbers links in
    let k : Form = form_of (aggregate_of c.self.inside.settings) in
    let lead = lead-still was.numbers new c.law_of_numbers.ensures.named links (still-left (evicted_table was.state.table).entries was.numbers new now.ensures.numbers links c.self.invariant.0 (placed-evicted was.state.table live c.self.invariant.1)) in (
      lead.0,
      subst (AreHeld now.new.self.state.table) (sym lead.1)
          (subst (λ (m : MapState). AreHeld m.table live) (sym now.ensures.state) (held-evicted was.state.table live c.self.invariant.1)),
      c.self.invariant.2,
      subst (IsKeptMap c.self.inside.is_signed k) (sym now.ensures.state) (kept-evicted c.self.inside.is_signed k was.state c.self.invariant.3),
      reported-none k now.new.self.state links c.self.inside.room c.self.inside.reported (ap is_some c.in-None.is),
    )

pub returns-then-self : goal.returns-then-self
returns-then-self c =
    let was = c.self.inside.map in
    let now = c.reset_and_evict in
    let new : Numbers = now.new.self.numbers in
    let links : List Link = c.self.inside.live.entries in
    let lead = lead-still was.numbers new c.law_of_numbers.ensures.named links (still-left (evicted_table was.state.table).entries was.numbers new now.ensures.numbers links c.self.invariant.0 (placed-evicted was.state.table (handles_of was.numbers links) c.self.invariant.1)) in
    record { ended = collected-made c.self.view_is c.args.now now.new.self.state (handles_of new links) now.new.self.pending _ (ap is_some c.in-None.is) c.if-self.true now.ensures.state lead.1 now.ensures.unprepared (search rules) }
