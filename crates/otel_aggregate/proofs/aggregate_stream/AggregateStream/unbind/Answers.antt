use Rattle.std.proofs.Common.{◌≡◌, ◌∙◌, List, Some, None, ap, sym, subst, arith}
use Rattle.std.specs.List.{AllByRecursion}
use Rattle.otel_model_stream.specs.Sets.{AttributeSet}
use Rattle.otel_model_stream.specs.Events.{Handles, without}
use Rattle.otel_model_stream.specs.Maps.{MapState}
use Rattle.otel_aggregate.specs.value_map.Numbers.{Numbers, number_of, set_named}
use Rattle.otel_aggregate.specs.Any.{Form, form_of, aggregate_of}
use Rattle.otel_aggregate.specs.Kept.{IsKeptMap}
use Rattle.otel_aggregate.specs.Links.{Link, handles_of, IsLinked, AreHeld}
use Rattle.otel_aggregate.specs.Streams.{AggregateContents}
use Rattle.otel_aggregate.proofs.LinkLemmas.{found-linked, linked-without, handles-without}
use Rattle.otel_aggregate.proofs.HandleLemmas.{held-dropped}
use Rattle.otel_aggregate.proofs.KeptLemmas.{kept-unbound, reported-none}
use Rattle.otel_aggregate.proofs.StepLemmas.{held-found, if-undrained, unbind-made, unbind-none}
use Rattle.otel_aggregate.proofs.aggregate_stream.AggregateStream.unbind.Goals as goal

pub invariant_of-self : goal.invariant_of-self
invariant_of-self c =
    let was = c.self.inside.map in
    let old : Numbers = was.numbers in
    let links : List Link = c.self.inside.live.entries in
    let live : Handles = handles_of old links in
    let set : AttributeSet = set_named c.in-Some.number old in
    let linked : number_of set old ≡ Some c.in-Some.number = found-linked old c.args.handle c.in-Some.number links c.self.invariant.0 (sym c.in-Some.ensures) in
    let now = c.unbind in
    let same : old ≡ now.new.self.numbers = sym now.ensures.numbers in
    let left = c.take_out.ensures.links in
    let k : Form = form_of (aggregate_of c.self.inside.settings) in (
      subst (λ (ns : Numbers). AllByRecursion (IsLinked ns) c.take_out.new.links.entries) same (subst (AllByRecursion (IsLinked old)) (sym left) (linked-without old c.args.handle links c.self.invariant.0)),
      subst (λ (ns : Numbers). AreHeld now.new.self.state.table (handles_of ns c.take_out.new.links.entries)) same
          (subst (AreHeld now.new.self.state.table) (sym (ap (handles_of old) left ∙ handles-without old c.args.handle links))
          (subst (λ (m : MapState). AreHeld m.table (without c.args.handle live)) (sym (now.ensures.unbound set linked))
          (held-dropped was.state.table live c.args.handle set (held-found old c.args.handle links (Some c.in-Some.number) c.in-Some.ensures) c.self.invariant.1))),
      λ room. omega (arith, c.self.invariant.2 room, c.take_out.ensures.room),
      subst (IsKeptMap c.self.inside.is_signed k) (sym (now.ensures.unbound set linked)) (kept-unbound c.self.inside.is_signed k set was.state c.self.invariant.3),
      reported-none k now.new.self.state c.take_out.new.links.entries c.self.inside.room c.self.inside.reported (sym c.is_some.ensures ∙ c.if-is_some.false),
    )

pub returns-in-Some : goal.returns-in-Some
returns-in-Some c =
    let old : Numbers = c.self.inside.map.numbers in
    let links : List Link = c.self.inside.live.entries in
    let set : AttributeSet = set_named c.in-Some.number old in
    let linked : number_of set old ≡ Some c.in-Some.number = found-linked old c.args.handle c.in-Some.number links c.self.invariant.0 (sym c.in-Some.ensures) in
    let now = c.unbind in
    record {
      unbound = if-undrained c.args.self.now (sym (ap (λ (x : AggregateContents). x.drains) c.self.view_is) ∙ (sym c.is_some.ensures ∙ c.if-is_some.false)) (unbind-made c.self.view_is c.args.handle set now.new.self.state (handles_of now.new.self.numbers c.take_out.new.links.entries) now.new.self.pending
          (held-found old c.args.handle links (Some c.in-Some.number) c.in-Some.ensures) (now.ensures.unbound set linked) ((λ i. handles_of (now.ensures.numbers i) (c.take_out.ensures.links i)) ∙ handles-without old c.args.handle links) now.ensures.spent);
    }

pub returns-in-None : goal.returns-in-None
returns-in-None c =
    let old : Numbers = c.self.inside.map.numbers in
    let links : List Link = c.self.inside.live.entries in
    let now = c.give_up in
    record {
      unbound = if-undrained c.args.self.now (sym (ap (λ (x : AggregateContents). x.drains) c.self.view_is) ∙ (sym c.is_some.ensures ∙ c.if-is_some.false)) (unbind-none c.self.view_is c.args.handle now.new.self.state (handles_of now.new.self.numbers links) now.new.self.pending
          (held-found old c.args.handle links None c.in-None.ensures) now.ensures.same (ap (λ (ns : Numbers). handles_of ns links) now.ensures.numbers) now.ensures.spent);
    }
