use Rattle.std.proofs.Common.{◌≡◌, ◌∙◌, false, List, ℕ, is_some, ap, sym, subst, true≢false, arith}
use Rattle.std.specs.Prelude.{IsSome}
use Rattle.std.proofs.lemmas.List.{length-map}
use Rattle.otel_model_stream.specs.Events.{held_by}
use Rattle.otel_model_stream.specs.Maps.{bound_to}
use Rattle.otel_aggregate.specs.value_map.Contents.{next_of}
use Rattle.otel_aggregate.specs.value_map.Numbers.{Numbers}
use Rattle.otel_aggregate.specs.Any.{Form, form_of, aggregate_of}
use Rattle.otel_aggregate.specs.Kept.{IsKeptMap}
use Rattle.otel_aggregate.specs.Links.{Link, handle_of, handles_of}
use Rattle.otel_aggregate.specs.Streams.{AggregateContents}
use Rattle.otel_aggregate.proofs.HandleLemmas.{held-few}
use Rattle.otel_aggregate.proofs.KeptLemmas.{kept-bound, reported-none}
use Rattle.otel_aggregate.proofs.StepLemmas.{held-some, held-none, bound-prepared, bind-made, if-undrained, no_bind-room, no_bind-prepared, no_bind-live}
use Rattle.otel_aggregate.proofs.aggregate_stream.AggregateStream.commit_bind.Goals as goal
use Rattle.otel_aggregate.proofs.aggregate_stream.AggregateStream.commit_bind.Goals.{then-not-self-via-then-not-self, then-not-self-via-else-not-self+then-not-is_prepared, then-not-self-via-else-not-self+else-not-is_prepared+then-is_some-2}

pub returns-then-not-self : goal.returns-then-not-self
returns-then-not-self c =
    let m : AggregateContents = c.args.self.now in
    let h : ℕ = c.args.handle in
    let undrained : m.drains ≡ false = sym (ap (λ (x : AggregateContents). x.drains) c.self.view_is) ∙ (sym c.is_some.ensures ∙ c.if-is_some.false) in
    elim c.then-not-self.branch [
      | then-not-self-via-then-not-self w ↦ record { bound = if-undrained m undrained (no_bind-room m h (sym (ap (λ (x : AggregateContents). x.room) c.self.view_is) ∙ w.if-not-self.true)) }
      | then-not-self-via-else-not-self+then-not-is_prepared w ↦ record { bound = if-undrained m undrained (no_bind-prepared m h (sym (ap (λ (x : AggregateContents). is_some (next_of x.pending)) c.self.view_is) ∙ (sym w.is_prepared.ensures ∙ w.if-not-is_prepared.true))) }
      | then-not-self-via-else-not-self+else-not-is_prepared+then-is_some-2 w ↦
          let live = held-some c.self.inside.map.numbers h c.self.inside.live.entries w.number_in.result w.number_in.ensures ∙ (sym w.is_some-else-not-is_prepared.ensures ∙ w.if-is_some-2.true) in
          record { bound = if-undrained m undrained (no_bind-live m h (sym (ap (λ (x : AggregateContents). is_some (held_by h x.live)) c.self.view_is) ∙ live)) }
    ]

pub commit_bind-number-requires-clause-few : goal.commit_bind-number-requires-clause-few
commit_bind-number-requires-clause-few c =
    let old : Numbers = c.self.inside.map.numbers in
    let links : List Link = c.self.inside.live.entries in
    λ s e. held-few c.self.inside.map.state.table (handles_of old links) c.self.invariant.1 (omega (arith, length-map links (handle_of old), c.len.ensures.len, c.len.ensures.small)) (bound_to s c.self.inside.map.state)

pub invariant_of-self : goal.invariant_of-self
invariant_of-self c =
    let map = c.self.inside.map in
    let now = c.commit_bind-number in
    let k : Form = form_of (aggregate_of c.self.inside.settings) in
    let some : IsSome (next_of map.pending) = sym c.is_prepared.ensures ∙ c.if-not-is_prepared.false in
    let made = bound-prepared map.numbers now.new.self.numbers map.state now.new.self.state c.self.inside.live.entries c.args.handle now.result c.self.invariant.0 c.self.invariant.1 now.ensures.numbers c.law_of_numbers.ensures.named c.law_of_numbers.ensures.placed
    (next_of map.pending) c.add-place.new.links.entries some now.ensures.bound now.ensures.number c.add-place.ensures.links in (
      made.linked,
      made.held,
      λ room. absurd (true≢false (sym room)),
      subst (IsKeptMap c.self.inside.is_signed k) (sym made.state) (kept-bound c.self.inside.is_signed k made.set map.state c.self.invariant.3),
      reported-none k now.new.self.state c.add-place.new.links.entries _ c.self.inside.reported (sym c.is_some.ensures ∙ c.if-is_some.false),
    )

pub returns : goal.returns
returns c =
    let map = c.self.inside.map in
    let links : List Link = c.self.inside.live.entries in
    let now = c.commit_bind-number in
    let some : IsSome (next_of map.pending) = sym c.is_prepared.ensures ∙ c.if-not-is_prepared.false in
    let away = held-none map.numbers c.args.handle links c.number_in.result c.number_in.ensures (sym c.is_some-else-not-is_prepared.ensures ∙ c.if-is_some-2.false) in
    let made = bound-prepared map.numbers now.new.self.numbers map.state now.new.self.state links c.args.handle now.result c.self.invariant.0 c.self.invariant.1 now.ensures.numbers c.law_of_numbers.ensures.named c.law_of_numbers.ensures.placed
    (next_of map.pending) c.add-place.new.links.entries some now.ensures.bound now.ensures.number c.add-place.ensures.links in
    let undrained : c.args.self.now.drains ≡ false = sym (ap (λ (x : AggregateContents). x.drains) c.self.view_is) ∙ (sym c.is_some.ensures ∙ c.if-is_some.false) in
    record { bound = if-undrained c.args.self.now undrained (bind-made c.self.view_is c.args.handle now.new.self.state now.new.self.numbers c.add-place.new.links.entries now.new.self.pending c.if-not-self.false away now.ensures.spent made) }
