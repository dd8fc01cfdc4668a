use Rattle.std.proofs.Common.{◌≡◌, ◌∙◌, ap, sym, subst, refl, drop, true, true≢false, List, [], ◌∷◌, Some}
use Rattle.std.specs.Bool.{beq}
use Rattle.std.specs.List.{AllByRecursion, list_all}
use Rattle.otel_model_stream.specs.Entries.{Entry}
use Rattle.otel_model_stream.specs.Sets.{AttributeSet}
use Rattle.otel_aggregate.specs.Any.{amount_of, any_after_commits, is_signed_value}
use Rattle.otel_aggregate.specs.Kept.{IsWithin, state_of}
use Rattle.otel_aggregate.specs.Links.{handles_of}
use Rattle.otel_aggregate.specs.Streams.{AggregateContents}
use Rattle.otel_aggregate.specs.value_map.Contents.{is_next_placed, next_of}
use Rattle.otel_aggregate.proofs.StepLemmas.{commits-taken, commits-none, stream-commits}
use Rattle.otel_aggregate.proofs.aggregate_stream.AggregateStream.commit_each.Goals as goal
use Rattle.otel_aggregate.proofs.aggregate_stream.AggregateStream.commit_each.Goals.{After-commit_each, then-takes_each, else-takes_each}

next-some : (ss : List AttributeSet) (es : List Entry) → is_next_placed ss es ≡ true → (s : AttributeSet) × (next_of ss ≡ Some s)
next-some [] es e = absurd (true≢false (sym e))
next-some (s ∷ ss) es e = (s, refl)

module _ (c : After-commit_each) where
  -- the set that is prepared next
  next : (s : AttributeSet) × (next_of c.self.inside.map.pending ≡ Some s)
  next = next-some c.self.inside.map.pending c.self.inside.map.state.table.entries (sym c.has_entry.ensures ∙ c.if-not-has_entry.false)

  -- the values that are taken in have the stream's number type, and are all of them, or none if they have the other one
  taken-within : AllByRecursion (λ value. IsWithin c.args.self.now.is_signed (amount_of value).wide) c.if-takes_each.taken.now
  taken-within = elim c.if-takes_each.branch [
    | then-takes_each w ↦ subst (λ t. AllByRecursion (λ value. IsWithin c.args.self.now.is_signed (amount_of value).wide) t.now) (sym w.taken-is) (c.takes_each.ensures.within w.if-takes_each.true)
    | else-takes_each w ↦ subst (λ t. AllByRecursion (λ value. IsWithin c.args.self.now.is_signed (amount_of value).wide) t.now) (sym w.taken-is) tt
  ]

  taken-typed : list_all (λ value. beq (is_signed_value value) c.args.self.now.is_signed) c.if-takes_each.taken.now ≡ true
  taken-typed = elim c.if-takes_each.branch [
    | then-takes_each w ↦ ap (λ t. list_all (λ value. beq (is_signed_value value) c.args.self.now.is_signed) t.now) w.taken-is ∙ (sym c.takes_each.ensures.told ∙ w.if-takes_each.true)
    | else-takes_each w ↦ ap (λ t. list_all (λ value. beq (is_signed_value value) c.args.self.now.is_signed) t.now) w.taken-is
  ]

  taken-same : any_after_commits c.if-takes_each.taken.now c.args.self.now ≡ any_after_commits c.args.values.now c.args.self.now
  taken-same = elim c.if-takes_each.branch [
    | then-takes_each w ↦ ap (λ t. any_after_commits t.now c.args.self.now) w.taken-is
    | else-takes_each w ↦ ap (λ t. any_after_commits t.now c.args.self.now) w.taken-is
        ∙ ap (λ (a : AggregateContents). record a { pending = drop 1 c.args.self.now.pending }) (commits-none c.args.values.now c.args.self.now c.requires.alike (sym c.takes_each.ensures.told ∙ w.if-takes_each.false))
  ]

pub invariant_of-self : goal.invariant_of-self
invariant_of-self c =
    let at = (goal.at.invariant_of-self c).After-commit_each in
    stream-commits c.self.view_is (next at).0 c.if-takes_each.taken.now c.self.inside.map c.commit_each.new.self c.self.inside.live (state_of c.self.inside.reported) (taken-within at)
    (c.commit_each.ensures.measured (next at).0 (next at).1) c.commit_each.ensures.numbers c.self.invariant

pub returns-clause-taken : goal.returns-clause-taken
returns-clause-taken c = λ there.
    let at = (goal.at.returns-clause-taken c).After-commit_each in
    let now = c.commit_each in
    commits-taken c.self.view_is (next at).0 c.if-takes_each.taken.now now.new.self.state _ _ _ (next at).1 (taken-typed at)
    (now.ensures.measured (next at).0 (next at).1) (ap (λ ns. handles_of ns c.self.inside.live.entries) now.ensures.numbers) now.ensures.rest c.counted_each-self-inside.ensures
    ∙ taken-same at
