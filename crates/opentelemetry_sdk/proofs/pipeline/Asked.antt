-- What a demand asks for, by its aggregation.
use Rattle.std.proofs.Common.{◌≡◌, ℕ, Bool, true, false, cond, not, ◌&&◌, List, [], ◌∷◌, drop, Option, Some, None, refl, sym, ◌∙◌, ap, subst}
use Rattle.std.specs.Bool.{beq}
use Rattle.otel_data.specs.declared.numbers.NumberValue.{NumberValue}
use Rattle.otel_model_stream.specs.Events.{Event, Handles, held_by, without}
use Rattle.otel_model_stream.specs.Machine.{let_go}
use Rattle.otel_model_stream.specs.Folds.{Amount}
use Rattle.otel_model_stream.specs.Sets.{AttributeSet}
use Rattle.otel_model.specs.Calls.{is_observable}
use Rattle.otel_model.specs.Demands.{Demand}
use Rattle.otel_model.specs.Streams.{is_drained}
use Rattle.otel_aggregate.specs.Any.{is_signed_value, amount_of, any_after_commit, any_after_commits, any_after_update, any_after_unbind, any_with_commits, takes_bound}
use Rattle.otel_aggregate.specs.value_map.Contents.{is_next_placed, next_of}
use Rattle.otel_aggregate.specs.Streams.{AggregateContents, stream_after_unbind, taken_from, unbind_at, update_at}
use Rattle.otel_aggregate.proofs.StepLemmas.{without-none}
use Rattle.opentelemetry_sdk.specs.declared.pipeline.change.Change.TheVariants as change
use Rattle.opentelemetry_sdk.specs.pipeline.Streams.{StreamContents, IsAsked, asked_aggregate, contents_of, with_event, contents_after, contents_after_commit, contents_after_next, contents_with_next, committed_by}

-- the stream in which a handle of this set's entry was used, if there is a set
abbrev used : Option AttributeSet → Amount → AggregateContents → AggregateContents
used o v a = record a { state = update_at o v a.state; pending = [] }

module _ (d : Demand) (a : AggregateContents) (is : IsAsked d a) where
  abbrev held : StreamContents
  held = contents_of d a

  -- ======== the aggregate that was asked for ========
  abbrev asked : AggregateContents → AggregateContents
  asked x = record x { is_signed = d.identity.signed; state = asked_aggregate d x.state; drains = is_drained d }

  whole : a ≡ asked a
  whole = λ i. record a { is_signed = is.signed i; state = is.state i; drains = is.drains i }

  -- what leaves it as it is leaves it the one that was asked for
  asked-still : (f : AggregateContents → AggregateContents) → f (asked a) ≡ asked (f (asked a)) → (is_observable d.identity.kind ≡ true → (f a).live ≡ []) → IsAsked d (f a)
  asked-still f same unheld =
      let now : f a ≡ asked (f a) = ap f whole ∙ same ∙ sym (ap (λ x. asked (f x)) whole) in
      record { state = ap (λ (x : AggregateContents). x.state) now; signed = ap (λ (x : AggregateContents). x.is_signed) now; drains = ap (λ (x : AggregateContents). x.drains) now; unheld = unheld }

  -- ======== a record of a set ========
  -- of the set that is prepared, if there is one
  taken-if : (b : Bool) (o : Option AttributeSet) (v : Amount) → IsAsked d (cond b (taken_from o v a) a) × (contents_of d (cond b (taken_from o v a) a) ≡ cond b (committed_by o v held) held)
  taken-if true None v = (is, refl)
  taken-if true (Some s) v = (asked-still (taken_from (Some s) v) refl is.unheld, ap (λ x. contents_of d (taken_from (Some s) v x)) whole)
  taken-if false o v = (is, refl)

  -- what was prepared stays so
  kept : (v : NumberValue) → IsAsked d (record (any_after_commit v a) { pending = a.pending }) × (contents_of d (record (any_after_commit v a) { pending = a.pending }) ≡ record (contents_after_commit v held) { pending = a.pending })
  kept v =
      let t = taken-if (beq (is_signed_value v) a.is_signed) (next_of a.pending) (amount_of v) in (
        record { state = t.0.state; signed = t.0.signed; drains = t.0.drains; unheld = t.0.unheld },
        ap (λ (h : StreamContents). record h { pending = a.pending }) (t.1 ∙ ap (λ s. cond (beq (is_signed_value v) s) (committed_by (next_of a.pending) (amount_of v) held) held) is.signed),
      )

  -- ======== a record through a handle ========
  -- with what the stream has of the handle
  used-if : (h : ℕ) (b : Bool) (o : Option AttributeSet) (v : Amount) → held_by h a.live ≡ o → contents_of d (cond b (used o v a) a) ≡ cond b (with_event (Event.RecordBound h v) held) held
  used-if h true None v e = rw e refl
  used-if h true (Some g) v e = rw e (ap (λ x. contents_of d (used (Some g) v x)) whole)
  used-if h false o v e = refl

  pub updated : (new : AggregateContents) (h place : ℕ) (value : NumberValue) → new ≡ any_after_update h value a → contents_of d new ≡ contents_after (change.Held h place value) held
  updated new h place value e =
      ap (contents_of d) e
      ∙ used-if h (takes_bound value a) (held_by h a.live) (amount_of value) refl
      ∙ λ i. cond (not (is.drains i) && beq (is_signed_value value) (is.signed i)) (with_event (Event.RecordBound h (amount_of value)) held) held

  -- ======== the end of a handle ========
  -- with what the stream has of it
  ended-as : (h : ℕ) (o : Option AttributeSet) → held_by h a.live ≡ o
      → contents_of d (record a { state = unbind_at o a.state; live = without h a.live; pending = [] })
      ≡ record held { stream = record held.stream { machine = let_go o h held.stream.machine }; pending = [] }
  ended-as h None e = ap (λ (l : Handles). contents_of d (record a { live = l; pending = [] })) (without-none h a.live e)
  ended-as h (Some g) e = refl

  ended-if : (h : ℕ) (b : Bool) → contents_of d (cond b a (stream_after_unbind h a)) ≡ cond b held (with_event (Event.Unbind h) held)
  ended-if h true = refl
  ended-if h false = ended-as h (held_by h a.live) refl

  pub unbind-as : (new : AggregateContents) (h : ℕ) → new ≡ any_after_unbind h a → contents_of d new ≡ contents_after (change.Unbind h) held
  unbind-as new h e = ap (contents_of d) e ∙ ended-if h a.drains ∙ ap (λ b. cond b held (with_event (Event.Unbind h) held)) is.drains

-- ======== records of several values ========
module _ (d : Demand) where
  all-kept : (vs : List NumberValue) (a : AggregateContents) → IsAsked d a → IsAsked d (any_with_commits vs a) × (contents_of d (any_with_commits vs a) ≡ contents_with_next vs (contents_of d a))
  all-kept [] a is = (is, refl)
  all-kept (v ∷ vs) a is =
      let one = kept d a is v in
      let rest = all-kept vs (record (any_after_commit v a) { pending = a.pending }) one.0 in
      (rest.0, rest.1 ∙ ap (contents_with_next vs) one.1)

  pub taken-next : (vs : List NumberValue) (a new : AggregateContents) → IsAsked d a → (is_next_placed a.pending a.state.map_state.table.entries ≡ false → new ≡ a) → (is_next_placed a.pending a.state.map_state.table.entries ≡ true → new ≡ any_after_commits vs a)
      → IsAsked d new × (contents_of d new ≡ contents_after_next vs (contents_of d a))
  taken-next vs a new is idle made = by (is_next_placed a.pending a.state.map_state.table.entries) refl
    where
      by : (b : Bool) → is_next_placed a.pending a.state.map_state.table.entries ≡ b → IsAsked d new × (contents_of d new ≡ cond b (record (contents_with_next vs (contents_of d a)) { pending = drop 1 a.pending }) (contents_of d a))
      by true e =
          let all = all-kept vs a is in (
            subst (IsAsked d) (sym (made e)) (record { state = all.0.state; signed = all.0.signed; drains = all.0.drains; unheld = all.0.unheld }),
            ap (contents_of d) (made e) ∙ ap (λ (h : StreamContents). record h { pending = drop 1 a.pending }) all.1,
          )
      by false e = (subst (IsAsked d) (sym (idle e)) is, ap (contents_of d) (idle e))
