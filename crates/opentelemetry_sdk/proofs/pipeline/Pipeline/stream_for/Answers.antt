use Rattle.std.proofs.Common.{◌≡◌, ◌∙◌, rules, refl, ap, sym, arith, length, Some, None, List, Bool, false, cond, [], ◌∷◌, ◌++◌, is_some}
use Rattle.std.proofs.lemmas.List.{map-append, length-append}
use Rattle.std.specs.List.{list_any}
use Rattle.otel_model.specs.Demands.{Identity}
use Rattle.otel_model.specs.Streams.{is_delta}
use Rattle.opentelemetry_sdk.specs.pipeline.Pipelines.{identity_of, stream_identities, stream_number}
use Rattle.opentelemetry_sdk.specs.pipeline.Streams.{StreamContents, new_contents}
use Rattle.otel_model.proofs.Amounts.{each_push}
use Rattle.opentelemetry_sdk.proofs.pipeline.Builds.{any-position}
use Rattle.opentelemetry_sdk.proofs.pipeline.Identities.{position-same, test_of}
use Rattle.opentelemetry_sdk.proofs.pipeline.Meets.{met-known, met-new}
use Rattle.opentelemetry_sdk.proofs.pipeline.Pipeline.stream_for.Goals as goal

-- the identity has a stream
pub returns-in-Some-clause-met : goal.returns-in-Some-clause-met
returns-in-Some-clause-met c =
    let x : Identity = c.args.demand.identity in
    let number : stream_number x (stream_identities c.self.inside.streams.items) ≡ Some c.in-Some.number =
    ap (stream_number x) (sym c.self.invariant.0) ∙ (sym (position-same _ c.kind_laws.ensures.equal x c.self.inside.identities.keys) ∙ (sym c.get_index_of.ensures.index ∙ c.in-Some.is)) in
    rw (← c.self.view_is) (met-known c.args.now c.args.demand _ c.in-Some.number number)

-- or it gets one
pub returns-clause-met : goal.returns-clause-met
returns-clause-met c =
    let x : Identity = c.args.demand.identity in
    let ks : List StreamContents = c.self.inside.streams.items in
    let fresh : StreamContents = new_contents (is_delta c.self.inside.answers c.args.demand) c.args.demand c.args.now in
    let none : stream_number x (stream_identities ks) ≡ None =
    ap (stream_number x) (sym c.self.invariant.0) ∙ (sym (position-same _ c.kind_laws.ensures.equal x c.self.inside.identities.keys) ∙ (sym c.get_index_of.ensures.index ∙ c.in_default.is)) in
    let stream : c.in_ok-stream.stream ≡ fresh = c.in_ok-stream.ensures.made ∙ ap (λ (b : Bool). new_contents b c.args.demand c.args.now) c.temporality_of-temporality.ensures in
    let streams : c.push_reserved.new.self.items ≡ ks ++ fresh ∷ [] = c.push_reserved.ensures.items ∙ (λ i. c.in_ok-reserve_one.ensures.items i ++ stream i ∷ []) in
    let many : c.len-number.result ≡ length ks = omega (arith, c.len-number.ensures) in
    rw (← c.self.view_is, streams, many) (met-new c.args.now c.args.demand (is_delta c.self.inside.answers c.args.demand) _ none c.self.invariant.1)

pub invariant_of-self-2 : goal.invariant_of-self-2
invariant_of-self-2 c =
    let x : Identity = c.args.demand.identity in
    let ks : List StreamContents = c.self.inside.streams.items in
    let fresh : StreamContents = new_contents (is_delta c.self.inside.answers c.args.demand) c.args.demand c.args.now in
    let stream : c.in_ok-stream.stream ≡ fresh = c.in_ok-stream.ensures.made ∙ ap (λ (b : Bool). new_contents b c.args.demand c.args.now) c.temporality_of-temporality.ensures in
    let streams : c.push_reserved.new.self.items ≡ ks ++ fresh ∷ [] = c.push_reserved.ensures.items ∙ (λ i. c.in_ok-reserve_one.ensures.items i ++ stream i ∷ []) in
    let absent : list_any _ c.self.inside.identities.keys ≡ false = sym (any-position _ c.self.inside.identities.keys) ∙ ap is_some (sym c.get_index_of.ensures.index ∙ c.in_default.is) in
    let same : c.in_ok-identity.identity ≡ x = search rules in
    let keys : c.insert.new.self.keys ≡ stream_identities (ks ++ fresh ∷ []) =
    c.in_ok-insert.ensures.keys
    ∙ (ap (λ b. cond b c.self.inside.identities.keys (c.self.inside.identities.keys ++ c.in_ok-identity.identity ∷ [])) (ap (λ y. list_any (test_of _ c.kind_laws.ensures.equal y) c.self.inside.identities.keys) same ∙ absent)
    ∙ ((λ i. c.self.invariant.0 i ++ same i ∷ []) ∙ sym (map-append identity_of ks (fresh ∷ [])))) in
    rw streams (
      keys,
      (λ k ns h j n l. let q = c.self.invariant.1 k ns h j n l in omega (arith, length-append {A = StreamContents})),
      each_push (λ (k : StreamContents). k.resets ≡ is_delta c.self.inside.answers k.stream.demand) ks fresh c.self.invariant.2 refl,
      c.self.invariant.3,
    )

-- a refused insertion leaves the keys
pub invariant_of-self-in_err-insert : goal.invariant_of-self-in_err-insert
invariant_of-self-in_err-insert c =
    let keys : c.insert.new.self.keys ≡ c.self.inside.identities.keys = search rules in
    rw (keys, c.in_ok-reserve_one.ensures.items) c.self.invariant
