use Rattle.std.proofs.Common.{◌≡◌, ◌∙◌, ℕ, List, Some, nat_eq, ap, sym, subst}
use Rattle.std.specs.Map.{lookup}
use Rattle.std.specs.Option.{option_flatten}
use Rattle.otel_aggregate.specs.Links.{Linked, Place}
use Rattle.otel_aggregate.proofs.PlaceLemmas.{number_live}
use Rattle.otel_aggregate.proofs.links.number_near.Goals as goal

-- the place is the handle's
pub returns-then-found-handle : goal.returns-then-found-handle
returns-then-found-handle c =
    let places : List Place = c.links.inside.places.entries in
    let there : lookup (nat_eq c.args.handle) places ≡ Some c.in-Some.number.now =
    subst (λ (h : ℕ). lookup (nat_eq h) places ≡ Some c.in-Some.number.now) c.if-found-handle.true c.in-Some.ensures.value in
    ap option_flatten (sym there)
    ∙ number_live c.args.handle places c.links.invariant.unique
    ∙ ap (λ (l : Linked). lookup (nat_eq c.args.handle) l.entries) c.links.view_is
