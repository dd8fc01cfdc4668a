use Rattle.std.proofs.Common.{◌≡◌, ◌∙◌, ◌+◌, List, None, is_some, nat_eq, ap, sym, subst}
use mir.Val.{bool_byte}
use Rattle.std.specs.Map.{set_value, remove_entry}
use Rattle.otel_aggregate.specs.Links.{Linked, Place, live_links, ArePlaces}
use Rattle.otel_aggregate.proofs.PlaceLemmas.{end-unplaced, end-live, end-places}
use Rattle.otel_aggregate.proofs.links.end.Goals as goal

pub returns-in_default-clause-links : goal.returns-in_default-clause-links
returns-in_default-clause-links c =
    let places : List Place = c.links.inside.places.entries in
    rw c.get_mut.follows.holds-at-none
    (end-unplaced c.args.handle places c.links.invariant.unique (sym c.in_default.ensures.value) ∙ ap (λ (l : Linked). remove_entry (nat_eq c.args.handle) l.entries) c.links.view_is)

pub invariant_of-links-2 : goal.invariant_of-links-2
invariant_of-links-2 c =
    let places : List Place = c.links.inside.places.entries in
    let entries : (c.get_mut.follows.lender c.take.new.self).entries ≡ set_value (nat_eq c.args.handle) places None =
    (c.get_mut.follows.holds c.take.new.self).0 ∙ ap (set_value (nat_eq c.args.handle) places) c.take.ensures.after in
    let was : c.is_some-was_live.result ≡ is_some c.in-Some.place.now = c.is_some-was_live.ensures ∙ ap is_some c.take.ensures.value in
    subst (λ (ps : List Place). ArePlaces ps (c.links.inside.ended + bool_byte c.is_some-was_live.result)) (sym entries)
    (subst (λ b. ArePlaces (set_value (nat_eq c.args.handle) places None) (c.links.inside.ended + bool_byte b)) (sym was)
    (end-places c.args.handle places c.in-Some.place.now c.links.inside.ended c.links.invariant (sym c.in-Some.ensures.value)))

pub returns-clause-links : goal.returns-clause-links
returns-clause-links c =
    let places : List Place = c.links.inside.places.entries in
    let entries : (c.get_mut.follows.lender c.take.new.self).entries ≡ set_value (nat_eq c.args.handle) places None =
    (c.get_mut.follows.holds c.take.new.self).0 ∙ ap (set_value (nat_eq c.args.handle) places) c.take.ensures.after in
    ap live_links entries ∙ end-live c.args.handle places c.links.invariant.unique ∙ ap (λ (l : Linked). remove_entry (nat_eq c.args.handle) l.entries) c.links.view_is
