use Rattle.std.proofs.Common.{rules, ◌≡◌, ◌∙◌, List, filter, ap, sym, subst}
use Rattle.std.proofs.lemmas.Map.Made.{filter_same_pairs}
use Rattle.otel_aggregate.specs.Links.{Linked, Place, live_links, ArePlaces}
use Rattle.otel_aggregate.proofs.PlaceLemmas.{is_live, cleared-live, cleared-places}
use Rattle.otel_aggregate.proofs.links.take_out.Goals as goal

pub invariant_of-links : goal.invariant_of-links
invariant_of-links c =
    let places : List Place = c.links.inside.places.entries in
    let left : c.retain.new.self.entries ≡ filter is_live places = filter_same_pairs _ is_live _ (λ k v b w f call. search rules) _ _ c.retain.ensures.filtered in
    subst (λ (ps : List Place). ArePlaces ps 0) (sym left) (cleared-places places c.links.inside.ended c.links.invariant)

pub returns-then-links-capacity-clause-links : goal.returns-then-links-capacity-clause-links
returns-then-links-capacity-clause-links c =
    let places : List Place = c.links.inside.places.entries in
    let left : c.retain.new.self.entries ≡ filter is_live places = filter_same_pairs _ is_live _ (λ k v b w f call. search rules) _ _ c.retain.ensures.filtered in
    ap live_links left ∙ cleared-live places ∙ ap (λ (l : Linked). l.entries) c.links.view_is ∙ c.end.ensures.links
