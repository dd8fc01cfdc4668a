use Rattle.std.proofs.Common.{◌≡◌, ◌∙◌, ◌+◌, ◌∷◌, [], ◌++◌, List, Some, None, length, cond, nat_eq, ap}
use mir.Val.{bool_byte}
use Rattle.std.specs.Map.{lookup}
use Rattle.indexmap.proofs.CallerLemmas.{insert_entry-new}
use Rattle.otel_aggregate.specs.Links.{Linked, Place, live_links}
use Rattle.otel_aggregate.proofs.PlaceLemmas.{test-number, forgotten-live, some-ended, added-live, added-places}
use Rattle.otel_aggregate.proofs.links.add.Goals as goal

pub overflow_sub-links : goal.overflow_sub-links
overflow_sub-links c =
    let places : List Place = c.links.inside.places.entries in
    let absent : lookup (nat_eq c.args.handle) (live_links places) ≡ None = ap (λ (l : Linked). lookup (nat_eq c.args.handle) l.entries) c.links.view_is ∙ c.requires.absent in
    let same : live_links c.shift_remove.new.self.entries ≡ live_links places = ap live_links c.shift_remove.ensures.entries ∙ forgotten-live c.args.handle places absent in
    let gone : length c.shift_remove.new.self.entries + bool_byte c.is_some-had_place.result ≡ length places =
    ap (λ n. length c.shift_remove.new.self.entries + n) (test-number c.is_some-had_place.result ∙ ap (λ b. cond b 1 0) c.is_some-had_place.ensures) ∙ c.shift_remove.ensures.len in
    some-ended places c.shift_remove.new.self.entries c.links.inside.ended (bool_byte c.is_some-had_place.result) c.links.invariant same gone

pub invariant_of-links : goal.invariant_of-links
invariant_of-links c =
    let places : List Place = c.links.inside.places.entries in
    let absent : lookup (nat_eq c.args.handle) (live_links places) ≡ None = ap (λ (l : Linked). lookup (nat_eq c.args.handle) l.entries) c.links.view_is ∙ c.requires.absent in
    let same : live_links c.shift_remove.new.self.entries ≡ live_links places = ap live_links c.shift_remove.ensures.entries ∙ forgotten-live c.args.handle places absent in
    let gone : length c.shift_remove.new.self.entries + bool_byte c.is_some-had_place.result ≡ length places =
    ap (λ n. length c.shift_remove.new.self.entries + n) (test-number c.is_some-had_place.result ∙ ap (λ b. cond b 1 0) c.is_some-had_place.ensures) ∙ c.shift_remove.ensures.len in
    let pushed : c.insert.new.self.entries ≡ c.shift_remove.new.self.entries ++ (c.args.handle, Some c.args.number) ∷ [] =
    (rw c.unwrap.ensures at c.insert.ensures.entries) ∙ insert_entry-new nat_eq c.shift_remove.new.self c.args.handle (Some c.args.number) c.shift_remove.ensures.updates.1 in
    added-places c.args.handle c.args.number places c.shift_remove.new.self.entries c.insert.new.self.entries c.links.inside.ended (bool_byte c.is_some-had_place.result) c.links.invariant same gone pushed c.insert.ensures.unique

pub returns : goal.returns
returns c =
    let places : List Place = c.links.inside.places.entries in
    let absent : lookup (nat_eq c.args.handle) (live_links places) ≡ None = ap (λ (l : Linked). lookup (nat_eq c.args.handle) l.entries) c.links.view_is ∙ c.requires.absent in
    let same : live_links c.shift_remove.new.self.entries ≡ live_links places = ap live_links c.shift_remove.ensures.entries ∙ forgotten-live c.args.handle places absent in
    let pushed : c.insert.new.self.entries ≡ c.shift_remove.new.self.entries ++ (c.args.handle, Some c.args.number) ∷ [] =
    (rw c.unwrap.ensures at c.insert.ensures.entries) ∙ insert_entry-new nat_eq c.shift_remove.new.self c.args.handle (Some c.args.number) c.shift_remove.ensures.updates.1 in
    record {
      links = added-live c.args.handle c.args.number places c.shift_remove.new.self.entries c.insert.new.self.entries same pushed
          ∙ ap (λ (l : Linked). l.entries ++ (c.args.handle, c.args.number) ∷ []) c.links.view_is;
    }
