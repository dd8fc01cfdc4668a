use Rattle.std.proofs.Common.{rules, ◌≡◌, ◌∙◌, ap, is_ok, subst, sym}
use Rattle.std.specs.List.{list_any}
use Rattle.otel_common.specs.Equality.{bytes_eq}
use Rattle.otel_aggregate.specs.sets.Sorted.{HasKeysOf}
use Rattle.otel_aggregate.proofs.sets.Searching.{searched}
use Rattle.otel_aggregate.proofs.sets.allowed_keys.AllowedKeys.contains.Goals as goal

pub returns-in-Some : goal.returns-in-Some
returns-in-Some c =
    let key = c.args.key.now in
    let keys = c.self.inside.keys in
    let has : HasKeysOf keys c.in-Some.sorted.items = search rules in
    let list : c.deref.result.now ≡ c.in-Some.sorted.items = search rules in
    let sorted : HasKeysOf keys c.deref.result.now = subst (HasKeysOf keys) (sym list) has in
    let found : c.is_ok.result ≡ is_ok c.binary_search.result = search rules in
    found
    ∙ searched key c.deref.result.now c.binary_search.result sorted.0 c.binary_search.ensures.bound c.binary_search.ensures.position
    ∙ sorted.1 key
    ∙ ap (list_any (bytes_eq key)) c.self.view_is
