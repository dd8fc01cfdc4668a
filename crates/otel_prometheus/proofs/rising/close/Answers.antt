use Rattle.std.proofs.Common.{◌++◌, [], ◌∷◌, slice_set, ap, sym, ◌∙◌, rules}
use Rattle.otel_prometheus.proofs.RisingLemmas.{in_braces}
use Rattle.otel_prometheus.proofs.rising.close.Goals as goal

pub returns : goal.returns
returns c =
    λ before labels at e.
    c.in_ok-extend_from_slice.ensures.items
    ∙ (ap (λ n. slice_set c.args.out.now.items n 123 ++ 125 ∷ []) (sym at) ∙ in_braces labels before c.args.out.now.items e (search (rules, at)))
