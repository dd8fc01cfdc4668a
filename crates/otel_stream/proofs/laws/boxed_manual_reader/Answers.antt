use Rattle.std.proofs.Common.{◌≡◌, ◌∙◌, ap, refl, rules}
use denote.Param.Object.{read_made}
use Rattle.otel_stream.specs.Preferences.{temporality_preference}
use Rattle.otel_stream.proofs.laws.boxed_manual_reader.OwnLists.{own-1, at-1-1}
use Rattle.otel_stream.proofs.laws.boxed_manual_reader.Goals as goal

-- the value in the box is the reader, and its entry is that of a manual reader
pub returns : goal.returns
returns c =
    let held : (own-1.entry c.into_dyn_box.result.vtable).1.preference c.into_dyn_box.result.value c.args.kind ≡ temporality_preference c.args.kind c.in_ok-new.field-0.value.temporality =
    read_made own-1 (own-1.entry at-1-1) at-1-1 refl _ (λ j y. j.1.preference y c.args.kind) _ _ _ c.into_dyn_box.ensures.1 in
    let kept : c.in_ok-new.field-0.value ≡ c.args.reader = search rules in
    c.wanted.ensures ∙ held ∙ ap (λ w. temporality_preference c.args.kind w.temporality) kept
