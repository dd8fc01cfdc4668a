use Rattle.std.proofs.Common.{rules}
use Rattle.otel_prometheus.proofs.LineLemmas.{target_text}
use Rattle.otel_prometheus.proofs.expositions.push_target_labels.Goals as goal

pub returns : goal.returns
returns c =
    target_text c.args.format _ _ c.args.labels.now _ c.args.out.now.items c.push_target_front.new.out.items c.push_line.new.out.items
    c.in-Some.ensures.cases.0 c.in_ok-push_target_front.ensures (search rules) c.in_ok-push_line.ensures
