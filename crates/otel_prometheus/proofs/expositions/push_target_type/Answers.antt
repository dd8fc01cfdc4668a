use Rattle.std.proofs.Common.{codes}
use Rattle.otel_prometheus.specs.Lines.{help, kind}
use Rattle.otel_prometheus.proofs.LineLemmas.{two_lines}
use Rattle.otel_prometheus.proofs.expositions.push_target_type.Goals as goal

pub returns : goal.returns
returns c =
    two_lines c.args.format (help c.args.name.now (codes "Target metadata")) (kind c.args.name.now c.args.word.now) c.args.out.now.items c.push_help.new.out.items c.push_kind.new.out.items
    c.in_ok-push_help.ensures (c.in_ok-push_kind.ensures c.args.format)
