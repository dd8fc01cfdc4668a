use Rattle.std.proofs.Common.{rules}
use Rattle.otel_prometheus.proofs.LineLemmas.{front_text}
use Rattle.otel_prometheus.proofs.expositions.push_front.Goals as goal

pub returns : goal.returns
returns c =
    front_text c.args.format c.args.family.now c.as_str-2.result.now c.as_str-4.result.now c.kind_word.result.now c.args.out.now.items c.push_help_line.new.out.items c.push_kind.new.out.items
    (search rules) (search rules) (search rules) (search rules) (c.in_ok-push_kind.ensures c.args.format)
