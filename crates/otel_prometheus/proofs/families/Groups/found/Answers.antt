use Rattle.std.proofs.Common.{true, false, sym, rules}
use Rattle.otel_prometheus.proofs.StandingLemmas.{refused_is, refused_families, refused_has, new_families, new_has}
use Rattle.otel_prometheus.proofs.families.Groups.found.Goals as goal

pub returns-then-is_refused-clause-families : goal.returns-then-is_refused-clause-families
returns-then-is_refused-clause-families c = λ seen a e.
    refused_families c.args.self.now seen c.args.member c.args.heading e a (refused_is c.args.self.now seen c.args.member c.args.heading e a true c.is_refused.result c.as_slice.result.now c.if-is_refused.true c.is_refused.ensures (search rules))

pub returns-then-is_refused-clause-has_one : goal.returns-then-is_refused-clause-has_one
returns-then-is_refused-clause-has_one c = λ seen a e.
    sym (refused_has c.args.self.now seen c.args.member c.args.heading e a (refused_is c.args.self.now seen c.args.member c.args.heading e a true c.is_refused.result c.as_slice.result.now c.if-is_refused.true c.is_refused.ensures (search rules)))

pub returns-clause-families : goal.returns-clause-families
returns-clause-families c = λ seen a e.
    new_families c.args.self.now seen c.args.member c.args.heading e a (refused_is c.args.self.now seen c.args.member c.args.heading e a false c.is_refused.result c.as_slice.result.now c.if-is_refused.false c.is_refused.ensures (search rules))
    c.push.new.self.items c.note.new.names.keys c.note_each.new.names.keys (search rules) (search rules) (search rules)

pub returns-clause-has_one : goal.returns-clause-has_one
returns-clause-has_one c = λ seen a e.
    sym (new_has c.args.self.now seen c.args.member c.args.heading e a (refused_is c.args.self.now seen c.args.member c.args.heading e a false c.is_refused.result c.as_slice.result.now c.if-is_refused.false c.is_refused.ensures (search rules)))
