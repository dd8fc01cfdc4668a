use Rattle.std.proofs.Common.{sym, arith}
use Rattle.otel_prometheus.proofs.StandingLemmas.{names_long, joins_families, joins_has}
use Rattle.otel_prometheus.proofs.families.Groups.place.Goals as goal

pub join-requires : goal.join-requires
join-requires c = omega (arith, c.in-Some.ensures.within, names_long c.args.self.now c.requires.0 c.requires.1)

pub returns-in_ok-joins-in-Some-clause-families : goal.returns-in_ok-joins-in-Some-clause-families
returns-in_ok-joins-in-Some-clause-families c = λ seen a e. joins_families c.args.self.now seen c.args.member c.args.heading e a c.join.new.groups.items c.in-Some.place c.in_ok-joins-in-Some.joins (sym c.in-Some.ensures.index) c.in_ok-joins-in-Some.ensures

pub returns-in_ok-joins-in-Some-clause-has_one : goal.returns-in_ok-joins-in-Some-clause-has_one
returns-in_ok-joins-in-Some-clause-has_one c = λ seen a e. joins_has c.args.self.now seen c.args.member c.args.heading e a c.join.new.groups.items c.in-Some.place c.in_ok-joins-in-Some.joins (sym c.in-Some.ensures.index) c.in_ok-joins-in-Some.ensures
