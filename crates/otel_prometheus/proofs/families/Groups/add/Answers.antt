use Rattle.std.proofs.Common.{◌≡◌, Some, sym, ◌∙◌, rules}
use Rattle.otel_prometheus.specs.Headings.{heading_of}
use Rattle.otel_prometheus.proofs.StandingLemmas.{hidden_groups_stay, with_family, without_family}
use Rattle.otel_prometheus.proofs.families.Groups.add.Goals as goal

pub returns-in_default : goal.returns-in_default
returns-in_default c = λ seen a. hidden_groups_stay c.args.self.now seen (record { scope = c.args.scope.now; metric = c.args.metric.now }) (sym c.in_ok-heading.ensures ∙ c.in_default.is) a

pub place-requires : goal.place-requires
place-requires c = (c.requires.0, c.requires.1.families)

pub returns-then-not-branch : goal.returns-then-not-branch
returns-then-not-branch c = λ seen a.
    let is : heading_of c.args.metric.now ≡ Some c.in-Some.heading = sym c.in_ok-heading.ensures ∙ c.in-Some.is in
    without_family c.args.self.now _ seen (record { scope = c.args.scope.now; metric = c.args.metric.now }) c.in-Some.heading is a
    (c.in_ok-place.ensures.families seen a.families is)
    (sym (c.in_ok-place.ensures.has_one seen a.families is) ∙ search rules) (search rules)

pub returns-else-not-branch : goal.returns-else-not-branch
returns-else-not-branch c = λ seen a.
    let is : heading_of c.args.metric.now ≡ Some c.in-Some.heading = sym c.in_ok-heading.ensures ∙ c.in-Some.is in
    with_family c.args.self.now c.place.new.self seen (record { scope = c.args.scope.now; metric = c.args.metric.now }) c.in-Some.heading is a
    (c.in_ok-place.ensures.families seen a.families is)
    (sym (c.in_ok-place.ensures.has_one seen a.families is) ∙ search rules) c.in_ok-place.ensures.conflicting
