use Rattle.std.proofs.Common.{◌∙◌, ap, append_assoc, List, ℕ, [], ◌∷◌, ◌++◌}
use Rattle.opentelemetry_sdk.specs.pipeline.Pipelines.{Piped, part_by}
use Rattle.opentelemetry_sdk.proofs.pipeline.Meets.{met-built}
use Rattle.opentelemetry_sdk.proofs.pipeline.Pipeline.build.Goals as goal

-- the new instrument is the last one
pub returns-clause-longer : goal.returns-clause-longer
returns-clause-longer c =
    let longer = c.meet_all.ensures.longer in
    rw (← c.self.view_is) (record {
      added = longer.added;
      fed = longer.fed ++ c.in_ok-feeds.feeds.items ∷ [];
      answers = ap (λ (p : Piped). p.answers) c.self-2.view_is ∙ longer.answers;
      streams = ap (λ (p : Piped). p.streams) c.self-2.view_is ∙ longer.streams;
      feeds = c.in_ok-push.ensures.items ∙ ((λ i. (ap (λ (p : Piped). p.feeds) c.self-2.view_is ∙ longer.feeds) i ++ c.from.ensures i ∷ []) ∙ append_assoc c.self.inside.feeds.items longer.fed (c.in_ok-feeds.feeds.items ∷ []));
    })

pub returns-clause-built : goal.returns-clause-built
returns-clause-built c =
    let ns : List ℕ = c.in_ok-feeds.feeds.items in
    rw (← c.self.view_is)
    (ap (part_by c.self-2.inside.answers c.self-2.inside.streams.items) (c.in_ok-push.ensures.items ∙ ap (λ ns. c.self-2.inside.feeds.items ++ ns ∷ []) c.from.ensures)
    ∙ (ap (λ (p : Piped). part_by p.answers p.streams (p.feeds ++ ns ∷ [])) c.self-2.view_is ∙ met-built c.args.now _ _ c.meet_all.new.self ns c.in_ok-feeds.ensures.met))
