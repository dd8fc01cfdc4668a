use Rattle.std.proofs.Common.{◌≡◌, ◌≤◌, ◌++◌, ◌∷◌, ℕ, List, [], Option, Some, None, IfSome, length, map, drop, arith, rules}
use Rattle.std.proofs.lemmas.Grind.{common_steps}
use Rattle.std.proofs.lemmas.List.{take-append-le, length-append}
use Rattle.indexmap.specs.IndexMap.{keys}
use Rattle.opentelemetry_sdk.specs.Groups.{AreGrouped, GroupsContents}
use Rattle.opentelemetry_sdk.specs.Waiting.{record_in}
use Rattle.opentelemetry_sdk.specs.declared.metrics.shared.pending.PendingRecord.{PendingRecord}
use Rattle.opentelemetry_sdk.specs.declared.metrics.shared.series.Series.{Series}
use Rattle.opentelemetry_sdk.proofs.metrics.shared.waiting.Waiting.push.Goals as goal

-- a record that is added leaves the first ones as they are
module _ (e n m : ℕ) (ss : List Series) (rs more : List PendingRecord) where
  grouped-more : (o : Option GroupsContents) → IfSome o (AreGrouped (record { emptied = e; series = ss; records = rs; room = n }))
      → IfSome o (AreGrouped (record { emptied = e; series = ss; records = rs ++ more; room = m }))
  grouped-more None are = tt
  grouped-more (Some g) are = record {
    listed = are.listed;
    within = omega (arith, are.within, length-append rs more);
    are = let h : g.records ≤ length rs = are.within in rw take-append-le are.are;
    known = are.known;
    groups = are.groups;
    alike = are.alike;
  }

pub invariant_of-self-2 : goal.invariant_of-self-2
invariant_of-self-2 c =
    let w = c.self-2.inside in
    let f = record_in (keys w.series) in
    let added : map f (drop w.made c.push.new.self.items) ≡ map f (drop w.made w.records.items) ++ f c.args.given ∷ [] = grind (arith, common_steps) in (
      search rules,
      grind (arith, common_steps),
      c.self-2.invariant.2,
      (λ none. rw added (grouped-more w.emptied _ _ (keys w.series) (map f (drop w.made w.records.items)) (f c.args.given ∷ []) w.groups (c.self-2.invariant.3 none))),
    )
