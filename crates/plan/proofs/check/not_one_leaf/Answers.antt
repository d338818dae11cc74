use Rattle.std.proofs.Common.{rules, tests, ℕ, Bool, length, not, eqb, ◌∙◌}
use Rattle.std.specs.List.{count_by}
use Rattle.decomposition.proofs.Lowest.{lowest_agree}
use Rattle.graph.proofs.Found.{lowest_from_find}
use Rattle.plan.specs.PlanRows.{names_dimension, not_one_leaf}
use Rattle.plan.proofs.Counted.{leaves_counted}
use Rattle.plan.proofs.check.not_one_leaf.Goals as goal

pub returns : goal.returns
returns c =
    let plan = c.args.plan.now in
    let test : ℕ → Bool = (λ d. not (eqb (count_by (names_dimension d) plan) 1)) in
    lowest_from_find _ test _ _ _ c.find.ensures.ran (λ x b q k. search (rules, tests))
    ∙ lowest_agree (length c.args.lawful.list.dimensions.now) test (not_one_leaf plan) (λ d l. leaves_counted plan d)
