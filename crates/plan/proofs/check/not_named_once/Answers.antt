use Rattle.std.proofs.Common.{rules, tests, ℕ, Bool, not, eqb, ap, ◌∙◌}
use Rattle.std.specs.List.{count_by}
use Rattle.decomposition.proofs.Lowest.{lowest_agree}
use Rattle.graph.specs.Rows.{lowest}
use Rattle.graph.proofs.Found.{lowest_from_find}
use Rattle.plan.specs.PlanRows.{names_entry, not_named_once}
use Rattle.plan.proofs.Counted.{named_counted}
use Rattle.plan.proofs.check.not_named_once.Goals as goal

pub returns : goal.returns
returns c =
    let plan = c.args.plan.now in
    let test : ℕ → Bool = (λ e. not (eqb (count_by (names_entry e) plan) 1)) in
    lowest_from_find _ test _ _ _ c.find.ensures.ran (λ x b q k. search (rules, tests))
    ∙ lowest_agree c.saturating_sub-last.result test (not_named_once plan) (λ e l. named_counted plan e)
    ∙ ap (λ n. lowest n (not_named_once plan)) c.saturating_sub-last.ensures
