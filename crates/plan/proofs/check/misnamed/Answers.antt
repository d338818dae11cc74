use Rattle.std.proofs.Common.{rules, tests, length, ◌∙◌}
use Rattle.std.proofs.lemmas.Iterator.{YieldsList-from_slice}
use Rattle.std.proofs.lemmas.Iterator.Consumers.{YieldsList-from_enumerate}
use Rattle.std.proofs.lemmas.Iterator.Search.{position_from_yields_List}
use Rattle.graph.proofs.Found.{lowest_enumerated}
use Rattle.plan.specs.PlanRows.{misnames}
use Rattle.plan.specs.declared.entry.Entry.TheVariants.{Leaf}
use Rattle.plan.proofs.check.misnamed.Goals as goal

pub returns : goal.returns
returns c =
    let n = length c.args.lawful.list.dimensions.now in
    position_from_yields_List (λ p. misnames n p.0 p.1) _ _ _ c.position.ensures.ran
    (YieldsList-from_enumerate (YieldsList-from_slice c.args.plan.now cc) cc) (λ x b q k. search (rules, tests))
    ∙ lowest_enumerated (misnames n) (Leaf 0) c.args.plan.now
