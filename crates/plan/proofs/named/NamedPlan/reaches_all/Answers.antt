use Rattle.std.proofs.Common.{rules, tests}
use Rattle.graph.proofs.Found.{absent_from_all}
use Rattle.plan.proofs.named.NamedPlan.reaches_all.Goals as goal

pub returns : goal.returns
returns c = absent_from_all _ _ _ _ _ c.all.ensures.ran (λ x b q k. search (rules, tests))
