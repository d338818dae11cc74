use Rattle.std.proofs.Common.{rules, tests}
use Rattle.graph.proofs.Found.{lowest_from_find}
use Rattle.plan.proofs.named.NamedPlan.not_hinged.Goals as goal

pub returns : goal.returns
returns c = lowest_from_find _ _ _ _ _ c.find.ensures.ran (λ x b q k. search (rules, tests))
