use Rattle.std.proofs.Common.{rules, tests, ltb}
use Rattle.graph.proofs.Found.{lowest_from_position}
use Rattle.graph.proofs.list.PlateList.unknown_kind.Goals as goal

pub returns : goal.returns
returns c = lowest_from_position (λ b. ltb 1 b) 0 _ _ _ _ c.position.ensures.ran c.iter.ensures.rest (λ x b q k. search (rules, tests))
