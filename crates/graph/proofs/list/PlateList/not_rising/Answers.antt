use Rattle.std.proofs.Common.{rules, tests, leb}
use Rattle.graph.specs.Lists.{dimension}
use Rattle.graph.specs.declared.dimension.Dimension.{Dimension}
use Rattle.graph.proofs.Found.{lowest_from_position}
use Rattle.graph.proofs.list.PlateList.not_rising.Goals as goal

pub returns : goal.returns
returns c =
    lowest_from_position (λ (d : Dimension). leb d.higher d.lower) (dimension 0 0 0) _ _ _ _ c.position.ensures.ran c.iter.ensures.rest
    (λ x b q k. search (rules, tests))
