use Rattle.std.proofs.Common.{rules, tests, leb, length, ◌||◌}
use Rattle.graph.specs.Lists.{dimension}
use Rattle.graph.specs.declared.dimension.Dimension.{Dimension}
use Rattle.graph.proofs.Found.{lowest_from_position}
use Rattle.graph.proofs.list.PlateList.unknown_element.Goals as goal

pub returns : goal.returns
returns c =
    let n = length c.args.self.kinds.now in
    lowest_from_position (λ (d : Dimension). leb n d.lower || leb n d.higher) (dimension 0 0 0) _ _ _ _ c.position.ensures.ran c.iter.ensures.rest
    (λ x b q k. search (rules, tests))
