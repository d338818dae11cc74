use Rattle.std.proofs.Common.{rules, tests, ◌<◌, length, take, arith, ◌∙◌}
use Rattle.std.specs.List.{list_any}
use Rattle.decomposition.proofs.Lowest.{lowest_agree}
use Rattle.graph.specs.Lists.{at, dimension, same_pair, repeated_pair}
use Rattle.graph.proofs.Found.{lowest_from_find, any_present}
use Rattle.graph.proofs.list.PlateList.repeated_pair.Goals as goal

pub returns : goal.returns
returns c =
    let ds = c.args.self.dimensions.now in
    lowest_from_find _ (λ i. list_any (λ d. same_pair d (at ds i)) (take i ds)) _ _ _ c.find.ensures.ran (λ x b q k. search (rules, tests))
    ∙ lowest_agree _ _ (repeated_pair ds) (λ k (l : k < length ds). any_present (λ d. same_pair d (at ds k)) ds (dimension 0 0 0) k (omega arith))
