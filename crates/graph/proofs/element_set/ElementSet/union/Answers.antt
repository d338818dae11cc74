use Rattle.graph.proofs.Bits.{has_or}
use Rattle.graph.proofs.element_set.ElementSet.union.Goals as goal

pub returns : goal.returns
returns c = has_or _ _
