use Rattle.graph.proofs.Bits.{has_none}
use Rattle.graph.proofs.element_set.ElementSet.empty.Goals as goal

pub returns : goal.returns
returns c = has_none
