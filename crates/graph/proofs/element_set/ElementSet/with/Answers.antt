use Rattle.std.proofs.Common.{arith}
use Rattle.graph.proofs.Bits.{has_with}
use Rattle.graph.proofs.element_set.ElementSet.with.Goals as goal

pub returns : goal.returns
returns c j = has_with 64 _ _ j (omega (arith, c.from.ensures, c.if-from-ge-MOST_ELEMENTS.false))
