use Rattle.std.proofs.Common.{arith}
use Rattle.graph.proofs.Bits.{trailing_only}
use Rattle.graph.proofs.element_set.ElementSet.only.Goals as goal
use Rattle.graph.proofs.element_set.ElementSet.only.Goals.{
  else-from-lt-MOST_ELEMENTS-via-then-from-lt-MOST_ELEMENTS+else-self-element,
  else-from-lt-MOST_ELEMENTS-via-else-from-lt-MOST_ELEMENTS,
}

pub returns : goal.returns
returns c k e =
    let t = trailing_only 64 c.args.self.bits k (omega arith) e in
    elim c.else-from-lt-MOST_ELEMENTS.branch [
      | else-from-lt-MOST_ELEMENTS-via-then-from-lt-MOST_ELEMENTS+else-self-element w ↦ w.if-self-element.false t.1
      | else-from-lt-MOST_ELEMENTS-via-else-from-lt-MOST_ELEMENTS w ↦ omega (arith, c.from.ensures, t.0)
    ]
