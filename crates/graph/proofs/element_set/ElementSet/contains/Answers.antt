use Rattle.std.proofs.Common.{◌≤◌, sym, ◌∙◌, arith}
use Rattle.std.proofs.lemmas.Bool.{le-ltb}
use Rattle.graph.proofs.Bits.{has_read, has_past}
use Rattle.graph.proofs.element_set.ElementSet.contains.Goals as goal

pub returns-then-from-lt-MOST_ELEMENTS : goal.returns-then-from-lt-MOST_ELEMENTS
returns-then-from-lt-MOST_ELEMENTS c = has_read _ _

pub returns-else-from-lt-MOST_ELEMENTS : goal.returns-else-from-lt-MOST_ELEMENTS
returns-else-from-lt-MOST_ELEMENTS c =
    let past : 64 ≤ c.args.element = omega (arith, c.from.ensures, c.if-from-lt-MOST_ELEMENTS.false) in
    le-ltb _ _ (omega (arith, past)) ∙ sym (has_past 64 c.args.self.bits c.args.element (omega arith) past)
