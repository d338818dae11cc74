use Rattle.std.proofs.Common.{sym, ap, ◌∙◌, arith}
use lib.Bits.{bit_and}
use Rattle.graph.specs.ElementSets.{has}
use Rattle.graph.proofs.Bits.{has_none, has_one, has_and}
use Rattle.graph.proofs.Sharing.{nothing, several}
use Rattle.graph.proofs.element_set.ElementSet.compare.Goals as goal

pub returns-then-both-eq0 : goal.returns-then-both-eq0
returns-then-both-eq0 c =
    nothing _ (λ j. sym (has_and c.args.self.bits c.args.other.bits j) ∙ ap (λ x. has x j) c.if-both-eq0.true ∙ has_none j)

pub returns-in-Some : goal.returns-in-Some
returns-in-Some c j =
    sym (has_and c.args.self.bits c.args.other.bits j) ∙ ap (λ x. has x j) c.in-Some.ensures.1 ∙ has_one _ j

pub returns-in-None : goal.returns-in-None
returns-in-None c =
    several (bit_and c.args.self.bits c.args.other.bits) _ (omega arith)
    (has_and c.args.self.bits c.args.other.bits) c.if-both-eq0.false c.in-None.ensures
