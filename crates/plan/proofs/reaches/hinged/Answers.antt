use Rattle.std.proofs.Common.{◌∙◌, arith}
use Rattle.graph.specs.ElementSets.{members}
use Rattle.graph.proofs.Bits.{has_below}
use Rattle.plan.proofs.Hinging.{differ_hinges}
use Rattle.plan.proofs.reaches.hinged.Goals as goal

pub returns : goal.returns
returns c =
    c.differ.ensures
    ∙ differ_hinges (members c.args.a) (members c.args.b) (members c.args.c)
    (λ i. has_below 64 c.args.a.bits i (omega arith))
    (λ i. has_below 64 c.args.b.bits i (omega arith))
    (λ i. has_below 64 c.args.c.bits i (omega arith))
    c.compare.result c.compare-2.result c.compare-3.result c.compare.ensures c.compare-2.ensures c.compare-3.ensures
