use Rattle.std.proofs.Common.{sym, arith}
use Rattle.graph.specs.ElementSets.{members}
use Rattle.graph.proofs.Bits.{has_below}
use Rattle.plan.proofs.Hinging.{one_shares}
use Rattle.plan.proofs.reaches.sharing_one.Goals as goal

pub returns-in-One : goal.returns-in-One
returns-in-One c =
    sym (one_shares (members c.args.a) (members c.args.b) (λ i. has_below 64 c.args.a.bits i (omega arith)) _ c.in-One.ensures)
