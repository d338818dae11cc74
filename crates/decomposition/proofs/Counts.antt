-- How many elements, edges and entries a list and its accepted table have.
use Rattle.std.proofs.Common.{length, arith}
use Rattle.decomposition.specs.Tables.{root}
use Rattle.decomposition.specs.Laws.{CountsLaw}
use Rattle.decomposition.proofs.Sums.{sum_constant}
use Rattle.decomposition.proofs.Corners.{sparse, rigid}
use Rattle.decomposition.proofs.InOrder.{entries_over}
use Rattle.decomposition.proofs.Accepted.{accepted_plan}
use Rattle.decomposition.proofs.Plans.{plan_edges, plan_size, plan_part, plan_nodes, plan_count}

pub counts : CountsLaw
counts lower higher limit n m table proper accepted =
    let plan = accepted_plan lower higher limit n m table proper accepted in
    let t = root table in (
      omega (arith, rigid lower higher n t plan.valid plan.bounded, plan_size lower higher n m t plan, plan_count lower higher n m t plan),
      λ S two.
          let part = plan_part lower higher n m t plan S in
          let few = (sparse lower higher n t plan.valid plan.bounded S).0 (omega arith) in
          omega (arith, plan_edges lower higher n m t plan S),
      omega (arith, entries_over m table accepted.in_order (λ s. 1), sum_constant (length table) 1, plan_nodes lower higher n m t plan),
    )
