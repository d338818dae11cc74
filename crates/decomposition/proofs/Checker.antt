-- A table is accepted exactly when it writes down a tree decomposition of the list's graph.
use Rattle.std.proofs.Common.{◌<◌, length, sym, subst, arith}
use Rattle.decomposition.specs.Graphs.{graph_of, Decomposes}
use Rattle.decomposition.specs.Tables.{last, root}
use Rattle.decomposition.specs.Laws.{AcceptanceLaw}
use Rattle.decomposition.proofs.InOrder.{root_names_below, stands_for, stands_for_one}
use Rattle.decomposition.proofs.Accepted.{accepted_plan, plan_accepted}
use Rattle.decomposition.proofs.Graphs.{rules}

pub acceptance : AcceptanceLaw
acceptance lower higher limit n m table proper room = (
  λ a.
      let order = a.in_order in
      let top : last table < length table = omega (arith, order.some) in
      let only = root_names_below m table order in (
        root table,
        record { in_order = order; stands_for = stands_for m table order (last table) top },
        (rules lower higher n m proper (root table) only).1 (accepted_plan lower higher limit n m table proper a),
      ),
  λ h.
      let order = h.1.in_order in
      let top : last table < length table = omega (arith, order.some) in
      let only = root_names_below m table order in
      let is = stands_for_one m table order h.0 (last table) top h.1.stands_for in
      let whole = subst (λ t. Decomposes lower higher t (graph_of lower higher n m)) (sym is) h.2 in
      plan_accepted lower higher limit n m table room order ((rules lower higher n m proper (root table) only).0 whole),
)
