-- A table whose names are in order is accepted exactly when the tree of its last entry keeps the rules.
use Rattle.std.proofs.Common.{ℕ, ◌+◌, ◌*◌, ◌<◌, ◌≤◌, List, length, sym, ◌∙◌, subst, arith}
use Rattle.decomposition.specs.Trees.{Valid, Bounded}
use Rattle.decomposition.specs.Lists.{Proper, Plan}
use Rattle.decomposition.specs.Tables.{Node, tree, node, tree_at, last, root, InOrder, Accepted}
use Rattle.decomposition.proofs.Sums.{sum_constant}
use Rattle.decomposition.proofs.Trees.{bounded_step}
use Rattle.decomposition.proofs.Positions.{position_valid}
use Rattle.decomposition.proofs.Plans.{proper_leaf, plan_nodes}
use Rattle.decomposition.proofs.Entries.{tree_step, every}
use Rattle.decomposition.proofs.InOrder.{root_names, root_names_below, entry_position, entries_over}

module _ (lower higher : ℕ → ℕ) (limit n m : ℕ) (table : List Node) where
  abbrev len : ℕ
  len = length table

  abbrev f : ℕ → Node
  f = node table

  module _ (proper : Proper lower higher n m) (accepted : Accepted lower higher limit n m table) where
    -- each entry's tree is valid and within the n elements
    pub accepted_entry : (e : ℕ) → e < len → Valid lower higher (tree_at table e) × Bounded lower higher n (tree_at table e)
    accepted_entry =
        every f len accepted.in_order.rising (λ t. Valid lower higher t × Bounded lower higher n t)
        (λ e d l q. proper_leaf lower higher n m proper d (accepted.in_order.listed e d l q))
        (λ e a b c l q x y z. (
          (x.0, y.0, z.0, accepted.hinged e a b c l q),
          bounded_step lower higher n (tree f a) (tree f b) (tree f c) x.1 y.1 z.1,
        ))

    -- the tree of an accepted table
    pub accepted_plan : Plan lower higher n m (root table)
    accepted_plan =
        let top = accepted_entry (last table) (omega (arith, accepted.in_order.some)) in
        record {
          valid = top.0;
          bounded = top.1;
          once = λ d l. root_names m table accepted.in_order d ∙ accepted.leaf_once d l;
          only = root_names_below m table accepted.in_order;
          spans = accepted.reaches;
        }

  -- a table in order whose tree keeps the rules is accepted: its entries are the nodes of the tree
  pub plan_accepted : 3 * m ≤ 2 * limit + 1 → InOrder m table → Plan lower higher n m (root table) → Accepted lower higher limit n m table
  plan_accepted room order plan = record {
    in_order = order;
    short = omega (arith, entries_over m table order (λ t. 1), sum_constant len 1, plan_nodes lower higher n m (root table) plan);
    leaf_once = λ d l. sym (root_names m table order d) ∙ plan.once d l;
    hinged = λ e a b c l q.
        let k = entry_position m table order e l in
        let ok = subst (Valid lower higher) (k.1 ∙ tree_step f len order.rising e a b c l q)
        (position_valid lower higher (root table) k.0 plan.valid) in
        ok.3;
    reaches = plan.spans;
  }
