use Rattle.plan.proofs.Exactly.{list_small}
use Rattle.plan.proofs.Reaching.{leaf_set, step_set}
use Rattle.plan.proofs.named.NamedPlan.+reach.Goals as goal

pub returns-in-Leaf : goal.returns-in-Leaf
returns-in-Leaf t c =
    let l = c.args.self.lawful in
    leaf_set l.list.dimensions.now c.args.self.plan.now c.args.self.named (list_small l)
    c.ends.result c.args.entry c.in-Leaf.place c.requires c.in-Leaf.is (rw c.from.ensures at c.ends.ensures)

pub returns-in-Step : goal.returns-in-Step
returns-in-Step t c =
    let l = c.args.self.lawful in
    step_set l.list.dimensions.now c.args.self.plan.now c.args.self.named (list_small l)
    c.reach-a.result c.reach-b.result c.reach-c.result c.union.result c.union-in-Step.result
    c.args.entry c.in-Step.first c.in-Step.second c.in-Step.third
    c.requires c.in-Step.is
    (rw c.from-in-Step.ensures at c.reach-a.ensures) (rw c.from-in-Step-2.ensures at c.reach-b.ensures) (rw c.from-in-Step-3.ensures at c.reach-c.ensures)
    c.union.ensures c.union-in-Step.ensures
