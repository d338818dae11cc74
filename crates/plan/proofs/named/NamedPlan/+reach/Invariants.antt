use Rattle.plan.proofs.named.NamedPlan.+reach.Given as goal

abbrev pub decreases-reach : goal.decreases-reach
decreases-reach l = l.entry
