use Rattle.std.proofs.Common.{rules, sym}
use Rattle.decomposition.proofs.Lowest.{none_clears}
use Rattle.plan.proofs.Counted.{steps_counted}
use Rattle.plan.proofs.check.judge_plan.Goals as goal

pub invariant_of-named : goal.invariant_of-named
invariant_of-named c = record { named = none_clears _ _ (sym c.in_default.ensures) }

pub returns : goal.returns
returns c = search (rules, steps_counted c.args.plan.now)
