use Rattle.std.proofs.Common.{refl}
use Rattle.plan.specs.Reach.{reached}
use Rattle.plan.specs.Hinges.{hinges}
use Rattle.plan.proofs.check.examples_stand.Goals as goal

pub returns : goal.returns
unfolding reached hinges
returns c = (refl, refl, refl, refl, refl, refl, refl, refl, refl, refl, refl, refl, refl)
