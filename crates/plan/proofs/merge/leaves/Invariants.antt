use Rattle.std.proofs.Common.{◌≡◌}
use Rattle.plan.specs.Drafts.{count, Drafted}
use Rattle.plan.proofs.merge.leaves.Given as goal

abbrev pub invariant-loop-place : goal.invariant-loop-place
invariant-loop-place l = Drafted l.place l.lawful.list.dimensions.now l.draft × (count l.draft ≡ l.place)
