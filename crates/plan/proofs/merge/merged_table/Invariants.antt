use Rattle.std.proofs.Common.{◌-◌, length}
use Rattle.plan.specs.Drafts.{count, Drafted}
use Rattle.plan.proofs.merge.merged_table.Given as goal

abbrev pub invariant-loop-three : goal.invariant-loop-three
invariant-loop-three l = Drafted (length l.lawful.list.dimensions.now) l.lawful.list.dimensions.now l.draft

abbrev pub decreases-loop-three : goal.decreases-loop-three
decreases-loop-three l = 187 - count l.draft
