use Rattle.plan.proofs.Joining.{draft_leaf, leaf_count}
use Rattle.plan.proofs.merge.leaves.Goals as goal

pub loop-place-preserved : goal.loop-place-preserved
loop-place-preserved c =
    let inv = c.loop-place.invariant in
    let pushed = c.push_leaf.ensures in (
      draft_leaf c.args.lawful c.loop-place.place c.loop-place.draft c.loop-place-test.true inv.0 inv.1 pushed.0 pushed.1 _ pushed.2,
      leaf_count c.args.lawful c.loop-place.place c.loop-place.draft c.loop-place-test.true inv.0 inv.1 pushed.0 pushed.1 _ pushed.2,
    )
