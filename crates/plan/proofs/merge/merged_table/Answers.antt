use Rattle.std.proofs.Common.{sym, subst, arith}
use Rattle.plan.specs.Merge.{MergedTable}
use Rattle.plan.proofs.Exactly.{list_small}
use Rattle.plan.proofs.Joining.{three_below, step_room, step_count, draft_step}
use Rattle.plan.proofs.Merging.{merged_draft}
use Rattle.plan.proofs.merge.merged_table.Goals as goal

pub join-requires : goal.join-requires
join-requires c =
    let d = c.loop-three.draft in
    let h = c.loop-three.invariant in
    record {
      room = step_room c.args.lawful d h c.in-Some.three c.in-Some.ensures;
      below = three_below c.args.lawful d h c.in-Some.three c.in-Some.ensures;
    }

pub loop-three-smaller : goal.loop-three-smaller
loop-three-smaller c =
    let d = c.loop-three.draft in
    let h = c.loop-three.invariant in
    omega (
      arith,
      step_room c.args.lawful d h c.in-Some.three c.in-Some.ensures,
      step_count c.args.lawful d h c.in-Some.three c.in-Some.ensures _ c.join.ensures,
    )

pub loop-three-preserved : goal.loop-three-preserved
loop-three-preserved c = draft_step c.args.lawful c.loop-three.draft c.loop-three.invariant c.in-Some.three c.in-Some.ensures _ c.join.ensures

pub returns : goal.returns
returns c =
    let l = c.args.lawful in
    subst (MergedTable l.list.dimensions.now) (sym c.plan.ensures)
    (merged_draft l.list.dimensions.now (list_small l) c.loop-three.draft c.loop-three.invariant c.in_default.ensures)
