use Rattle.std.proofs.Common.{false, length, sym, refl, ◌∙◌, arith}
use Rattle.std.proofs.lemmas.Bool.{both_ways, eqb-true, eqb-false}
use Rattle.plan.proofs.Standing.{named_clear, empty_fails, unnamed_fails, stands}
use Rattle.plan.proofs.merge.stands.Goals as goal
use Rattle.plan.proofs.merge.stands.Goals.{then-is_empty-via-then-is_empty, then-is_empty-via-else-is_empty+then-is_some}

pub returns-then-is_empty : goal.returns-then-is_empty
returns-then-is_empty c =
    let l = c.args.lawful in
    let plan = c.args.plan.now in (
      λ e. absurd (both_ways false refl e),
      λ a.
          absurd
          (elim c.then-is_empty.branch [
            | then-is_empty-via-then-is_empty w ↦ empty_fails l.list.kinds.now l.list.dimensions.now plan l.lawful c.requires (eqb-true (length plan) 0 (sym c.is_empty.ensures ∙ w.if-is_empty.true)) a
            | then-is_empty-via-else-is_empty+then-is_some w ↦ unnamed_fails l.list.kinds.now l.list.dimensions.now plan l.lawful c.requires w.not_named_once.result w.not_named_once.ensures (sym w.is_some.ensures ∙ w.if-is_some.true) a
          ]),
    )

pub invariant_of-reaches_all : goal.invariant_of-reaches_all
invariant_of-reaches_all c =
    let l = c.args.lawful in record { named = named_clear l.list.kinds.now l.list.dimensions.now c.args.plan.now l.lawful c.requires }

pub returns : goal.returns
returns c =
    let l = c.args.lawful in
    let plan = c.args.plan.now in
    let some = eqb-false (length plan) 0 (sym c.is_empty.ensures ∙ c.if-is_empty.false) in
    stands l.list.kinds.now l.list.dimensions.now plan l.lawful c.requires (omega arith)
    c.not_named_once.result c.not_named_once.ensures (sym c.is_some.ensures ∙ c.if-is_some.false) c.reaches_all.result c.reaches_all.ensures
