use Rattle.std.proofs.Common.{◌≡◌}
use Rattle.std.proofs.lemmas.Result.{err_from_is_err_and}
use Rattle.graph.specs.Rows.{told}
use Rattle.graph.proofs.Reading.{refusing}
use Rattle.plan.specs.PlanFaults.{plan_refusal}
use Rattle.plan.specs.Entries.{steps}
use Rattle.plan.specs.Check.{check_rows, check_answer}
use Rattle.plan.proofs.Exactly.{behind_list, list_fault, accepting, deciding}
use Rattle.plan.proofs.Complete.{completing}
use Rattle.plan.proofs.check.check.Goals as goal

pub returns-in_err-lawful : goal.returns-in_err-lawful
returns-in_err-lawful c =
    let ks = c.args.list.kinds.now in
    let ds = c.args.list.dimensions.now in
    let plan = c.args.plan.now in
    let r = c.from_residual.result in
    let is = err_from_is_err_and r c.from_residual.ensures.1 in
    let answer : told plan_refusal r ≡ check_answer ks ds plan = rw (is.1, is.2) (list_fault ks ds plan _ c.in_err-lawful.ensures.refused) in
    record {
      answer = answer;
      refuses = refusing (check_rows ks ds plan) (steps plan) (told plan_refusal r) answer;
      accepts = accepting ks ds plan r answer;
      decides = deciding ks ds plan r answer;
      complete = completing ks ds;
    }

pub returns : goal.returns
returns c =
    let ks = c.args.list.kinds.now in
    let ds = c.args.list.dimensions.now in
    let plan = c.args.plan.now in
    let r = c.judge_plan.result in
    let same = c.in_ok-lawful.ensures.same in
    let answer = behind_list ks ds plan r (rw same at c.in_ok-lawful.lawful.lawful) (rw same at c.judge_plan.ensures) in
    record {
      answer = answer;
      refuses = refusing (check_rows ks ds plan) (steps plan) (told plan_refusal r) answer;
      accepts = accepting ks ds plan r answer;
      decides = deciding ks ds plan r answer;
      complete = completing ks ds;
    }
