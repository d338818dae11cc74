use Rattle.plan.proofs.Exactly.{rows_law}
use Rattle.plan.proofs.check.rows_stand.Goals as goal

pub returns : goal.returns
returns c = rows_law
