use Rattle.graph.proofs.Lawfully.{judged}
use Rattle.graph.proofs.list.PlateList.judge.Goals as goal

pub returns-clause-lawful : goal.returns-clause-lawful
returns-clause-lawful c = judged _ _ c.first_fault.result c.first_fault.ensures
