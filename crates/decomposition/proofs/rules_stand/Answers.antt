use Rattle.decomposition.proofs.Graphs.{rules}
use Rattle.decomposition.proofs.rules_stand.Goals as goal

pub returns : goal.returns
returns c = rules
