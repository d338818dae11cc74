use Rattle.decomposition.proofs.Merged.{planning}
use Rattle.decomposition.proofs.planning_stands.Goals as goal

pub returns : goal.returns
returns c = planning
