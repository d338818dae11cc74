use Rattle.decomposition.proofs.Checker.{acceptance}
use Rattle.decomposition.proofs.acceptance_stands.Goals as goal

pub returns : goal.returns
returns c = acceptance
