use Rattle.decomposition.proofs.Overlap.{overlap}
use Rattle.decomposition.proofs.overlap_stands.Goals as goal

pub returns : goal.returns
returns c = overlap
