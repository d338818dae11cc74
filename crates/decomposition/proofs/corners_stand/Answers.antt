use Rattle.decomposition.proofs.Corners.{corners}
use Rattle.decomposition.proofs.corners_stand.Goals as goal

pub returns : goal.returns
returns c = corners
