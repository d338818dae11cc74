use Rattle.decomposition.proofs.Progress.{never_stuck}
use Rattle.decomposition.proofs.progress_stands.Goals as goal

pub returns : goal.returns
returns c = never_stuck
