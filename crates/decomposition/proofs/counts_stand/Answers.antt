use Rattle.decomposition.proofs.Counts.{counts}
use Rattle.decomposition.proofs.counts_stand.Goals as goal

pub returns : goal.returns
returns c = counts
