use Rattle.decomposition.proofs.MergedExists.{merging}
use Rattle.decomposition.proofs.merging_stands.Goals as goal

pub returns : goal.returns
returns c = merging
