use Rattle.decomposition.proofs.Writing.{written}
use Rattle.decomposition.proofs.writing_stands.Goals as goal

pub returns : goal.returns
returns c = written
