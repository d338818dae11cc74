use Rattle.graph.proofs.Reading.{reading}
use Rattle.graph.proofs.list.reading_stands.Goals as goal

pub returns : goal.returns
returns c = reading
