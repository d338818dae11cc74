use Rattle.plan.proofs.MergeExamples.{examples}
use Rattle.plan.proofs.merge.examples_stand.Goals as goal

pub returns : goal.returns
returns c = examples
