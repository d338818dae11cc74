use Rattle.std.proofs.Common.{refl}
use Rattle.std.specs.Fmt.{digits}
use Rattle.sketch.proofs.report.report_examples_stand.Goals as goal

pub returns : goal.returns
unfolding digits
returns c = (refl, refl)
