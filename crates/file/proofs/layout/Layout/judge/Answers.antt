use Rattle.std.proofs.Common.{sym, ◌∙◌, arith}
use Rattle.file.proofs.Pieces.{bad_below}
use Rattle.file.proofs.layout.Layout.judge.Goals as goal

pub overflow_mul-result : goal.overflow_mul-result
overflow_mul-result c =
    let below = bad_below c.args.self.bytes.now c.in-Some.entry (sym c.in-Some.is ∙ c.first_bad_entry.ensures) in
    omega (arith, c.args.self.laid)

pub overflow_add-result-in-Some : goal.overflow_add-result-in-Some
overflow_add-result-in-Some c =
    let below = bad_below c.args.self.bytes.now c.in-Some.entry (sym c.in-Some.is ∙ c.first_bad_entry.ensures) in
    omega (arith, c.args.self.laid)
