use Rattle.std.proofs.Common.{sym, ap, ◌∙◌, arith}
use Rattle.graph.specs.Rows.{first_refusal}
use Rattle.graph.proofs.Told.{answered_ok}
use Rattle.file.specs.Contents.{stored}
use Rattle.file.specs.Files.{Bytes, file_rows, held}
use Rattle.file.proofs.Storing.{accepted}
use Rattle.file.proofs.decode.decode.Goals as goal

pub returns : goal.returns
returns c =
    let bytes : Bytes c.args.bytes.now = λ p. omega (arith, c.type_inv.bytes p) in
    let same = c.of-layout.ensures in
    let free = ap (λ l. first_refusal (file_rows l)) (sym same) ∙ (answered_ok _ _ _ (sym c.in_ok-judge.ensures)).0 in
    let done = accepted c.args.bytes.now free c.tables.result bytes (c.tables.ensures ∙ ap (λ l. stored (held l)) same) in
    record { answer = done.0; within = done.1; inverse = done.2 }
