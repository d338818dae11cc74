use Rattle.std.proofs.Common.{◌≡◌, [], ◌∷◌, ◌++◌, arith, get_or, sym, ap, ◌∙◌}
use Rattle.file.specs.Contents.{Contents}
use Rattle.file.specs.Files.{write, read}
use Rattle.file.specs.Parts.{parts_contents}
use Rattle.file.proofs.Filling.{length_body, all_pieces}
use Rattle.file.proofs.ReadBack.{read_write}
use Rattle.file.proofs.encode.encode.Goals as goal

pub returns : goal.returns
returns c =
    let p = c.args.parts in
    let t : Contents = parts_contents p in
    let is : c.put_table-3.new.file.items ≡ write t =
    all_pieces t _ _ _ _ _ _ _ _ (sym (length_body t)) c.new-file.ensures
    c.push.ensures.items
    (c.push-2.ensures.items ∙ ap (λ h. c.push.new.self.items ++ h ∷ []) (ap (λ bs. get_or bs 0 0) c.to_be_bytes.ensures ∙ omega arith))
    (c.push-3.ensures.items ∙ ap (λ l. c.push-2.new.self.items ++ l ∷ []) (ap (λ bs. get_or bs 1 0) c.to_be_bytes.ensures ∙ omega arith))
    c.put_table.ensures.items c.put_table-2.ensures.items c.put_table-3.ensures.items in
    record { answer = is; inverse = ap read is ∙ read_write t p.within }
