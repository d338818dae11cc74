-- One file for each sketch.
use Rattle.std.proofs.Common.{◌≡◌, ℕ, List, Some, None, Option, sym, refl, ◌∙◌, subst, ap₂}
use Rattle.graph.specs.Rows.{or_else, first_refusal, answered}
use Rattle.graph.specs.declared.dimension.Dimension.{Dimension}
use Rattle.graph.proofs.Reading.{refusal_append}
use Rattle.graph.proofs.Told.{answered_ok}
use Rattle.plan.specs.declared.entry.Entry.{Entry}
use Rattle.file.specs.Contents.{Contents, holding, Within}
use Rattle.file.specs.Files.{file_rows, held, write}
use Rattle.file.proofs.ReadBack.{read_write}
use Rattle.file.proofs.WrittenSo.{write_read}
use Rattle.sketch.specs.Keeping.{contents_rows, Accepted}
use Rattle.sketch.specs.Sketches.{adopt_rows, OneFile}
use Rattle.sketch.proofs.Accepting.{none_refuses, accepted_within}

-- neither of two rows' refusals
neither : {X : Type 0} (a b : Option X) → or_else a b ≡ None → a ≡ None
neither None b e = refl
neither (Some x) b e = e

pub one_file : (c : Contents) → Accepted c → OneFile c
one_file c e = (
  let back = answered_ok (first_refusal (file_rows (write c))) (held (write c)) c (read_write c (accepted_within c e)) in
      let none : first_refusal (adopt_rows (write c)) ≡ None =
      refusal_append (file_rows (write c)) (contents_rows (held (write c)))
      ∙ ap₂ (λ o d. or_else o (first_refusal (contents_rows d))) back.0 back.1
      ∙ none_refuses c e in
      ap₂ answered none back.1,
  λ bs bytes is.
      let a = answered_ok (first_refusal (adopt_rows bs)) (held bs) c is in
      let file = neither (first_refusal (file_rows bs)) (first_refusal (contents_rows (held bs)))
      (sym (refusal_append (file_rows bs) (contents_rows (held bs))) ∙ a.0) in
      sym (write_read bs c bytes (ap₂ answered file a.1)),
)

-- parts that are the contents of a sketch fit a file
pub parts_fit : (c : Contents) → Accepted c → (ks : List ℕ) (ds : List Dimension) (es : List Entry)
    → ks ≡ c.kinds → ds ≡ c.dimensions → es ≡ c.plan → Within (holding ks ds es)
parts_fit c e ks ds es p q r = subst Within (λ i. holding (sym p i) (sym q i) (sym r i)) (accepted_within c e)
