-- Adopting a file: what is refused, and what is put in place.
use Rattle.std.proofs.Common.{◌≡◌, ℕ, List, Some, None, Ok, Err, Result, sym, ap, ◌∙◌, subst, ap₂}
use Rattle.graph.specs.Rows.{or_else, first_refusal, answered, told}
use Rattle.graph.specs.declared.dimension.Dimension.{Dimension}
use Rattle.graph.specs.declared.refusal.Refusal.{Refusal}
use Rattle.graph.proofs.Reading.{refusal_append, refusing}
use Rattle.graph.proofs.Told.{answered_ok, answered_err}
use Rattle.plan.specs.Entries.{steps}
use Rattle.plan.specs.Check.{check_answer}
use Rattle.plan.specs.PlanFaults.{plan_refusal}
use Rattle.plan.specs.declared.entry.Entry.{Entry}
use Rattle.plan.specs.declared.faults.PlanFault.{PlanFault}
use Rattle.file.specs.Contents.{Within, contents, stored}
use Rattle.file.specs.Files.{file_rows, held, read, stored_answer}
use Rattle.file.specs.FileFaults.{file_refusal}
use Rattle.file.specs.declared.faults.FileFault.{FileFault}
use Rattle.file.specs.declared.tables.Tables.{Tables}
use Rattle.file.proofs.Storing.{stored_ok, stored_err, stored_long}
use Rattle.sketch.specs.Keeping.{contents_rows, Accepted, Kept}
use Rattle.sketch.specs.Sketches.{adopt_rows, counted, adopt_answer, tables_after, adopt_after, Adopting}
use Rattle.file.specs.declared.tables.Counts.{Counts}

-- check of what tables hold is check of their contents
pub check_tables : (t : Tables) (ks : List ℕ) (ds : List Dimension) (es : List Entry) (a : Result ℕ Refusal)
    → ks ≡ (contents t).kinds → ds ≡ (contents t).dimensions → es ≡ (contents t).plan → a ≡ check_answer ks ds es
    → a ≡ answered (first_refusal (contents_rows (contents t))) (steps (contents t).plan)
check_tables t ks ds es a p q r e = e ∙ (λ i. check_answer (p i) (q i) (r i))

module _ (bs : List ℕ) where
  parts : first_refusal (adopt_rows bs) ≡ or_else (first_refusal (file_rows bs)) (first_refusal (contents_rows (held bs)))
  parts = refusal_append (file_rows bs) (contents_rows (held bs))

  -- what a refusal answers and leaves
  pub refused_says : (r : Result Counts Refusal) (x : Refusal) → r ≡ Err x → first_refusal (adopt_rows bs) ≡ Some x
      → (r ≡ adopt_answer bs) × ((t : Tables) → t ≡ adopt_after bs t) × Adopting bs r
  refused_says r x is e =
      let answer : r ≡ adopt_answer bs = is ∙ sym (ap (λ o. answered o (counted (held bs))) e) in (
        answer,
        λ t. sym (ap (λ o. tables_after (answered o (held bs)) t) e),
        refusing (adopt_rows bs) (counted (held bs)) r answer,
      )

  -- the file's rows refuse
  pub file_refused : (f : FileFault) → told {X = Tables} file_refusal (Err f) ≡ stored_answer (read bs) → first_refusal (adopt_rows bs) ≡ Some (file_refusal f)
  file_refused f e =
      parts
      ∙ ap (λ o. or_else o (first_refusal (contents_rows (held bs))))
      (answered_err (first_refusal (file_rows bs)) (held bs) (file_refusal f) (stored_err (read bs) (file_refusal f) e))

  module _ (t : Tables) (e : told {F = FileFault} file_refusal (Ok t) ≡ stored_answer (read bs)) where
    -- the file is read: the tables store what it holds
    is_read : (first_refusal (file_rows bs) ≡ None) × (held bs ≡ contents t) × (t ≡ stored (contents t))
    is_read =
        let s = stored_ok (read bs) t e in
        let a = answered_ok (first_refusal (file_rows bs)) (held bs) (contents t) s.0 in
        (a.0, a.1, s.1)

    behind_file : first_refusal (adopt_rows bs) ≡ first_refusal (contents_rows (contents t))
    behind_file =
        parts
        ∙ ap₂ (λ o c. or_else o (first_refusal (contents_rows c))) is_read.0 is_read.1

    -- check refuses
    pub check_refused : (f : PlanFault)
        → told {X = ℕ} plan_refusal (Err f) ≡ answered (first_refusal (contents_rows (contents t))) (steps (contents t).plan)
        → first_refusal (adopt_rows bs) ≡ Some (plan_refusal f)
    check_refused f a = behind_file ∙ answered_err (first_refusal (contents_rows (contents t))) (steps (contents t).plan) (plan_refusal f) (sym a)

    module _ (k : ℕ) (a : told {F = PlanFault} plan_refusal (Ok k) ≡ answered (first_refusal (contents_rows (contents t))) (steps (contents t).plan)) where
      none : first_refusal (contents_rows (contents t)) ≡ None
      none = (answered_ok (first_refusal (contents_rows (contents t))) (steps (contents t).plan) k (sym a)).0

      -- check accepts: the answer, and what is put in place
      pub accepted_says : (was : Tables) → (Ok t.counts ≡ adopt_answer bs) × (t ≡ adopt_after bs was) × Adopting bs (Ok t.counts)
      accepted_says was =
          let same : t.counts ≡ counted (contents t) = ap (λ (u : Tables). u.counts) is_read.2 in
          let clear = behind_file ∙ none in
          let answer : Ok t.counts ≡ adopt_answer bs = ap Ok same ∙ sym (ap₂ (λ o c. answered o (counted c)) clear is_read.1) in (
            answer,
            is_read.2 ∙ sym (ap₂ (λ o c. tables_after (answered o c) was) clear is_read.1),
            refusing (adopt_rows bs) (counted (held bs)) _ answer,
          )

      -- and what the sketch keeps
      pub accepted_kept : Within (contents t) → Kept t
      accepted_kept w =
          let accepted : Accepted (contents t) = ap (λ o. answered o (steps (contents t).plan)) none in
          let same : Accepted (contents (stored (contents t))) = subst (λ u. Accepted (contents u)) is_read.2 accepted in
          subst Kept (sym is_read.2) (stored_long (contents t) w, (w.few_kinds, w.few_dimensions, w.few_entries), same)
