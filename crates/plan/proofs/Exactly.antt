-- What check's answers mean.
use Rattle.std.proofs.Common.{◌≡◌, ℕ, ◌↔◌, List, [], ◌∷◌, ◌++◌, length, Ok, Err, Result, sym, refl, ap, ◌∙◌, ap₂, arith}
use Rattle.decomposition.specs.Trees.{Tree}
use Rattle.decomposition.proofs.Checker.{acceptance}
use Rattle.graph.specs.Rows.{Row, or_else, first_refusal, answered, told, AllClear}
use Rattle.graph.specs.Lists.{lower_of, higher_of, list_rows, Lawful}
use Rattle.graph.specs.ListFaults.{list_refusal}
use Rattle.graph.specs.declared.dimension.Dimension.{Dimension}
use Rattle.graph.specs.declared.faults.ListFault.{ListFault}
use Rattle.graph.specs.declared.list.LawfulList.{LawfulList}
use Rattle.graph.proofs.Reading.{none_clear, clear_none, refusal_append}
use Rattle.graph.proofs.Told.{told_ok, answered_ok, answered_err}
use Rattle.graph.proofs.Lawfully.{clear_lawful, lawful_clear}
use Rattle.plan.specs.Entries.{nodes, steps}
use Rattle.plan.specs.PlanRows.{plan_rows}
use Rattle.plan.specs.PlanFaults.{plan_refusal}
use Rattle.plan.specs.Check.{
  check_rows,
  check_answer,
  AcceptedPlan,
  TreeDecomposition,
  PlanWrites,
  Accepting,
  Deciding,
  RowsLaw,
}
use Rattle.plan.specs.declared.entry.Entry.{Entry}
use Rattle.plan.specs.declared.faults.PlanFault.{PlanFault}
use Rattle.plan.specs.declared.faults.PlanFault.TheVariants as is
use Rattle.plan.proofs.Rules.{clear_accepted, accepted_clear}
use Rattle.plan.proofs.Naming.{Small}

pub clear_append : (rs qs : List Row) → AllClear (rs ++ qs) ↔ (AllClear rs × AllClear qs)
clear_append [] qs = (λ h. (tt, h), λ h. h.1)
clear_append (r ∷ rs) qs =
    let rest = clear_append rs qs in
    (λ h. let k = rest.0 h.1 in ((h.0, k.0), k.1), λ h. (h.0.0, rest.1 (h.0.1, h.1)))

module _ (ks : List ℕ) (ds : List Dimension) where
  pub lawful_small : Lawful ks ds → Small ds
  lawful_small h i l =
      let r = h.proper.rising i l in
      let w = h.proper.within i l in
      let few = h.few in
      (omega arith, omega arith)

  module _ (plan : List Entry) where
    -- no row holds anywhere exactly where the list is lawful and the plan keeps the rules
    pub rows_clear : AllClear (check_rows ks ds plan) ↔ (Lawful ks ds × AcceptedPlan ks ds plan)
    rows_clear = (
      λ h.
          let k = (clear_append (list_rows ks ds) (plan_rows ks ds plan)).0 h in
          let lawful = clear_lawful ks ds k.0 in
          (lawful, clear_accepted ks ds plan (lawful_small lawful) k.1),
      λ h.
          (clear_append (list_rows ks ds) (plan_rows ks ds plan)).1
          (lawful_clear ks ds h.0, accepted_clear ks ds plan (lawful_small h.0) h.1),
    )

    -- check's answer is Ok exactly there
    pub answer_ok : (k : ℕ) → (check_answer ks ds plan ≡ Ok k) ↔ (Lawful ks ds × AcceptedPlan ks ds plan × (k ≡ steps plan))
    answer_ok k = (
      λ e.
          let p = answered_ok (first_refusal (check_rows ks ds plan)) (steps plan) k e in
          let h = rows_clear.0 (none_clear (check_rows ks ds plan) p.0) in
          (h.0, h.1, sym p.1),
      λ h. ap₂ answered (clear_none (check_rows ks ds plan) (rows_clear.1 (h.0, h.1))) (sym h.2),
    )

    module _ (r : Result ℕ PlanFault) (answer : told plan_refusal r ≡ check_answer ks ds plan) where
      pub accepting : Accepting ks ds plan r
      accepting k = (
        λ is. (answer_ok k).0 (sym answer ∙ ap (told plan_refusal) is),
        λ h. told_ok plan_refusal r k (answer ∙ (answer_ok k).1 h),
      )

      pub deciding : Deciding ks ds plan r
      deciding k = (
        λ is. let h = (accepting k).0 is in (h.0, (law h.0).0 h.1, h.2),
        λ h. (accepting k).1 (h.0, (law h.0).1 h.1, h.2),
      )
        where
          -- a plan keeps the rules exactly where it writes down a tree decomposition
          law : Lawful ks ds → AcceptedPlan ks ds plan ↔ ((t : Tree) × PlanWrites ds plan t × TreeDecomposition ks ds t)
          law lawful =
              let short = lawful.short in
              acceptance (lower_of ds) (higher_of ds) 187 (length ks) (length ds) (nodes plan) lawful.proper (omega arith)

    -- the first refusal of the list's rows, or else that of the plan's
    pub answer_parts : check_answer ks ds plan
        ≡ answered (or_else (first_refusal (list_rows ks ds)) (first_refusal (plan_rows ks ds plan))) (steps plan)
    answer_parts = ap (λ o. answered o (steps plan)) (refusal_append (list_rows ks ds) (plan_rows ks ds plan))

    -- behind a lawful list the plan's rows decide
    pub behind_list : (r : Result ℕ PlanFault) → Lawful ks ds → told plan_refusal r ≡ answered (first_refusal (plan_rows ks ds plan)) (steps plan)
        → told plan_refusal r ≡ check_answer ks ds plan
    behind_list r lawful e =
        e
        ∙ sym (answer_parts
        ∙ ap (λ o. answered (or_else o (first_refusal (plan_rows ks ds plan))) (steps plan)) (clear_none (list_rows ks ds) (lawful_clear ks ds lawful)))

    -- a fault of the list is check's
    pub list_fault : (f : ListFault) → answered (first_refusal (list_rows ks ds)) (tt {0}) ≡ Err (list_refusal f)
        → told plan_refusal (Err (is.List f)) ≡ check_answer ks ds plan
    list_fault f e =
        sym (answer_parts
        ∙ ap (λ o. answered (or_else o (first_refusal (plan_rows ks ds plan))) (steps plan))
        (answered_err (first_refusal (list_rows ks ds)) tt (list_refusal f) e))

-- the dimensions of a lawful list fit sets
pub list_small : (l : LawfulList) → Small l.list.dimensions.now
list_small l = lawful_small l.list.kinds.now l.list.dimensions.now l.lawful

pub rows_law : RowsLaw
rows_law ks ds plan = (refl, rows_clear ks ds plan)
