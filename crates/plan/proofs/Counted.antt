-- How many entries pass a test, counted by their places.
use Rattle.std.proofs.Common.{◌≡◌, ℕ, Bool, not, eqb, List, length, ap}
use Rattle.std.specs.List.{count_by}
use Rattle.decomposition.specs.Sets.{count}
use Rattle.graph.proofs.Found.{count_from_count_by}
use Rattle.plan.specs.Entries.{entry_at, is_step, steps}
use Rattle.plan.specs.PlanRows.{names_entry, names_dimension, not_named_once, not_one_leaf}
use Rattle.plan.specs.declared.entry.Entry.{Entry}
use Rattle.plan.specs.declared.entry.Entry.TheVariants.{Leaf}

counted : (test : Entry → Bool) (plan : List Entry) → count_by test plan ≡ count (length plan) (λ j. test (entry_at plan j))
counted test plan = count_from_count_by test plan (Leaf 0)

pub steps_counted : (plan : List Entry) → count_by is_step plan ≡ steps plan
steps_counted plan = counted is_step plan

pub named_counted : (plan : List Entry) (e : ℕ) → not (eqb (count_by (names_entry e) plan) 1) ≡ not_named_once plan e
named_counted plan e = ap (λ k. not (eqb k 1)) (counted (names_entry e) plan)

pub leaves_counted : (plan : List Entry) (d : ℕ) → not (eqb (count_by (names_dimension d) plan) 1) ≡ not_one_leaf plan d
leaves_counted plan d = ap (λ k. not (eqb k 1)) (counted (names_dimension d) plan)
