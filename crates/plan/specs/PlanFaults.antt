-- The faults of a plan in numbers.
use Rattle.graph.specs.Rows.{refusal}
use Rattle.graph.specs.ListFaults.{list_refusal}
use Rattle.graph.specs.declared.refusal.Refusal.{Refusal}
use Rattle.plan.specs.declared.faults.PlanFault.{PlanFault}
use Rattle.plan.specs.declared.faults.PlanFault.TheVariants as is

-- layer, number and place of a fault
abbrev pub plan_refusal : PlanFault → Refusal
plan_refusal (is.List f) = list_refusal f
plan_refusal (is.WrongCount p) = refusal 3 12 p
plan_refusal (is.Misnamed p) = refusal 3 13 p
plan_refusal (is.NotNamedOnce p) = refusal 3 14 p
plan_refusal (is.NotOneLeaf p) = refusal 3 15 p
plan_refusal (is.NotHinged p) = refusal 3 16 p
plan_refusal (is.NotReached p) = refusal 3 17 p
plan_refusal (is.FewPlaces p) = refusal 3 18 p
plan_refusal is.NoPlan = refusal 3 19 0
