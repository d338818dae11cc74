-- What merge answers, what it leaves in the caller's table, and the law of merging.
use Rattle.std.specs.Prelude.{◌≡◌, ℕ, ◌⊎◌, ◌↔◌, List, [], ◌∷◌, ◌++◌, length, drop, Ok, Err, Result, ◌≢◌}
use Rattle.decomposition.specs.Merging.{Merged}
use Rattle.graph.specs.Rows.{Row, row_at, refusal, told, AllClear, Refuses}
use Rattle.graph.specs.Lists.{lower_of, higher_of, list_rows}
use Rattle.graph.specs.declared.dimension.Dimension.{Dimension}
use Rattle.graph.specs.declared.refusal.Refusal.{Refusal}
use Rattle.plan.specs.Entries.{nodes, steps}
use Rattle.plan.specs.PlanRows.{few_places}
use Rattle.plan.specs.PlanFaults.{plan_refusal}
use Rattle.plan.specs.Check.{check_answer, point_kinds, plain, triangle, one_step}
use Rattle.plan.specs.declared.entry.Entry.{Entry}
use Rattle.plan.specs.declared.entry.Entry.TheVariants.{Leaf, Step}
use Rattle.plan.specs.declared.faults.PlanFault.{PlanFault}

-- the merging rule

-- the table is what the merging rule makes of the dimensions: first their leaves in order, then steps, each of the lowest three
-- unnamed entries that can be joined where it stands, until no three can be joined
abbrev pub MergedTable : List Dimension → List Entry → Type 0
MergedTable ds plan = Merged (lower_of ds) (higher_of ds) (length ds) (nodes plan)

-- the rule makes exactly one table of the dimensions
abbrev pub OneMerged : List Dimension → Type 0
OneMerged ds = (plan : List Entry) × MergedTable ds plan × ((other : List Entry) → MergedTable ds other → other ≡ plan)

-- plans

-- check accepts the plan for the list
abbrev pub Accepts : List ℕ → List Dimension → List Entry → Type 0
Accepts ks ds plan = check_answer ks ds plan ≡ Ok (steps plan)

-- check accepts no plan whatever for the list
abbrev pub Planless : List ℕ → List Dimension → Type 0
Planless ks ds = (plan : List Entry) (k : ℕ) → check_answer ks ds plan ≢ Ok k

-- answers

-- the rows that merge tries first: those of the list, then that of the table
abbrev pub merge_rows : List ℕ → List Dimension → ℕ → List Row
merge_rows ks ds places = list_rows ks ds ++ row_at 3 18 1 (few_places places) (λ _. places) ∷ []

-- 19: no plan was found
abbrev pub no_plan : Refusal
no_plan = refusal 3 19 0

-- the answer is a refusal exactly when a row refuses with it, or no row holds, check accepts no plan whatever for the list, and it is 19
abbrev pub MergeRefusing : List ℕ → List Dimension → ℕ → Result ℕ Refusal → Type 0
MergeRefusing ks ds places r =
    (x : Refusal) → (r ≡ Err x) ↔ (Refuses (merge_rows ks ds places) x ⊎ (AllClear (merge_rows ks ds places) × Planless ks ds × (x ≡ no_plan)))

-- the answer is k exactly when no row holds, check accepts the rule's one table for the list, and k is the number of its entries
abbrev pub MergeAnswering : List ℕ → List Dimension → ℕ → Result ℕ PlanFault → Type 0
MergeAnswering ks ds places r =
    (plan : List Entry) → MergedTable ds plan
    → (k : ℕ) → (r ≡ Ok k) ↔ (AllClear (merge_rows ks ds places) × Accepts ks ds plan × (k ≡ length plan))

-- the caller's table afterwards: the plan, and then what stood behind it; as it was where merge refuses
abbrev pub filled : List Entry → List Entry → Result ℕ PlanFault → List Entry
filled plan old (Ok k) = plan ++ drop k old
filled plan old (Err f) = old

-- the table afterwards is filled by the rule's one table
abbrev pub MergeFilling : List Dimension → List Entry → List Entry → Result ℕ PlanFault → Type 0
MergeFilling ds old new r = (plan : List Entry) → MergedTable ds plan → new ≡ filled plan old r

-- The law of merging, for a lawful list and a table of enough places.
pub record MergingLaw (ks : List ℕ) (ds : List Dimension) (old new : List Entry) (r : Result ℕ PlanFault) : Type 0 where
  -- merge answers 19 exactly when check accepts no plan whatever for the list
  pub none : (told plan_refusal r ≡ Err no_plan) ↔ Planless ks ds
  -- otherwise as many of the table's first entries as it answers are the plan of the merging rule, and check accepts it
  pub some : (told plan_refusal r ≢ Err no_plan)
      → (plan : List Entry) × MergedTable ds plan × Accepts ks ds plan × (r ≡ Ok (length plan)) × (new ≡ plan ++ drop (length plan) old)

-- examples

-- a square 0, 1 with corners 2, 3 and a brace between these
abbrev pub braced_square : List Dimension
braced_square = plain 0 2 ∷ plain 1 2 ∷ plain 0 3 ∷ plain 1 3 ∷ plain 2 3 ∷ []

-- its plan
abbrev pub square_plan : List Entry
square_plan = Leaf 0 ∷ Leaf 1 ∷ Leaf 2 ∷ Leaf 3 ∷ Leaf 4 ∷ Step 0 2 4 ∷ Step 1 3 5 ∷ []

-- all six pairs of 0 to 3, and 3–4: as many dimensions as five elements need, but one too many on four of them
abbrev pub crowded : List Dimension
crowded = plain 0 1 ∷ plain 0 2 ∷ plain 0 3 ∷ plain 1 2 ∷ plain 1 3 ∷ plain 2 3 ∷ plain 3 4 ∷ []

-- two triangles joined by three dimensions: nowhere too many
abbrev pub prism : List Dimension
prism =
    plain 0 1 ∷ plain 0 2 ∷ plain 1 2 ∷ plain 0 3 ∷ plain 1 4 ∷ plain 3 4 ∷ plain 2 5 ∷ plain 3 5 ∷ plain 4 5 ∷ []

-- what the merging rule makes of small lists, and lists that have no plan
abbrev pub MergeExamples : Type 0
MergeExamples =
    MergedTable (plain 0 1 ∷ []) (Leaf 0 ∷ [])
    × MergedTable triangle one_step
    × MergedTable braced_square square_plan
    × Accepts (point_kinds 4) braced_square square_plan
    × Planless (point_kinds 2) []
    × Planless (point_kinds 5) crowded
    × Planless (point_kinds 6) prism
