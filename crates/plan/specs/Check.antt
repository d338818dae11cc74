-- What check answers, and what its answers mean.
use Rattle.std.specs.Prelude.{◌≡◌, ℕ, ◌↔◌, List, [], ◌∷◌, ◌++◌, length, replicate, Ok, Err, Result}
use Rattle.decomposition.specs.Trees.{Tree}
use Rattle.decomposition.specs.Graphs.{Decomposes}
use Rattle.decomposition.specs.Tables.{WritesDown, Accepted}
use Rattle.graph.specs.Limits.{most_entries}
use Rattle.graph.specs.Rows.{Row, refusal, first_refusal, answered, headings, AllClear, Refuses}
use Rattle.graph.specs.Lists.{lower_of, higher_of, list_graph, Lawful, list_rows, dimension}
use Rattle.graph.specs.declared.dimension.Dimension.{Dimension}
use Rattle.graph.specs.declared.refusal.Refusal.{Refusal}
use Rattle.plan.specs.Entries.{nodes, steps}
use Rattle.plan.specs.PlanRows.{plan_rows}
use Rattle.plan.specs.declared.entry.Entry.{Entry}
use Rattle.plan.specs.declared.entry.Entry.TheVariants.{Leaf, Step}
use Rattle.plan.specs.declared.faults.PlanFault.{PlanFault}

-- the rows that check tries: those of the list, then those of the plan
abbrev pub check_rows : List ℕ → List Dimension → List Entry → List Row
check_rows ks ds plan = list_rows ks ds ++ plan_rows ks ds plan

-- the first refusal, or else the number of steps
abbrev pub check_answer : List ℕ → List Dimension → List Entry → Result ℕ Refusal
check_answer ks ds plan = answered (first_refusal (check_rows ks ds plan)) (steps plan)

-- the plan keeps every rule of plans, for the list
abbrev pub AcceptedPlan : List ℕ → List Dimension → List Entry → Type 0
AcceptedPlan ks ds plan = Accepted (lower_of ds) (higher_of ds) most_entries (length ks) (length ds) (nodes plan)

-- the tree is a tree decomposition of the list's graph
abbrev pub TreeDecomposition : List ℕ → List Dimension → Tree → Type 0
TreeDecomposition ks ds t = Decomposes (lower_of ds) (higher_of ds) t (list_graph ks ds)

-- the plan writes down the tree
abbrev pub PlanWrites : List Dimension → List Entry → Tree → Type 0
PlanWrites ds plan t = WritesDown (length ds) (nodes plan) t

-- the answer is a refusal exactly when a row holds at its place, at no lower one, and no earlier row holds anywhere
abbrev pub Refusing : List ℕ → List Dimension → List Entry → Result ℕ Refusal → Type 0
Refusing ks ds plan r = (x : Refusal) → (r ≡ Err x) ↔ Refuses (check_rows ks ds plan) x

-- the answer is k exactly when the list is lawful, the plan keeps every rule, and k is the number of its steps
abbrev pub Accepting : List ℕ → List Dimension → List Entry → Result ℕ PlanFault → Type 0
Accepting ks ds plan r = (k : ℕ) → (r ≡ Ok k) ↔ (Lawful ks ds × AcceptedPlan ks ds plan × (k ≡ steps plan))

-- the answer is k exactly when the list is lawful, the plan writes down a tree decomposition of the list's graph, and k is the number of its steps
abbrev pub Deciding : List ℕ → List Dimension → List Entry → Result ℕ PlanFault → Type 0
Deciding ks ds plan r =
    (k : ℕ) → (r ≡ Ok k) ↔ (Lawful ks ds × ((t : Tree) × PlanWrites ds plan t × TreeDecomposition ks ds t) × (k ≡ steps plan))

-- every tree decomposition of a lawful list's graph is written down by some plan that check accepts
abbrev pub Completing : List ℕ → List Dimension → Type 0
Completing ks ds =
    Lawful ks ds → (t : Tree) → TreeDecomposition ks ds t
    → (plan : List Entry) × PlanWrites ds plan t × (check_answer ks ds plan ≡ Ok (steps plan))

-- the rows stand in rising order, and none holds anywhere exactly where the list is lawful and the plan keeps every rule
abbrev pub RowsLaw : Type 0
RowsLaw =
    (ks : List ℕ) (ds : List Dimension) (plan : List Entry)
    → (headings (check_rows ks ds plan)
    ≡ (2, 7) ∷ (2, 8) ∷ (2, 9) ∷ (2, 10) ∷ (2, 11) ∷ (3, 12) ∷ (3, 13) ∷ (3, 14) ∷ (3, 15) ∷ (3, 16) ∷ (3, 17) ∷ [])
    × (AllClear (check_rows ks ds plan) ↔ (Lawful ks ds × AcceptedPlan ks ds plan))

-- examples

-- the kinds of n points
abbrev pub point_kinds : ℕ → List ℕ
point_kinds n = replicate n 0

-- a dimension of grade 0
abbrev pub plain : ℕ → ℕ → Dimension
plain l h = dimension l h 0

-- three points, each joined to the others
abbrev pub triangle : List Dimension
triangle = plain 0 1 ∷ plain 0 2 ∷ plain 1 2 ∷ []

-- a plan of three leaves and a step
abbrev pub one_step : List Entry
one_step = Leaf 0 ∷ Leaf 1 ∷ Leaf 2 ∷ Step 0 1 2 ∷ []

-- what check answers to small lists and plans
abbrev pub Examples : Type 0
Examples =
    -- layer 2
    (check_answer (0 ∷ []) [] [] ≡ Err (refusal 2 7 0))
    × (check_answer (0 ∷ 2 ∷ []) [] [] ≡ Err (refusal 2 8 1))
    × (check_answer (point_kinds 2) (plain 0 2 ∷ []) [] ≡ Err (refusal 2 9 0))
    × (check_answer (point_kinds 2) (plain 1 1 ∷ []) [] ≡ Err (refusal 2 10 0))
    × (check_answer (point_kinds 2) (plain 0 1 ∷ plain 0 1 ∷ []) [] ≡ Err (refusal 2 11 1))
    -- layer 3
    × (check_answer (point_kinds 2) (plain 0 1 ∷ []) [] ≡ Err (refusal 3 12 0))
    × (check_answer (point_kinds 2) (plain 0 1 ∷ []) (Leaf 1 ∷ []) ≡ Err (refusal 3 13 0))
    × (check_answer (point_kinds 2) (plain 0 1 ∷ []) (Leaf 0 ∷ Leaf 0 ∷ []) ≡ Err (refusal 3 14 0))
    × (check_answer (point_kinds 3) triangle (Leaf 0 ∷ []) ≡ Err (refusal 3 15 1))
    -- three dimensions that meet in one element
    × (check_answer (point_kinds 4) (plain 0 1 ∷ plain 0 2 ∷ plain 0 3 ∷ []) one_step ≡ Err (refusal 3 16 3))
    × (check_answer (point_kinds 3) (plain 0 1 ∷ []) (Leaf 0 ∷ []) ≡ Err (refusal 3 17 0))
    -- accepted: one dimension, and a triangle
    × (check_answer (point_kinds 2) (plain 0 1 ∷ []) (Leaf 0 ∷ []) ≡ Ok 0)
    × (check_answer (point_kinds 3) triangle one_step ≡ Ok 1)
