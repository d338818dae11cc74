-- The laws of tree decompositions, for any ends of the edges, n elements and m edges.
use Rattle.std.specs.Prelude.{◌≡◌, ℕ, ◌+◌, ◌*◌, ◌<◌, ◌≤◌, Bool, true, ◌≢◌, ◌↔◌, List, length}
use Rattle.decomposition.specs.Sets.{Subset, count, everything, meet}
use Rattle.decomposition.specs.Trees.{Tree, reach, inside, edges, part, Valid, Bounded}
use Rattle.decomposition.specs.Graphs.{graph_of, Decomposes}
use Rattle.decomposition.specs.Lists.{NamesBelow, Proper, Plan}
use Rattle.decomposition.specs.Tables.{Node, WritesDown, Accepted}
use Rattle.decomposition.specs.Forest.{Forest, Progress}
use Rattle.decomposition.specs.Merging.{Merged}

-- Of the trees over the edges of a list those that keep the rules one by one are the tree decompositions of its graph.
abbrev pub RulesLaw : Type 0
RulesLaw = (lower higher : ℕ → ℕ) (n m : ℕ) → Proper lower higher n m → (t : Tree) → NamesBelow m t
    → Decomposes lower higher t (graph_of lower higher n m) ↔ Plan lower higher n m t

-- A table is accepted exactly when it writes down a tree decomposition of the list's graph.
-- A limit of 187 entries is enough for 125 edges.
abbrev pub AcceptanceLaw : Type 0
AcceptanceLaw = (lower higher : ℕ → ℕ) (limit n m : ℕ) (table : List Node) → Proper lower higher n m → 3 * m ≤ 2 * limit + 1
    → Accepted lower higher limit n m table ↔ ((t : Tree) × WritesDown m table t × Decomposes lower higher t (graph_of lower higher n m))

-- Every tree decomposition of the list's graph is written down by an accepted table.
-- A place past the end of the list is no edge: both its ends are one element.
abbrev pub WrittenLaw : Type 0
WrittenLaw = (lower higher : ℕ → ℕ) (limit n m : ℕ) → Proper lower higher n m → 3 * m ≤ 2 * limit + 1 → ((d : ℕ) → m ≤ d → lower d ≡ higher d)
    → (t : Tree) → Decomposes lower higher t (graph_of lower higher n m)
    → (table : List Node) × WritesDown m table t × Accepted lower higher limit n m table

-- Among k elements of a tree decomposition, k at least 2, there are at most 2k - 3 of its edges; at one element alone, or none,
-- there is no edge. As a whole it has as many as that: k elements have 2k - 3 edges.
abbrev pub CornersLaw : Type 0
CornersLaw = (lower higher : ℕ → ℕ) (n : ℕ) (t : Tree) → Valid lower higher t → Bounded lower higher n t
    → ((S : Subset)
    → (2 ≤ part lower higher n S t → edges lower higher S t + 3 ≤ 2 * part lower higher n S t)
    × (part lower higher n S t ≤ 1 → edges lower higher S t ≡ 0))
    × (edges lower higher everything t + 3 ≡ 2 * count n (reach lower higher t))

-- A list that has an accepted table, n elements and m edges, has 2n - 3 edges, and at most 2k - 3 among any k elements, k at least 2.
-- Every accepted table of it has m leaves and (m - 1)/2 steps.
abbrev pub CountsLaw : Type 0
CountsLaw = (lower higher : ℕ → ℕ) (limit n m : ℕ) (table : List Node) → Proper lower higher n m → Accepted lower higher limit n m table
    → (m + 3 ≡ 2 * n)
    × ((S : Subset) → 2 ≤ count n S → count m (inside lower higher S) + 3 ≤ 2 * count n S)
    × (2 * length table + 1 ≡ 3 * m)

-- Where a list has a tree decomposition, two different parts of a merge of its edges share at most one element.
abbrev pub OverlapLaw : Type 0
OverlapLaw = (lower higher : ℕ → ℕ) (n m len : ℕ) (P : Tree) (F : ℕ → Tree) (live : ℕ → Bool) → Plan lower higher n m P
    → Forest lower higher n m len F live
    → (i j : ℕ) → i < len → j < len → live i ≡ true → live j ≡ true → i ≢ j → count n (meet (reach lower higher (F i)) (reach lower higher (F j))) ≤ 1

-- Where a list has a tree decomposition, a merge of its edges never gets stuck, whichever parts it has joined so far:
-- one part is left, which reaches every element, or three parts can be joined.
abbrev pub NeverStuckLaw : Type 0
NeverStuckLaw = (lower higher : ℕ → ℕ) (n m len : ℕ) (P : Tree) (F : ℕ → Tree) (live : ℕ → Bool) → Plan lower higher n m P
    → Forest lower higher n m len F live → Progress lower higher n len F live

-- The merging rule makes exactly one table of any list of edges.
abbrev pub MergingRuleLaw : Type 0
MergingRuleLaw = (lower higher : ℕ → ℕ) (m : ℕ)
    → ((table : List Node) × Merged lower higher m table)
    × ((s t : List Node) → Merged lower higher m s → Merged lower higher m t → s ≡ t)

-- That table is accepted exactly where any table of the list is, whatever the limit on that one's entries.
abbrev pub PlanningLaw : Type 0
PlanningLaw = (lower higher : ℕ → ℕ) (limit n m : ℕ) (table : List Node) → Proper lower higher n m → 3 * m ≤ 2 * limit + 1
    → Merged lower higher m table
    → Accepted lower higher limit n m table ↔ ((most : ℕ) × (other : List Node) × Accepted lower higher most n m other)
