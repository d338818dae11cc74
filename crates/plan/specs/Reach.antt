-- The elements that an entry of a plan reaches.
use Rattle.std.specs.Prelude.{◌≡◌, ℕ, ◌&&◌, ◌||◌, List, ◌==◌, nat_lt}
use Rattle.decomposition.specs.Sets.{Subset}
use Rattle.decomposition.specs.Trees.{reach}
use Rattle.decomposition.specs.Tables.{tree_at}
use Rattle.graph.specs.Limits.{most_elements}
use Rattle.graph.specs.ElementSets.{members}
use Rattle.graph.specs.Lists.{lower_of, higher_of}
use Rattle.graph.specs.declared.dimension.Dimension.{Dimension}
use Rattle.graph.specs.declared.element_set.ElementSet.{ElementSet}
use Rattle.plan.specs.Entries.{nodes}
use Rattle.plan.specs.declared.entry.Entry.{Entry}

-- what the tree below the entry reaches: the two ends of a leaf's dimension, or all that a step's three entries reach
unfoldable pub reached : List Dimension → List Entry → ℕ → Subset
reached ds plan e = reach (lower_of ds) (higher_of ds) (tree_at (nodes plan) e)

-- the set holds the two ends of a dimension, where they are elements that a set can hold
abbrev pub IsEnds : Dimension → ElementSet → Type 0
IsEnds d s =
    (j : ℕ) → members s j ≡ ((nat_lt d.lower most_elements && j == d.lower) || (nat_lt d.higher most_elements && j == d.higher))
