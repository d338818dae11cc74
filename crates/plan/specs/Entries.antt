-- The entries of a plan, and the table of a tree that they are.
use Rattle.std.specs.Prelude.{ℕ, Bool, true, false, List, map, length, slice_index_or}
use Rattle.decomposition.specs.Sets.{count}
use Rattle.decomposition.specs.Tables.{Node, names, joins}
use Rattle.plan.specs.declared.entry.Entry.{Entry}
use Rattle.plan.specs.declared.entry.Entry.TheVariants.{Leaf, Step}

-- the entry of a number; past the end a leaf, which no rule asks for
abbrev pub entry_at : List Entry → ℕ → Entry
entry_at plan e = slice_index_or plan e (Leaf 0)

-- an entry as one of a table that writes down a tree
abbrev pub node_of : Entry → Node
node_of (Leaf d) = names d
node_of (Step a b c) = joins a b c

-- a plan as such a table
abbrev pub nodes : List Entry → List Node
nodes plan = map node_of plan

-- the entry is a step
abbrev pub is_step : Entry → Bool
is_step (Leaf d) = false
is_step (Step a b c) = true

-- how many steps a plan has
abbrev pub steps : List Entry → ℕ
steps plan = count (length plan) (λ j. is_step (entry_at plan j))
