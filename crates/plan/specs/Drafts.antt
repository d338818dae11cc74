-- A plan in the making: what its parts mean, and what the code on it answers.
use Rattle.std.specs.Prelude.{◌≡◌, ℕ, ◌<◌, ◌≤◌, Bool, true, false, ◌&&◌, ◌||◌, ◌⊎◌, List, [], ◌∷◌, ◌++◌, map, length, Some, None, Option, slice_index_or, slice_set}
use Rattle.decomposition.specs.Sets.{Subset}
use Rattle.decomposition.specs.Trees.{reach}
use Rattle.decomposition.specs.Tables.{Node, node, tree_at, unnamed}
use Rattle.decomposition.specs.Merging.{Upto, Underway}
use Rattle.graph.specs.ElementSets.{members}
use Rattle.graph.specs.Lists.{lower_of, higher_of}
use Rattle.graph.specs.declared.dimension.Dimension.{Dimension}
use Rattle.graph.specs.declared.element_set.ElementSet.{ElementSet}
use Rattle.plan.specs.Entries.{nodes}
use Rattle.plan.specs.Hinges.{hinges, share_one}
use Rattle.plan.specs.declared.entry.Entry.{Entry}
use Rattle.plan.specs.declared.entry.Entry.TheVariants.{Leaf, Step}
use Rattle.plan.specs.declared.draft.Draft.{Draft}
use Rattle.plan.specs.declared.draft.Part.{Part}
use Rattle.plan.specs.declared.draft.Three.{Three}

-- a part of its entry, the set of what it reaches, and whether no step names it
abbrev pub part : Entry → ElementSet → Bool → Part
part x s b = record { entry = x; reach = s; unnamed = b }

-- a new entry, which no step names
abbrev pub new_part : Entry → ElementSet → Part
new_part x s = part x s true

-- the entries so far
abbrev pub drafted : Draft → List Entry
drafted d = map (λ (p : Part). p.entry) d.parts.items

-- how many there are
abbrev pub count : Draft → ℕ
count d = length d.parts.items

-- the same as a table that writes down trees
abbrev pub draft_table : Draft → List Node
draft_table d = nodes (drafted d)

-- the part of an entry by its number
abbrev pub part_at : List Part → ℕ → Part
part_at ps e = slice_index_or ps e (part (Leaf 0) (record { bits = 0 }) false)

-- the set that is kept of an entry: the elements that it reaches
abbrev pub reach_at : Draft → ℕ → Subset
reach_at d e = members (part_at d.parts.items e).reach

-- the flag that is kept of it: no step names it
abbrev pub unnamed_at : Draft → ℕ → Bool
unnamed_at d e = (part_at d.parts.items e).unnamed

-- the part of an entry is named
abbrev pub with_named : List Part → ℕ → List Part
with_named ps e = slice_set ps e (part (part_at ps e).entry (part_at ps e).reach false)

-- the three entries are named, and their step is the newest entry, which reaches all that they reach
abbrev pub Joined : Draft → Three → Draft → Type 0
Joined old t new =
    (all : ElementSet)
    × ((i : ℕ) → members all i ≡ (reach_at old t.first i || (reach_at old t.second i || reach_at old t.third i)))
    × (new.parts.items
    ≡ with_named (with_named (with_named old.parts.items t.first) t.second) t.third ++ new_part (Step t.first t.second t.third) all ∷ [])

-- b is unnamed, and shares one element with a
abbrev pub meets : Draft → ℕ → ℕ → Bool
meets d a b = unnamed_at d b && share_one (reach_at d a) (reach_at d b)

-- c is unnamed, and what the three reach is hinged
abbrev pub closes : Draft → ℕ → ℕ → ℕ → Bool
closes d a b c = unnamed_at d c && hinges (reach_at d a) (reach_at d b) (reach_at d c)

-- the search takes a, b and c for three that can be joined
pub record Fit (d : Draft) (a b c : ℕ) : Type 0 where
  pub a<b : a < b
  pub b<c : b < c
  pub c<k : c < count d
  pub opens : unnamed_at d a ≡ true
  pub meeting : meets d a b ≡ true
  pub closing : closes d a b c ≡ true

-- the lowest third for a first and a second
abbrev pub Third : Draft → ℕ → ℕ → Option ℕ → Type 0
Third d a b None = (z : ℕ) → Fit d a b z → ⊥
Third d a b (Some c) = (b < c) × (c < count d) × (closes d a b c ≡ true) × ((z : ℕ) → Fit d a b z → c ≤ z)

-- the lowest second and third for a first
abbrev pub Second : Draft → ℕ → Option (ℕ × ℕ) → Type 0
Second d a None = (y z : ℕ) → Fit d a y z → ⊥
Second d a (Some p) =
    (a < p.0)
    × (p.0 < p.1)
    × (p.1 < count d)
    × (meets d a p.0 ≡ true)
    × (closes d a p.0 p.1 ≡ true)
    × ((y z : ℕ) → Fit d a y z → (p.0 < y) ⊎ ((p.0 ≡ y) × (p.1 ≤ z)))

-- the lowest three
abbrev pub LowestThree : Draft → Option Three → Type 0
LowestThree d None = (x y z : ℕ) → Fit d x y z → ⊥
LowestThree d (Some t) =
    Fit d t.first t.second t.third × ((x y z : ℕ) → Fit d x y z → Upto t.first t.second t.third x y z)

-- the merging rule has come so far with the first m dimensions, and what is kept is right: the sets and flags are those of the entries
pub record Told (m : ℕ) (ds : List Dimension) (table : List Node) (d : Draft) : Type 0 where
  pub underway : Underway (lower_of ds) (higher_of ds) m table
  pub reaches : (e i : ℕ) → e < count d → reach_at d e i ≡ reach (lower_of ds) (higher_of ds) (tree_at table e) i
  pub flags : (e : ℕ) → e < count d → unnamed_at d e ≡ unnamed (node table) (count d) e

-- all of this, of the entries so far
abbrev pub Drafted : ℕ → List Dimension → Draft → Type 0
Drafted m ds d = Told m ds (draft_table d) d
