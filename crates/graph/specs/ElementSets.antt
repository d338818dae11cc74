-- Sets of elements held as the bits of a number, and what two sets have in common.
use Rattle.std.specs.Prelude.{◌≡◌, ℕ, ◌/◌, ◌%◌, ◌^◌, ◌≤◌, ◌==◌}
use Rattle.decomposition.specs.Sets.{Subset, count}
use Rattle.graph.specs.Limits.{most_elements}
use Rattle.graph.specs.declared.element_set.ElementSet.{ElementSet}
use Rattle.graph.specs.declared.element_set.Shared.{Shared}
use Rattle.graph.specs.declared.element_set.Shared.TheVariants.{Nothing, One, Several}

-- bit i of the number is set
unfoldable pub has : ℕ → Subset
has bits i = bits / 2 ^ i % 2 == 1

-- the elements of a set
abbrev pub members : ElementSet → Subset
members s = has s.bits

-- how many elements a set has
unfoldable pub how_many : Subset → ℕ
how_many S = count most_elements S

-- of what is shared there is nothing, the one element k, or more than one
abbrev pub Shares : Subset → Shared → Type 0
Shares S Nothing = how_many S ≡ 0
Shares S (One k) = (i : ℕ) → S i ≡ (i == k)
Shares S Several = 2 ≤ how_many S
