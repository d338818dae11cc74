-- Three sets of elements that are hinged.
use Rattle.std.specs.Prelude.{Bool, false, not, ◌&&◌, ◌==◌}
use Rattle.decomposition.specs.Sets.{Subset, meet}
use Rattle.decomposition.specs.Trees.{hinge_test}
use Rattle.graph.specs.Limits.{most_elements}
use Rattle.graph.specs.ElementSets.{how_many}
use Rattle.graph.specs.declared.element_set.Shared.{Shared}
use Rattle.graph.specs.declared.element_set.Shared.TheVariants.{Nothing, One, Several}

-- two by two the sets share one element, and all three share none
unfoldable pub hinges : Subset → Subset → Subset → Bool
hinges A B C = hinge_test most_elements A B C

-- two sets share exactly one element
abbrev pub share_one : Subset → Subset → Bool
share_one A B = how_many (meet A B) == 1

-- three hinged sets, by what the sets share two by two: one element each time, and three different ones
abbrev pub all_differ : Shared → Shared → Shared → Bool
all_differ Nothing q r = false
all_differ Several q r = false
all_differ (One x) Nothing r = false
all_differ (One x) Several r = false
all_differ (One x) (One y) Nothing = false
all_differ (One x) (One y) Several = false
all_differ (One x) (One y) (One z) = not (x == y) && (not (y == z) && not (z == x))
