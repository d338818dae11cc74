-- Ternary trees whose leaves name edges, what a tree reaches, and hinged sets.
-- An edge is named by its place in a list; its two ends are given by the functions lower and higher.
use Rattle.std.specs.Prelude.{◌≡◌, ℕ, ◌+◌, ◌<◌, Bool, true, ◌&&◌, ◌||◌, ◌≢◌, ◌==◌}
use Rattle.decomposition.specs.Sets.{Subset, bit, count, meet}

-- a ternary tree: a leaf names an edge by its place, and every inner node has three children
pub data Tree : Type 0 where
  leaf : ℕ → Tree
  step : Tree → Tree → Tree → Tree

-- A, B and C share exactly one element two by two, a, b and c, and these three differ
pub record Hinged (A B C : Subset) (a b c : ℕ) : Type 0 where
  pub ab : (i : ℕ) → (A i && B i) ≡ (i == a)
  pub bc : (i : ℕ) → (B i && C i) ≡ (i == b)
  pub ca : (i : ℕ) → (C i && A i) ≡ (i == c)
  pub a≢b : a ≢ b
  pub b≢c : b ≢ c
  pub c≢a : c ≢ a

-- the same as a test, of three sets of elements below n: two by two they share one element, and all three share none
abbrev pub hinge_test : ℕ → Subset → Subset → Subset → Bool
hinge_test n A B C =
    (count n (meet A B) == 1) && (count n (meet B C) == 1 && (count n (meet C A) == 1 && count n (meet A (meet B C)) == 0))

-- how often a leaf of the tree names the edge d
abbrev pub occurs : ℕ → Tree → ℕ
occurs d (leaf e) = bit (d == e)
occurs d (step t u v) = occurs d t + occurs d u + occurs d v

module _ (lower higher : ℕ → ℕ) where
  -- every element that is an end of an edge named below the node
  abbrev pub reach : Tree → Subset
  reach (leaf d) = λ i. (i == lower d) || i == higher d
  reach (step t u v) = λ i. reach t i || (reach u i || reach v i)

  -- both ends of the edge d are in S
  abbrev pub inside : Subset → ℕ → Bool
  inside S d = S (lower d) && S (higher d)

  -- how many leaves of the tree name an edge inside S
  abbrev pub edges : Subset → Tree → ℕ
  edges S (leaf d) = bit (inside S d)
  edges S (step t u v) = edges S t + edges S u + edges S v

  -- how many of the n elements are in S and reached by the tree
  abbrev pub part : ℕ → Subset → Tree → ℕ
  part n S t = count n (meet S (reach t))

  -- the three trees can be the children of a step: what they reach is hinged
  abbrev pub Hinges : Tree → Tree → Tree → Type 0
  Hinges t u v = (a : ℕ) × (b : ℕ) × (c : ℕ) × Hinged (reach t) (reach u) (reach v) a b c

  -- each leaf has two ends, and the children of each step are hinged
  abbrev pub Valid : Tree → Type 0
  Valid (leaf d) = lower d ≢ higher d
  Valid (step t u v) = Valid t × Valid u × Valid v × Hinges t u v

  -- every element that the tree reaches is one of the n elements
  abbrev pub Bounded : ℕ → Tree → Type 0
  Bounded n t = (i : ℕ) → reach t i ≡ true → i < n
