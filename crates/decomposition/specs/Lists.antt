-- Lists of edges, and the tree decompositions of a list, rule by rule.
use Rattle.std.specs.Prelude.{◌≡◌, ℕ, ◌<◌, ◌≤◌, true}
use Rattle.decomposition.specs.Trees.{Tree, occurs, reach, Valid, Bounded}

-- every leaf of the tree names one of the m edges
abbrev pub NamesBelow : ℕ → Tree → Type 0
NamesBelow m t = (d : ℕ) → m ≤ d → occurs d t ≡ 0

module _ (lower higher : ℕ → ℕ) where
  -- m edges between elements below n: the lower end first, and no edge twice
  pub record Proper (n m : ℕ) : Type 0 where
    pub rising : (d : ℕ) → d < m → lower d < higher d
    pub within : (d : ℕ) → d < m → higher d < n
    pub apart : (d e : ℕ) → d < m → e < m → lower d ≡ lower e → higher d ≡ higher e → d ≡ e

  -- a tree decomposition of the m edges on the n elements: every edge is named once, and every element is reached
  pub record Plan (n m : ℕ) (t : Tree) : Type 0 where
    pub valid : Valid lower higher t
    pub bounded : Bounded lower higher n t
    pub once : (d : ℕ) → d < m → occurs d t ≡ 1
    pub only : NamesBelow m t
    pub spans : (i : ℕ) → i < n → reach lower higher t i ≡ true
