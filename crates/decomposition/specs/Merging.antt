-- The merging rule as a relation on the finished table: the leaves in order, then steps, each of the lowest three entries that
-- can be joined where it stands, until no three can be joined.
use Rattle.std.specs.Prelude.{◌≡◌, ℕ, ◌<◌, ◌≤◌, ◌⊎◌, List, length}
use Rattle.decomposition.specs.Tables.{Node, names, joins, unnamed, node, tree_at}
use Rattle.decomposition.specs.Forest.{Joinable}

-- a, b, c is x, y, z or comes before it: by the first number, then the second, then the third
abbrev pub Upto : (a b c x y z : ℕ) → Type 0
Upto a b c x y z = (a < x) ⊎ ((a ≡ x) × ((b < y) ⊎ ((b ≡ y) × (c ≤ z))))

module _ (lower higher : ℕ → ℕ) where
  -- a step at k can join a, b and c: they are rising entries below k that no entry below k names, and what they reach is hinged
  abbrev pub CanJoin : (table : List Node) (k a b c : ℕ) → Type 0
  CanJoin table k a b c = Joinable lower higher k (tree_at table) (unnamed (node table) k) a b c

  -- of the threes that a step at k can join these are the lowest
  pub record Lowest (table : List Node) (k a b c : ℕ) : Type 0 where
    pub can : CanJoin table k a b c
    pub lowest : (x y z : ℕ) → CanJoin table k x y z → Upto a b c x y z

  -- a table of m edges as far as the rule has come with it
  pub record Underway (m : ℕ) (table : List Node) : Type 0 where
    -- first the leaves of the edges in order
    pub enough : m ≤ length table
    pub first : (e : ℕ) → e < m → node table e ≡ names e
    -- each later entry is the step of the lowest three that it can join
    pub later : (e : ℕ) → m ≤ e → e < length table → (a : ℕ) × (b : ℕ) × (c : ℕ) × (node table e ≡ joins a b c) × Lowest table e a b c

  -- the table that the rule makes of m edges: at its end no three can be joined
  pub record Merged (m : ℕ) (table : List Node) : Type 0 where
    pub underway : Underway m table
    pub done : (x y z : ℕ) → CanJoin table (length table) x y z → ⊥
