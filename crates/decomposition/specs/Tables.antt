-- Tables: a ternary tree written down as a list, every step behind the entries that it names.
use Rattle.std.specs.Prelude.{◌≡◌, ℕ, zero, suc, ◌+◌, ◌-◌, ◌<◌, ◌≤◌, Bool, true, List, length, ◌==◌, slice_index_or}
use Rattle.decomposition.specs.Sets.{bit, sum}
use Rattle.decomposition.specs.Trees.{Tree, leaf, step, reach, Hinges}

-- An entry is a leaf, which names an edge by its place, or a step, which names three entries by their numbers.
pub data Node : Type 0 where
  names : ℕ → Node
  joins : ℕ → ℕ → ℕ → Node

-- how often an entry names the entry e
abbrev pub mentions : Node → ℕ → ℕ
mentions (names d) e = 0
mentions (joins a b c) e = bit (e == a) + bit (e == b) + bit (e == c)

-- how often an entry is a leaf of the edge d
abbrev pub marks : Node → ℕ → ℕ
marks (names e) d = bit (d == e)
marks (joins a b c) d = 0

-- how often the entries below k that f gives name e
abbrev pub named_by : (ℕ → Node) → ℕ → ℕ → ℕ
named_by f k e = sum k (λ j. mentions (f j) e)

-- none of the entries below k that f gives names e
abbrev pub unnamed : (ℕ → Node) → ℕ → ℕ → Bool
unnamed f k e = named_by f k e == 0

-- how many of the entries below k that f gives are leaves of d
abbrev pub leaves_by : (ℕ → Node) → ℕ → ℕ → ℕ
leaves_by f k d = sum k (λ j. marks (f j) d)

-- entry e of a table; past its end a leaf, which no rule asks for
abbrev pub node : List Node → ℕ → Node
node table e = slice_index_or table e (names 0)

-- the number of the last entry
abbrev pub last : List Node → ℕ
last table = length table - 1

-- how often steps of the table name the entry e
abbrev pub named : List Node → ℕ → ℕ
named table e = named_by (node table) (length table) e

-- how many leaves of the table name the edge d
abbrev pub leaves : List Node → ℕ → ℕ
leaves table d = leaves_by (node table) (length table) d

-- writing down

-- the names in a table of m edges are in order
pub record InOrder (m : ℕ) (table : List Node) : Type 0 where
  -- there is an entry
  pub some : 1 ≤ length table
  -- a leaf names one of the edges
  pub listed : (e d : ℕ) → e < length table → node table e ≡ names d → d < m
  -- a step names three entries below itself, in rising order
  pub rising : (e a b c : ℕ) → e < length table → node table e ≡ joins a b c → (a < b) × (b < c) × (c < e)
  -- each entry but the last is named once
  pub named_once : (e : ℕ) → e < last table → named table e ≡ 1

-- entry e of the table stands for the tree: it is a leaf of the same edge, or a step whose three entries stand for the children
abbrev pub StandsFor : List Node → Tree → ℕ → Type 0
StandsFor table (leaf d) e = node table e ≡ names d
StandsFor table (step t u v) e =
    (a : ℕ) × (b : ℕ) × (c : ℕ) × (node table e ≡ joins a b c) × StandsFor table t a × StandsFor table u b × StandsFor table v c

-- the table writes down the tree: its names are in order, and its last entry stands for the tree
pub record WritesDown (m : ℕ) (table : List Node) (t : Tree) : Type 0 where
  pub in_order : InOrder m table
  pub stands_for : StandsFor table t (last table)

-- the same, computed

-- the tree of an entry, by the trees of the entries that it names
abbrev pub grow : Node → (ℕ → Tree) → Tree
grow (names d) at = leaf d
grow (joins a b c) at = step (at a) (at b) (at c)

-- the tree of entry e, at most k deep
abbrev pub build : (ℕ → Node) → ℕ → ℕ → Tree
build f zero e = leaf 0
build f (suc k) e = grow (f e) (build f k)

-- the tree of entry e, where every step names entries below itself
abbrev pub tree : (ℕ → Node) → ℕ → Tree
tree f e = build f (suc e) e

-- the tree of entry e of a table
abbrev pub tree_at : List Node → ℕ → Tree
tree_at table = tree (node table)

-- the tree of the last entry
abbrev pub root : List Node → Tree
root table = tree_at table (last table)

-- acceptance

-- What a checker accepts as a plan of the m edges on n elements, rule by rule.
pub record Accepted (lower higher : ℕ → ℕ) (limit n m : ℕ) (table : List Node) : Type 0 where
  pub in_order : InOrder m table
  pub short : length table ≤ limit
  -- each edge is named by one leaf
  pub leaf_once : (d : ℕ) → d < m → leaves table d ≡ 1
  -- what the three entries of a step reach is hinged
  pub hinged : (e a b c : ℕ) → e < length table → node table e ≡ joins a b c
      → Hinges lower higher (tree_at table a) (tree_at table b) (tree_at table c)
  -- the last entry reaches every element
  pub reaches : (i : ℕ) → i < n → reach lower higher (root table) i ≡ true
