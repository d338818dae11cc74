-- Graphs, and what a tree decomposition of a graph is.
use Rattle.std.specs.Prelude.{◌≡◌, ℕ, Bool, ◌&&◌, ◌||◌, ◌≢◌, ◌==◌, nat_lt}
use Rattle.decomposition.specs.Sets.{Subset, any}
use Rattle.decomposition.specs.Trees.{Tree, leaf, step, Hinged}

-- A graph: which numbers are vertices, and which two of them are joined by an edge.
-- An edge has no direction: each graph below joins x to y where it joins y to x.
pub record Graph : Type 0 where
  pub vertex : Subset
  pub edge : ℕ → ℕ → Bool

-- the same vertices and the same edges
pub record SameGraph (G H : Graph) : Type 0 where
  pub vertices : (x : ℕ) → G.vertex x ≡ H.vertex x
  pub edges : (x y : ℕ) → G.edge x y ≡ H.edge x y

-- x and y are a and b, one way round or the other
abbrev pub pair : ℕ → ℕ → ℕ → ℕ → Bool
pair a b x y = (x == a && y == b) || (x == b && y == a)

-- a single edge with its two ends
abbrev pub one_edge : ℕ → ℕ → Graph
one_edge a b = record { vertex = λ x. (x == a) || (x == b); edge = pair a b }

-- the graph of a list of m edges over the vertices below n
abbrev pub graph_of : (ℕ → ℕ) → (ℕ → ℕ) → ℕ → ℕ → Graph
graph_of lower higher n m = record { vertex = λ x. nat_lt x n; edge = λ x y. any m (λ d. pair (lower d) (higher d) x y) }

-- Three graphs are a ternary decomposition of G: their vertices together are those of G, their edges together are those of G,
-- and two by two they share exactly one vertex, three different ones.
pub record Ternary (G G1 G2 G3 : Graph) (a b c : ℕ) : Type 0 where
  pub vertices : (x : ℕ) → G.vertex x ≡ (G1.vertex x || (G2.vertex x || G3.vertex x))
  pub edges : (x y : ℕ) → G.edge x y ≡ (G1.edge x y || (G2.edge x y || G3.edge x y))
  pub shared : Hinged G1.vertex G2.vertex G3.vertex a b c

-- some ternary decomposition of G has parts with the properties P, Q and R
pub record Parted (P Q R : Graph → Type 0) (G : Graph) : Type 0 where
  pub G1 : Graph
  pub G2 : Graph
  pub G3 : Graph
  pub a : ℕ
  pub b : ℕ
  pub c : ℕ
  pub ternary : Ternary G G1 G2 G3 a b c
  pub part1 : P G1
  pub part2 : Q G2
  pub part3 : R G3

module _ (lower higher : ℕ → ℕ) where
  -- The tree is a tree decomposition of the graph: the root is the graph, the three children of an inner node are
  -- a ternary decomposition of it, and a leaf is a single edge with its two ends.
  abbrev pub Decomposes : Tree → Graph → Type 0
  Decomposes (leaf d) = λ G. (lower d ≢ higher d) × SameGraph G (one_edge (lower d) (higher d))
  Decomposes (step t u v) = Parted (Decomposes t) (Decomposes u) (Decomposes v)
