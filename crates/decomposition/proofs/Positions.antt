-- The nodes of a tree.
use Rattle.std.proofs.Common.{◌≡◌, ℕ, ◌+◌, refl}
use Rattle.decomposition.specs.Trees.{Tree, leaf, step, Valid}

-- a way from the root of a tree down to one of its nodes
pub data Position : Tree → Type 0 where
  here : {t : Tree} → Position t
  first : {t u v : Tree} → Position t → Position (step t u v)
  second : {t u v : Tree} → Position u → Position (step t u v)
  third : {t u v : Tree} → Position v → Position (step t u v)

-- the tree below a position
abbrev pub at : {q : Tree} → Position q → Tree
at {q} here = q
at (first k) = at k
at (second k) = at k
at (third k) = at k

-- the sum of g over every node of a tree
abbrev pub over : (Tree → ℕ) → Tree → ℕ
over g (leaf d) = g (leaf d)
over g (step t u v) = g (step t u v) + (over g t + over g u + over g v)

-- a node below a node, as a node of the whole
pub position_through : (t : Tree) (k : Position t) (l : Position (at k)) → (r : Position t) × (at r ≡ at l)
position_through t here l = (l, refl)
position_through (step t u v) (first k) l = let r = position_through t k l in (first r.0, r.1)
position_through (step t u v) (second k) l = let r = position_through u k l in (second r.0, r.1)
position_through (step t u v) (third k) l = let r = position_through v k l in (third r.0, r.1)

-- what is below a node of a valid tree is valid
pub position_valid : (lower higher : ℕ → ℕ) (q : Tree) (k : Position q) → Valid lower higher q → Valid lower higher (at k)
position_valid lower higher q here h = h
position_valid lower higher (step t u v) (first k) h = position_valid lower higher t k h.0
position_valid lower higher (step t u v) (second k) h = position_valid lower higher u k h.1
position_valid lower higher (step t u v) (third k) h = position_valid lower higher v k h.2
