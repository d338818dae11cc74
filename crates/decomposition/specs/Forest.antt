-- The parts that a merge of the edges of a graph has come to, and what it has before it.
-- The parts are the trees F i for those numbers i below len that are live.
use Rattle.std.specs.Prelude.{◌≡◌, ℕ, ◌*◌, ◌<◌, ◌≤◌, Bool, true}
use Rattle.decomposition.specs.Sets.{bit, sum}
use Rattle.decomposition.specs.Trees.{Tree, occurs, reach, Hinges, Valid, Bounded}

module _ (lower higher : ℕ → ℕ) where
  -- each part is a tree decomposition of what it reaches of the n elements, and together they name each of the m edges once
  pub record Forest (n m len : ℕ) (F : ℕ → Tree) (live : ℕ → Bool) : Type 0 where
    pub valid : (i : ℕ) → i < len → live i ≡ true → Valid lower higher (F i)
    pub bounded : (i : ℕ) → i < len → live i ≡ true → Bounded lower higher n (F i)
    pub once : (d : ℕ) → d < m → sum len (λ i. bit (live i) * occurs d (F i)) ≡ 1
    pub only : (d : ℕ) → m ≤ d → sum len (λ i. bit (live i) * occurs d (F i)) ≡ 0

  -- i is the one part left, and it reaches every element
  pub record Finished (n len : ℕ) (F : ℕ → Tree) (live : ℕ → Bool) (i : ℕ) : Type 0 where
    pub below : i < len
    pub left : live i ≡ true
    pub alone : (j : ℕ) → j < len → live j ≡ true → j ≡ i
    pub reaches : (x : ℕ) → x < n → reach lower higher (F i) x ≡ true

  -- i, j and k are three parts in rising order that one step can join
  pub record Joinable (len : ℕ) (F : ℕ → Tree) (live : ℕ → Bool) (i j k : ℕ) : Type 0 where
    pub i<j : i < j
    pub j<k : j < k
    pub k_below : k < len
    pub i_live : live i ≡ true
    pub j_live : live j ≡ true
    pub k_live : live k ≡ true
    pub hinges : Hinges lower higher (F i) (F j) (F k)

  -- a merge is at its end with one part that reaches every element, or has a next step
  pub data Progress (n len : ℕ) (F : ℕ → Tree) (live : ℕ → Bool) : Type 0 where
    finished : (i : ℕ) → Finished n len F live i → Progress n len F live
    joinable : (i j k : ℕ) → Joinable len F live i j k → Progress n len F live
