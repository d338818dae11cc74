-- How many elements, edges and nodes a tree decomposition of a list has.
use Rattle.std.proofs.Common.{◌≡◌, ℕ, ◌+◌, ◌*◌, ◌<◌, ltb, refl, ap, ◌∙◌, inl, inr, one-mul, arith}
use Rattle.std.proofs.lemmas.Bool.{cases_lt, ltb-true, lt-ltb}
use Rattle.decomposition.specs.Sets.{Subset, bit, count, everything, meet}
use Rattle.decomposition.specs.Trees.{Tree, leaf, step, occurs, reach, inside, edges, part, Valid, Bounded}
use Rattle.decomposition.specs.Lists.{NamesBelow, Proper, Plan}
use Rattle.decomposition.proofs.Sums.{bool_ext, sum_same, sum_constant, count_all}
use Rattle.decomposition.proofs.Positions.{over}
use Rattle.decomposition.proofs.Trees.{bounded_leaf, edges_by_name}
use Rattle.decomposition.proofs.Corners.{and_true}

-- three nodes more for every two leaves more
nodes_edges : (lower higher : ℕ → ℕ) (t : Tree) → 2 * over (λ s. 1) t + 1 ≡ 3 * edges lower higher everything t
nodes_edges lower higher (leaf d) = refl
nodes_edges lower higher (step t u v) = omega (arith, nodes_edges lower higher t, nodes_edges lower higher u, nodes_edges lower higher v)

-- an edge that a tree over m edges names is one of them
pub name_below : (m : ℕ) (t : Tree) → NamesBelow m t → (d : ℕ) → 0 < occurs d t → d < m
name_below m t only d h = elim (cases_lt d m) [ inl l ↦ l | inr l ↦ absurd (omega (arith, only d l)) ]

-- an edge of a list is a tree decomposition of itself
pub proper_leaf : (lower higher : ℕ → ℕ) (n m : ℕ) → Proper lower higher n m → (d : ℕ) → d < m
    → Valid lower higher (leaf d) × Bounded lower higher n (leaf d)
proper_leaf lower higher n m proper d l =
    let r = proper.rising d l in
    let w = proper.within d l in
    (λ e. omega arith, bounded_leaf lower higher n d (omega arith) w)

module _ (lower higher : ℕ → ℕ) (n m : ℕ) (t : Tree) (plan : Plan lower higher n m t) where
  -- the edges of the tree inside S are those of the list
  pub plan_edges : (S : Subset) → edges lower higher S t ≡ count m (inside lower higher S)
  plan_edges S =
      edges_by_name lower higher m S t plan.only
      ∙ sum_same m (λ d. occurs d t * bit (inside lower higher S d)) (λ d. bit (inside lower higher S d))
      (λ d l. ap (λ k. k * bit (inside lower higher S d)) (plan.once d l) ∙ one-mul (bit (inside lower higher S d)))

  -- all m edges of them
  pub plan_size : edges lower higher everything t ≡ m
  plan_size = omega (arith, plan_edges everything, sum_constant m 1)

  -- the tree reaches all of S
  pub plan_part : (S : Subset) → part lower higher n S t ≡ count n S
  plan_part S =
      sum_same n (λ i. bit (meet S (reach lower higher t) i)) (λ i. bit (S i))
      (λ i l. ap bit (and_true (S i) (reach lower higher t i) (plan.spans i l)))

  -- how many nodes the tree has
  pub plan_nodes : 2 * over (λ s. 1) t + 1 ≡ 3 * m
  plan_nodes = omega (arith, nodes_edges lower higher t, plan_size)

  -- the elements that the tree reaches
  pub plan_reach : (i : ℕ) → ltb i n ≡ reach lower higher t i
  plan_reach i = bool_ext (ltb i n) (reach lower higher t i) (λ h. plan.spans i (ltb-true i n h)) (λ h. lt-ltb i n (plan.bounded i h))

  -- all n elements are reached
  pub plan_count : count n (reach lower higher t) ≡ n
  plan_count = count_all n (reach lower higher t) plan.spans
