-- What an entry reaches, from what the entries that it names reach.
use Rattle.std.proofs.Common.{◌≡◌, ℕ, ◌-◌, ◌<◌, ◌&&◌, ◌||◌, eqb, ltb, List, length, sym, ap, ◌∙◌, ap₂}
use Rattle.std.proofs.lemmas.Bool.{lt-ltb}
use Rattle.decomposition.specs.Trees.{reach, Bounded}
use Rattle.decomposition.specs.Tables.{node, tree_at, root}
use Rattle.decomposition.proofs.Trees.{bounded_leaf, bounded_step}
use Rattle.decomposition.proofs.Entries.{tree_leaf, tree_step, every}
use Rattle.graph.specs.ElementSets.{members}
use Rattle.graph.specs.Rows.{Clear}
use Rattle.graph.specs.Lists.{lower_of, higher_of}
use Rattle.graph.specs.declared.dimension.Dimension.{Dimension}
use Rattle.graph.specs.declared.element_set.ElementSet.{ElementSet}
use Rattle.plan.specs.Entries.{entry_at, node_of, nodes}
use Rattle.plan.specs.Reach.{reached}
use Rattle.plan.specs.PlanRows.{misnamed}
use Rattle.plan.specs.declared.entry.Entry.{Entry}
use Rattle.plan.specs.declared.entry.Entry.TheVariants.{Leaf, Step}
use Rattle.plan.proofs.Naming.{Small, node_at, nodes_length, listed, rising, fits_at}

-- the last entry, by the length of the table
pub reached_root : (ds : List Dimension) (plan : List Entry) (i : ℕ)
    → reach (lower_of ds) (higher_of ds) (root (nodes plan)) i ≡ reached ds plan (length plan - 1) i
unfolding reached
reached_root ds plan i = ap (λ n. reach (lower_of ds) (higher_of ds) (tree_at (nodes plan) (n - 1)) i) (nodes_length plan)

module _ (ds : List Dimension) (plan : List Entry) (named : Clear (length plan) (misnamed ds plan)) (small : Small ds) where
  reached_leaf : (e d j : ℕ) → entry_at plan e ≡ Leaf d → reached ds plan e j ≡ (eqb j (lower_of ds d) || eqb j (higher_of ds d))
  unfolding reached
  reached_leaf e d j q =
      ap (λ t. reach (lower_of ds) (higher_of ds) t j)
      (tree_leaf (node (nodes plan)) (length plan) (rising ds plan named) e d (node_at plan e ∙ ap node_of q))

  reached_step : (e a b c j : ℕ) → e < length plan → entry_at plan e ≡ Step a b c
      → reached ds plan e j ≡ (reached ds plan a j || (reached ds plan b j || reached ds plan c j))
  unfolding reached
  reached_step e a b c j l q =
      ap (λ t. reach (lower_of ds) (higher_of ds) t j)
      (tree_step (node (nodes plan)) (length plan) (rising ds plan named) e a b c l (node_at plan e ∙ ap node_of q))

  -- every entry reaches elements that fit a set
  pub bounded : (e : ℕ) → e < length plan → Bounded (lower_of ds) (higher_of ds) 64 (tree_at (nodes plan) e)
  bounded =
      every (node (nodes plan)) (length plan) (rising ds plan named) (Bounded (lower_of ds) (higher_of ds) 64)
      (λ e d l q. let s = small d (listed ds plan named e d l q) in bounded_leaf (lower_of ds) (higher_of ds) 64 d s.0 s.1)
      (λ e a b c l q x y z.
      bounded_step (lower_of ds) (higher_of ds) 64 (tree_at (nodes plan) a) (tree_at (nodes plan) b) (tree_at (nodes plan) c) x y z)

  -- the set of a leaf: the two ends
  pub leaf_set : (both : ElementSet) (e d : ℕ) → e < length plan → entry_at plan e ≡ Leaf d
      → ((j : ℕ) → members both j ≡ ((ltb (lower_of ds d) 64 && eqb j (lower_of ds d)) || (ltb (higher_of ds d) 64 && eqb j (higher_of ds d))))
      → (j : ℕ) → members both j ≡ reached ds plan e j
  leaf_set both e d l q h j =
      let s = small d (fits_at ds plan named e (Leaf d) l q) in
      h j
      ∙ ap₂ (λ p t. (p && eqb j (lower_of ds d)) || (t && eqb j (higher_of ds d))) (lt-ltb (lower_of ds d) 64 s.0) (lt-ltb (higher_of ds d) 64 s.1)
      ∙ sym (reached_leaf e d j q)

  -- the set of a step: what its three entries reach
  pub step_set : (x y z rest all : ElementSet) (e a b c : ℕ) → e < length plan → entry_at plan e ≡ Step a b c
      → ((j : ℕ) → members x j ≡ reached ds plan a j) → ((j : ℕ) → members y j ≡ reached ds plan b j) → ((j : ℕ) → members z j ≡ reached ds plan c j)
      → ((j : ℕ) → members rest j ≡ (members y j || members z j)) → ((j : ℕ) → members all j ≡ (members x j || members rest j))
      → (j : ℕ) → members all j ≡ reached ds plan e j
  step_set x y z rest all e a b c l q p r s m n j =
      n j ∙ ap₂ ◌||◌ (p j) (m j ∙ ap₂ ◌||◌ (r j) (s j)) ∙ sym (reached_step e a b c j l q)
