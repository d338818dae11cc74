-- A table whose names are in order: its entries are the nodes of the tree that it writes down, each once.
use Rattle.std.proofs.Common.{◌≡◌, ℕ, zero, suc, ◌+◌, ◌*◌, ◌<◌, ◌≤◌, ◌⊎◌, List, length, sym, ap, ◌∙◌, subst, inl, inr, one-mul, zero-mul, arith}
use Rattle.std.proofs.lemmas.Bool.{cases_lt, eq-eqb, ne_eqb}
use Rattle.decomposition.specs.Sets.{bit, sum}
use Rattle.decomposition.specs.Trees.{Tree, leaf, step, occurs}
use Rattle.decomposition.specs.Lists.{NamesBelow}
use Rattle.decomposition.specs.Tables.{Node, joins, mentions, tree, named_by, unnamed, node, tree_at, leaves, last, root, InOrder, StandsFor}
use Rattle.decomposition.proofs.Sums.{sum_same, sum_add, sum_last, sum_some_term}
use Rattle.decomposition.proofs.Positions.{Position, here, first, second, third, at, over, position_through}
use Rattle.decomposition.proofs.Entries.{
  parts,
  cases_node,
  mentions_some,
  balance,
  tree_leaf,
  tree_step,
  names_ahead,
  last_free,
  conserved,
  leaves_none,
  step_path,
}

module _ (m : ℕ) (table : List Node) (order : InOrder m table) where
  abbrev len : ℕ
  len = length table

  abbrev f : ℕ → Node
  f = node table

  -- nothing is named twice
  named_at_most_once : (e : ℕ) → e < len → named_by f len e ≤ 1
  named_at_most_once e l =
      elim (cases_lt e (last table)) [
        | inl h ↦ omega (arith, order.named_once e h)
        | inr h ↦ omega (arith, last_free f len order.rising len e (omega arith) (omega arith))
      ]

  -- a sum over the unnamed entries is the last one's term
  root_alone : (w : ℕ → ℕ) → sum len (λ e. bit (unnamed f len e) * w e) ≡ w (last table)
  root_alone w =
      let z : ℕ = last table in
      let some = order.some in
      sum_last len (λ e. bit (unnamed f len e) * w e) some
      (λ e l. ap (λ b. bit b * w e) (ne_eqb (named_by f len e) 0 (λ q. omega (arith, order.named_once e l))) ∙ zero-mul (w e))
      ∙ ap (λ b. bit b * w z) (eq-eqb (named_by f len z) 0 (last_free f len order.rising len z (omega arith) (omega arith)))
      ∙ one-mul (w z)

  -- the last entry's tree names what the leaves name
  pub root_names : (d : ℕ) → occurs d (root table) ≡ leaves table d
  root_names d = sym (root_alone (λ e. occurs d (tree f e))) ∙ conserved f len order.rising named_at_most_once d

  pub root_names_below : NamesBelow m (root table)
  root_names_below d l = root_names d ∙ leaves_none f len m d order.listed l

  -- a sum over the entries is the sum over the nodes
  pub entries_over : (g : Tree → ℕ) → sum len (λ e. g (tree_at table e)) ≡ over g (root table)
  entries_over g =
      let w : ℕ → ℕ = (λ e. over g (tree f e)) in
      let s = sum_add len (λ e. g (tree f e)) (λ j. parts (f j) w) in
      let t = sum_same len (λ e. g (tree f e) + parts (f e) w) w (λ e l. one e l) in
      omega (arith, balance f len order.rising w named_at_most_once, s, t, root_alone w)
    where
      one : (e : ℕ) → e < len → g (tree f e) + parts (f e) (λ e. over g (tree f e)) ≡ over g (tree f e)
      one e l =
          elim (cases_node (f e)) [
            | inl p ↦
                (let q = tree_leaf f len order.rising e p.0 p.1 in
                omega (arith, ap g q, ap (over g) q, ap (λ x. parts x (λ e. over g (tree f e))) p.1))
            | inr p ↦
                (let q = tree_step f len order.rising e p.0 p.1 p.2 l p.3 in
                omega (arith, ap g q, ap (over g) q, ap (λ x. parts x (λ e. over g (tree f e))) p.3))
          ]

  -- an entry is a node below the step that names it
  named_position : (j e a b c : ℕ) → j < len → f j ≡ joins a b c → (e ≡ a) ⊎ ((e ≡ b) ⊎ (e ≡ c)) → (k : Position (tree f j)) × (at k ≡ tree f e)
  named_position j e a b c l q h =
      subst (λ t. (k : Position t) × (at k ≡ tree f e)) (sym (tree_step f len order.rising j a b c l q))
      (elim h [
        | inl p ↦ (first here, ap (tree f) (sym p))
        | inr r ↦ elim r [ inl p ↦ (second here, ap (tree f) (sym p)) | inr p ↦ (third here, ap (tree f) (sym p)) ]
      ])

  -- every entry is a node of the last one's tree
  pub entry_position : (e : ℕ) → e < len → (k : Position (root table)) × (at k ≡ tree_at table e)
  entry_position e l = up len e l (omega arith)
    where
      joined : (j e : ℕ) → (k : Position (tree f j)) × (at k ≡ tree f e) → (r : Position (root table)) × (at r ≡ tree f j)
          → (r : Position (root table)) × (at r ≡ tree f e)
      joined j e k r =
          let k' = subst (λ t. (k : Position t) × (at k ≡ tree f e)) (sym r.1) k in
          let p = position_through (root table) r.0 k'.0 in
          (p.0, p.1 ∙ k'.1)

      up : (k e : ℕ) → e < len → len ≤ e + k → (r : Position (root table)) × (at r ≡ tree f e)
      up zero e l h = absurd (omega arith)
      up (suc k) e l h =
          elim (cases_lt e (last table)) [
            | inr g ↦ (here, ap (tree f) (omega arith))
            | inl g ↦
                (let r = sum_some_term len (λ j. mentions (f j) e) (omega (arith, order.named_once e g)) in
                let j : ℕ = r.0 in
                let s = mentions_some (f j) e r.2 in
                let far = names_ahead f len order.rising j e r.1 r.2 in
                joined j e (named_position j e s.0 s.1 s.2 r.1 s.3 s.4) (up k j r.1 (omega arith)))
          ]

  -- an entry stands for its tree
  pub stands_for : (e : ℕ) → e < len → StandsFor table (tree f e) e
  stands_for e l = upto (suc e) e (omega arith) l
    where
      upto : (k e : ℕ) → e < k → e < len → StandsFor table (tree f e) e
      upto zero e h l = absurd (omega arith)
      upto (suc k) e h l =
          elim (cases_node (f e)) [
            | inl p ↦ subst (λ t. StandsFor table t e) (sym (tree_leaf f len order.rising e p.0 p.1)) p.1
            | inr p ↦
                (let r = order.rising e p.0 p.1 p.2 l p.3 in
                subst (λ t. StandsFor table t e) (sym (tree_step f len order.rising e p.0 p.1 p.2 l p.3)) (
                  p.0,
                  p.1,
                  p.2,
                  p.3,
                  upto k p.0 (omega arith) (omega arith),
                  upto k p.1 (omega arith) (omega arith),
                  upto k p.2 (omega arith) (omega arith),
                ))
          ]

  -- and for no other
  pub stands_for_one : (t : Tree) (e : ℕ) → e < len → StandsFor table t e → tree f e ≡ t
  stands_for_one (leaf d) e l s = tree_leaf f len order.rising e d s
  stands_for_one (step t u v) e l s =
      let r = order.rising e s.0 s.1 s.2 l s.3 in
      tree_step f len order.rising e s.0 s.1 s.2 l s.3
      ∙ step_path
      (stands_for_one t s.0 (omega arith) s.4)
      (stands_for_one u s.1 (omega arith) s.5)
      (stands_for_one v s.2 (omega arith) s.6)
