-- A table that the merging rule has brought so far: its names are in order, it names each edge once, and it stays short.
use Rattle.std.proofs.Common.{◌≡◌, ℕ, zero, suc, ◌+◌, ◌*◌, ◌<◌, ◌≤◌, min, true, eqb, List, length, sym, ap, ◌∙◌, inl, inr, mul-one, arith}
use mathlib.Core.Path.{subst₃}
use Rattle.std.proofs.lemmas.Bool.{cases_eq, cases_lt, eqb-true, eq-eqb, ne_eqb}
use Rattle.decomposition.specs.Sets.{bit, sum}
use Rattle.decomposition.specs.Trees.{Valid, Bounded}
use Rattle.decomposition.specs.Lists.{Proper}
use Rattle.decomposition.specs.Tables.{Node, names, joins, mentions, marks, tree, named_by, unnamed, node, tree_at, leaves, last}
use Rattle.decomposition.specs.Merging.{CanJoin, Lowest, Underway}
use Rattle.decomposition.proofs.Sums.{sum_same, sum_constant, sum_term, sum_at}
use Rattle.decomposition.proofs.Trees.{bounded_leaf, bounded_step}
use Rattle.decomposition.proofs.Plans.{proper_leaf}
use Rattle.decomposition.proofs.Entries.{parts, leaf_or_step, joins_same, names_same, mentions_some, mentions_le, last_free, every, balance}

module _ (lower higher : ℕ → ℕ) (m : ℕ) (table : List Node) (underway : Underway lower higher m table) where
  abbrev len : ℕ
  len = length table

  abbrev f : ℕ → Node
  f = node table

  -- a step stands behind the leaves, and joins the lowest three
  underway_step : (e a b c : ℕ) → e < len → f e ≡ joins a b c → (m ≤ e) × Lowest lower higher table e a b c
  underway_step e a b c l q =
      elim (cases_lt e m) [
        | inl h ↦ absurd (leaf_or_step (f e) e a b c (underway.first e h) q)
        | inr h ↦
            (let r = underway.later e h l in
            let s = joins_same (sym r.3 ∙ q) in
            (h, subst₃ (λ x y z. Lowest lower higher table e x y z) s.0 s.1 s.2 r.4))
      ]

  pub underway_joins : (e a b c : ℕ) → e < len → f e ≡ joins a b c → CanJoin lower higher table e a b c
  underway_joins e a b c l q = (underway_step e a b c l q).1.can

  pub underway_rising : (e a b c : ℕ) → e < len → f e ≡ joins a b c → (a < b) × (b < c) × (c < e)
  underway_rising e a b c l q = let r = underway_joins e a b c l q in (r.i<j, r.j<k, r.k_below)

  -- a leaf is one of the first m entries
  underway_leaf : (e d : ℕ) → e < len → f e ≡ names d → (e < m) × (e ≡ d)
  underway_leaf e d l q =
      elim (cases_lt e m) [
        | inl h ↦ (h, names_same (sym (underway.first e h) ∙ q))
        | inr h ↦ (let r = underway.later e h l in absurd (leaf_or_step (f e) d r.0 r.1 r.2 q r.3))
      ]

  pub underway_listed : (e d : ℕ) → e < len → f e ≡ names d → d < m
  underway_listed e d l q = let r = underway_leaf e d l q in omega arith

  -- nothing is named twice
  pub underway_once : (k e : ℕ) → k ≤ len → named_by f k e ≤ 1
  underway_once zero e l = omega arith
  underway_once (suc k) e l = once (underway_once k e (omega arith))
    where
      once : named_by f k e ≤ 1 → named_by f (suc k) e ≤ 1
      once ih =
          elim (cases_lt 0 (mentions (f k) e)) [
            | inr h ↦ omega arith
            | inl h ↦
                (let r = mentions_some (f k) e h in
                let j = underway_joins k r.0 r.1 r.2 (omega arith) r.3 in
                let free : named_by f k e ≡ 0 =
                elim r.4 [
                  | inl p ↦ ap (named_by f k) p ∙ eqb-true (named_by f k r.0) 0 j.i_live
                  | inr s ↦
                      elim s [
                        | inl p ↦ ap (named_by f k) p ∙ eqb-true (named_by f k r.1) 0 j.j_live
                        | inr p ↦ ap (named_by f k) p ∙ eqb-true (named_by f k r.2) 0 j.k_live
                      ]
                ]
                in
                omega (arith, ap (λ x. mentions x e) r.3, mentions_le r.0 r.1 r.2 e j.i<j j.j<k))
          ]

  -- the last entry is unnamed
  pub underway_last : 1 ≤ len → unnamed f len (last table) ≡ true
  underway_last l = eq-eqb (named_by f len (last table)) 0 (last_free f len underway_rising len (last table) (omega arith) (omega arith))

  -- each edge has one leaf
  pub underway_leaves : (d : ℕ) → d < m → leaves table d ≡ 1
  underway_leaves d l =
      sum_same len (λ j. marks (f j) d) (λ j. bit (eqb j d) * 1) (λ j k. at j k ∙ sym (mul-one (bit (eqb j d))))
      ∙ sum_at len d (λ j. 1) (omega (arith, underway.enough))
    where
      swap : (x y : ℕ) → bit (eqb x y) ≡ bit (eqb y x)
      swap x y =
          elim (cases_eq x y) [
            | inl p ↦ ap bit (eq-eqb x y p ∙ sym (eq-eqb y x (sym p)))
            | inr p ↦ ap bit (ne_eqb x y p ∙ sym (ne_eqb y x (λ q. p (sym q))))
          ]

      at : (j : ℕ) → j < len → marks (f j) d ≡ bit (eqb j d)
      at j k =
          elim (cases_lt j m) [
            | inl h ↦ ap (λ x. marks x d) (underway.first j h) ∙ swap d j
            | inr h ↦ (let r = underway.later j h k in ap (λ x. marks x d) r.3 ∙ sym (ap bit (ne_eqb j d (omega arith))))
          ]

  -- of the entries below k three times as many are named as there are steps
  underway_parts : (k : ℕ) → k ≤ len → sum k (λ j. parts (f j) (λ e. 1)) + 3 * min k m ≡ 3 * k
  underway_parts zero l = omega arith
  underway_parts (suc k) l =
      let ih = underway_parts k (omega arith) in
      elim (cases_lt k m) [
        | inl h ↦ omega (arith, ap (λ x. parts x (λ e. 1)) (underway.first k h))
        | inr h ↦ (let r = underway.later k h (omega arith) in omega (arith, ap (λ x. parts x (λ e. 1)) r.3))
      ]

  -- three entries for each step are named, so each step leaves two fewer unnamed
  underway_length : sum len (λ e. bit (unnamed f len e) * 1) + 3 * len ≡ len + 3 * m
  underway_length =
      let b = balance f len underway_rising (λ e. 1) (λ e l. underway_once len e (omega arith)) in
      let p = underway_parts len (omega arith) in
      omega (arith, underway.enough, sum_constant len 1)

  -- so the table stays short
  pub underway_short : 1 ≤ length table → 2 * length table + 1 ≤ 3 * m
  underway_short l =
      let one = sum_term len (last table) (λ e. bit (unnamed f len e) * 1) (omega arith) in
      let free = ap (λ b. bit b * 1) (underway_last (omega arith)) in
      omega (arith, one, free, underway_length)

  -- a bound on the ends of the edges is one on what each entry reaches
  pub underway_bounded : (n : ℕ) → ((d : ℕ) → d < m → (lower d < n) × (higher d < n)) → (e : ℕ) → e < len → Bounded lower higher n (tree_at table e)
  underway_bounded n ends =
      every f len underway_rising (Bounded lower higher n)
      (λ e d l q. let h = ends d (underway_listed e d l q) in bounded_leaf lower higher n d h.0 h.1)
      (λ e a b c l q x y z. bounded_step lower higher n (tree f a) (tree f b) (tree f c) x y z)

  module _ (n : ℕ) (proper : Proper lower higher n m) where
    pub underway_within : (e : ℕ) → e < len → Bounded lower higher n (tree_at table e)
    underway_within = underway_bounded n (λ d l. let r = proper.rising d l in let w = proper.within d l in (omega arith, w))

    -- each entry's tree is valid
    pub underway_valid : (e : ℕ) → e < len → Valid lower higher (tree_at table e)
    underway_valid =
        every f len underway_rising (Valid lower higher)
        (λ e d l q. (proper_leaf lower higher n m proper d (underway_listed e d l q)).0)
        (λ e a b c l q x y z. (x, y, z, (underway_joins e a b c l q).hinges))
