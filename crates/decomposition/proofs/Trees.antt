-- What a tree reaches and names, and how its edges are counted.
use Rattle.std.proofs.Common.{◌≡◌, ℕ, zero, suc, ◌+◌, ◌*◌, ◌<◌, true, eqb, ltb, ◌≢◌, ◌⊎◌, sym, refl, ap, ◌∙◌, ap₂, inl, inr, add-mul, arith}
use Rattle.std.proofs.lemmas.Bool.{cases_eq, cases_lt, eqb-true, eq-eqb, ne_eqb, ltb-true, lt-ltb, or_left, or_right, or_cases, and_from}
use Rattle.decomposition.specs.Sets.{Subset, bit, sum, everything}
use Rattle.decomposition.specs.Trees.{Tree, leaf, step, occurs, reach, inside, edges, Valid, Bounded}
use Rattle.decomposition.specs.Lists.{NamesBelow}
use Rattle.decomposition.proofs.Sums.{or_first, or_second, or_third, or_which, sum_same, sum_add, sum_at}

-- names

-- of three numbers with a sum above 0 one is above 0
pub some_summand : (a b c : ℕ) → 0 < a + b + c → (0 < a) ⊎ ((0 < b) ⊎ (0 < c))
some_summand zero zero c h = inr (inr (omega arith))
some_summand zero (suc b) c h = inr (inl (omega arith))
some_summand (suc a) b c h = inl (omega arith)

-- a leaf names its edge
pub leaf_names : (d : ℕ) → 0 < occurs d (leaf d)
leaf_names d = omega (arith, ap bit (eq-eqb d d refl))

-- and no other
pub leaf_names_only : (d e : ℕ) → 0 < occurs d (leaf e) → d ≡ e
leaf_names_only d e h = elim (cases_eq d e) [ inl p ↦ p | inr p ↦ absurd (omega (arith, ap bit (ne_eqb d e p))) ]

-- a tree names an edge
pub some_name : (t : Tree) → (d : ℕ) × (0 < occurs d t)
some_name (leaf d) = (d, leaf_names d)
some_name (step t u v) = let r = some_name t in (r.0, omega (arith, r.1))

module _ (lower higher : ℕ → ℕ) where
  -- what a tree reaches

  -- what a child reaches the step reaches
  pub reach_first : (t u v : Tree) (i : ℕ) → reach lower higher t i ≡ true → reach lower higher (step t u v) i ≡ true
  reach_first t u v i h = or_first (reach lower higher t i) (reach lower higher u i) (reach lower higher v i) h

  pub reach_second : (t u v : Tree) (i : ℕ) → reach lower higher u i ≡ true → reach lower higher (step t u v) i ≡ true
  reach_second t u v i h = or_second (reach lower higher t i) (reach lower higher u i) (reach lower higher v i) h

  pub reach_third : (t u v : Tree) (i : ℕ) → reach lower higher v i ≡ true → reach lower higher (step t u v) i ≡ true
  reach_third t u v i h = or_third (reach lower higher t i) (reach lower higher u i) (reach lower higher v i) h

  -- a set that has what each child reaches has what the step reaches
  pub reach_step : (t u v : Tree) (S : Subset) → ((i : ℕ) → reach lower higher t i ≡ true → S i ≡ true)
      → ((i : ℕ) → reach lower higher u i ≡ true → S i ≡ true) → ((i : ℕ) → reach lower higher v i ≡ true → S i ≡ true)
      → (i : ℕ) → reach lower higher (step t u v) i ≡ true → S i ≡ true
  reach_step t u v S p q r i h =
      elim (or_which (reach lower higher t i) (reach lower higher u i) (reach lower higher v i) h) [
        | inl k ↦ p i k
        | inr k ↦ elim k [ inl l ↦ q i l | inr l ↦ r i l ]
      ]

  -- a tree reaches both ends of an edge that it names
  pub reach_lower : (t : Tree) (d : ℕ) → 0 < occurs d t → reach lower higher t (lower d) ≡ true
  reach_lower (leaf e) d h =
      or_left (eqb (lower d) (lower e)) (eqb (lower d) (higher e)) (eq-eqb (lower d) (lower e) (ap lower (leaf_names_only d e h)))
  reach_lower (step t u v) d h =
      elim (some_summand (occurs d t) (occurs d u) (occurs d v) h) [
        | inl k ↦ reach_first t u v (lower d) (reach_lower t d k)
        | inr r ↦ elim r [ inl k ↦ reach_second t u v (lower d) (reach_lower u d k) | inr k ↦ reach_third t u v (lower d) (reach_lower v d k) ]
      ]

  pub reach_higher : (t : Tree) (d : ℕ) → 0 < occurs d t → reach lower higher t (higher d) ≡ true
  reach_higher (leaf e) d h =
      or_right (eqb (higher d) (lower e)) (eqb (higher d) (higher e)) (eq-eqb (higher d) (higher e) (ap higher (leaf_names_only d e h)))
  reach_higher (step t u v) d h =
      elim (some_summand (occurs d t) (occurs d u) (occurs d v) h) [
        | inl k ↦ reach_first t u v (higher d) (reach_higher t d k)
        | inr r ↦ elim r [ inl k ↦ reach_second t u v (higher d) (reach_higher u d k) | inr k ↦ reach_third t u v (higher d) (reach_higher v d k) ]
      ]

  -- a set that has both ends of each edge that a tree names has all that the tree reaches
  reach_within : (t : Tree) (S : Subset) → ((d : ℕ) → 0 < occurs d t → (S (lower d) ≡ true) × (S (higher d) ≡ true))
      → (i : ℕ) → reach lower higher t i ≡ true → S i ≡ true
  reach_within (leaf e) S h i r =
      let g = h e (leaf_names e) in
      elim (or_cases (eqb i (lower e)) (eqb i (higher e)) r) [
        | inl k ↦ ap S (eqb-true i (lower e) k) ∙ g.0
        | inr k ↦ ap S (eqb-true i (higher e) k) ∙ g.1
      ]
  reach_within (step t u v) S h i r =
      reach_step t u v S
      (reach_within t S (λ d k. h d (omega arith)))
      (reach_within u S (λ d k. h d (omega arith)))
      (reach_within v S (λ d k. h d (omega arith)))
      i r

  -- a tree that names all that another names reaches all that the other reaches
  pub reach_more : (t u : Tree) → ((d : ℕ) → 0 < occurs d t → 0 < occurs d u)
      → (i : ℕ) → reach lower higher t i ≡ true → reach lower higher u i ≡ true
  reach_more t u h = reach_within t (reach lower higher u) (λ d k. (reach_lower u d (h d k), reach_higher u d (h d k)))

  -- the ends of an edge that a tree decomposition names differ
  pub ends_differ : (t : Tree) → Valid lower higher t → (d : ℕ) → 0 < occurs d t → lower d ≢ higher d
  ends_differ (leaf e) ok d h = rw (leaf_names_only d e h) ok
  ends_differ (step t u v) ok d h =
      elim (some_summand (occurs d t) (occurs d u) (occurs d v) h) [
        | inl k ↦ ends_differ t ok.0 d k
        | inr r ↦ elim r [ inl k ↦ ends_differ u ok.1 d k | inr k ↦ ends_differ v ok.2 d k ]
      ]

  -- a bound on a step is one on its children
  pub bounded_first : (n : ℕ) (t u v : Tree) → Bounded lower higher n (step t u v) → Bounded lower higher n t
  bounded_first n t u v h i m = h i (reach_first t u v i m)

  pub bounded_second : (n : ℕ) (t u v : Tree) → Bounded lower higher n (step t u v) → Bounded lower higher n u
  bounded_second n t u v h i m = h i (reach_second t u v i m)

  pub bounded_third : (n : ℕ) (t u v : Tree) → Bounded lower higher n (step t u v) → Bounded lower higher n v
  bounded_third n t u v h i m = h i (reach_third t u v i m)

  -- and a bound on its children one on the step
  pub bounded_step : (n : ℕ) (t u v : Tree) → Bounded lower higher n t → Bounded lower higher n u → Bounded lower higher n v
      → Bounded lower higher n (step t u v)
  bounded_step n t u v p q r i h =
      ltb-true i n
      (reach_step t u v (λ j. ltb j n) (λ j k. lt-ltb j n (p j k)) (λ j k. lt-ltb j n (q j k)) (λ j k. lt-ltb j n (r j k)) i h)

  -- a bound on both ends of an edge is one on its leaf
  pub bounded_leaf : (n d : ℕ) → lower d < n → higher d < n → Bounded lower higher n (leaf d)
  bounded_leaf n d p q i h =
      elim (or_cases (eqb i (lower d)) (eqb i (higher d)) h) [
        | inl k ↦ omega (arith, eqb-true i (lower d) k)
        | inr k ↦ omega (arith, eqb-true i (higher d) k)
      ]

  -- how a tree's edges are counted

  -- a set that has all that a tree reaches has every edge of it
  pub edges_all : (S : Subset) (t : Tree) → ((i : ℕ) → reach lower higher t i ≡ true → S i ≡ true)
      → edges lower higher S t ≡ edges lower higher everything t
  edges_all S (leaf d) h =
      ap bit (and_from (S (lower d)) (S (higher d))
      (h (lower d) (reach_lower (leaf d) d (leaf_names d))) (h (higher d) (reach_higher (leaf d) d (leaf_names d))))
  edges_all S (step t u v) h =
      ap₂ ◌+◌
      (ap₂ ◌+◌ (edges_all S t (λ i m. h i (reach_first t u v i m))) (edges_all S u (λ i m. h i (reach_second t u v i m))))
      (edges_all S v (λ i m. h i (reach_third t u v i m)))

  -- the edges of a tree inside S, added up by name
  pub edges_by_name : (m : ℕ) (S : Subset) (t : Tree) → NamesBelow m t
      → edges lower higher S t ≡ sum m (λ d. occurs d t * bit (inside lower higher S d))
  edges_by_name m S (leaf e) h =
      elim (cases_lt e m) [
        | inl l ↦ sym (sum_at m e (λ d. bit (inside lower higher S d)) l)
        | inr l ↦ absurd (omega (arith, h e l, leaf_names e))
      ]
  edges_by_name m S (step t u v) h =
      let w : ℕ → ℕ = (λ d. bit (inside lower higher S d)) in
      let p = edges_by_name m S t (λ d l. omega (arith, h d l)) in
      let q = edges_by_name m S u (λ d l. omega (arith, h d l)) in
      let r = edges_by_name m S v (λ d l. omega (arith, h d l)) in
      let x = sum_same m (λ d. occurs d (step t u v) * w d) (λ d. occurs d t * w d + occurs d u * w d + occurs d v * w d)
      (λ d l. add-mul (occurs d t + occurs d u) (occurs d v) (w d) ∙ ap (λ k. k + occurs d v * w d) (add-mul (occurs d t) (occurs d u) (w d))) in
      let y = sum_add m (λ d. occurs d t * w d + occurs d u * w d) (λ d. occurs d v * w d) in
      let z = sum_add m (λ d. occurs d t * w d) (λ d. occurs d u * w d) in
      ap₂ ◌+◌ (ap₂ ◌+◌ p q) r ∙ sym (x ∙ y ∙ ap (λ k. k + sum m (λ d. occurs d v * w d)) z)
