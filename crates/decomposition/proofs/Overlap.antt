-- Two different parts of a merge share at most one element.
use Rattle.std.proofs.Common.{◌≡◌, ℕ, ◌*◌, ◌<◌, ◌≤◌, Bool, true, false, ◌&&◌, eqb, ◌≢◌, sym, refl, ap, ◌∙◌, inl, inr, one-mul, zero-mul, arith}
use Rattle.std.proofs.lemmas.Bool.{cases_eq, cases_lt, cases_Bool, eq-eqb, ne_eqb, or_left, or_right, and_from, and_parts}
use Rattle.decomposition.specs.Sets.{Subset, bit, sum, count, meet}
use Rattle.decomposition.specs.Trees.{Tree, occurs, reach, inside, edges}
use Rattle.decomposition.specs.Lists.{NamesBelow, Plan}
use Rattle.decomposition.specs.Forest.{Forest}
use Rattle.decomposition.specs.Laws.{OverlapLaw}
use Rattle.decomposition.proofs.Sums.{
  sum_same,
  sum_none,
  sum_scale,
  sum_swap,
  sum_term,
  sum_two_terms,
  count_le,
  count_two,
  join,
  count_join,
}
use Rattle.decomposition.proofs.Trees.{edges_all, edges_by_name}
use Rattle.decomposition.proofs.Corners.{sparse, rigid}

-- a sum that stands under a test
tested_sum : (m x : ℕ) (f w : ℕ → ℕ) (b : Bool) → (b ≡ true → x ≡ sum m (λ d. f d * w d)) → bit b * x ≡ sum m (λ d. bit b * f d * w d)
tested_sum m x f w true h =
    one-mul x ∙ h refl ∙ sum_same m (λ d. f d * w d) (λ d. 1 * f d * w d) (λ d l. ap (λ k. k * w d) (sym (one-mul (f d))))
tested_sum m x f w false h =
    zero-mul x ∙ sym (sum_none m (λ d. 0 * f d * w d) (λ d l. ap (λ k. k * w d) (zero-mul (f d)) ∙ zero-mul (w d)))

module _ (lower higher : ℕ → ℕ) (n m len : ℕ) (P : Tree) (F : ℕ → Tree) (live : ℕ → Bool) (plan : Plan lower higher n m P)
    (forest : Forest lower higher n m len F live) where
  -- a live tree names only the m edges
  live_names_below : (i : ℕ) → i < len → live i ≡ true → NamesBelow m (F i)
  live_names_below i l e d h =
      let t = sum_term len i (λ j. bit (live j) * occurs d (F j)) l in
      omega (arith, forest.only d h, ap (λ b. bit b * occurs d (F i)) e, one-mul (occurs d (F i)))

  -- P names what a live tree names
  pub whole_names : (i : ℕ) → i < len → live i ≡ true → (d : ℕ) → 0 < occurs d (F i) → 0 < occurs d P
  whole_names i l e d h =
      elim (cases_lt d m) [ inl k ↦ omega (arith, plan.once d k) | inr k ↦ absurd (omega (arith, live_names_below i l e d k)) ]

  -- the edges of a live tree inside S, by name; of another tree, none
  live_edges : (S : Subset) (i : ℕ) → i < len
      → bit (live i) * edges lower higher S (F i) ≡ sum m (λ d. bit (live i) * occurs d (F i) * bit (inside lower higher S d))
  live_edges S i l =
      tested_sum m (edges lower higher S (F i)) (λ d. occurs d (F i)) (λ d. bit (inside lower higher S d)) (live i)
      (λ e. edges_by_name lower higher m S (F i) (live_names_below i l e))

  -- the edges of P inside S are those of the live trees
  forest_edges : (S : Subset) → edges lower higher S P ≡ sum len (λ i. bit (live i) * edges lower higher S (F i))
  forest_edges S =
      let w : ℕ → ℕ = (λ d. bit (inside lower higher S d)) in
      let g : ℕ → ℕ → ℕ = (λ i d. bit (live i) * occurs d (F i)) in
      edges_by_name lower higher m S P plan.only
      ∙ sum_same m (λ d. occurs d P * w d) (λ d. sum len (λ i. g i d) * w d)
      (λ d l. ap (λ k. k * w d) (plan.once d l ∙ sym (forest.once d l)))
      ∙ sum_same m (λ d. sum len (λ i. g i d) * w d) (λ d. sum len (λ i. g i d * w d)) (λ d l. sym (sum_scale len (w d) (λ i. g i d)))
      ∙ sum_swap m len (λ d i. g i d * w d)
      ∙ sum_same len (λ i. sum m (λ d. g i d * w d)) (λ i. bit (live i) * edges lower higher S (F i)) (λ i l. sym (live_edges S i l))

  -- what two live trees reach has no room for two shared elements
  shares_few : (i j : ℕ) → i < len → j < len → live i ≡ true → live j ≡ true → i ≢ j
      → count n (meet (reach lower higher (F i)) (reach lower higher (F j))) ≤ 1
  shares_few i j li lj ei ej d =
      let A : Subset = reach lower higher (F i) in
      let B : Subset = reach lower higher (F j) in
      let S : Subset = join A B in
      let ra = rigid lower higher n (F i) (forest.valid i li ei) (forest.bounded i li ei) in
      let rb = rigid lower higher n (F j) (forest.valid j lj ej) (forest.bounded j lj ej) in
      let ea = edges_all lower higher S (F i) (λ x h. or_left (A x) (B x) h) in
      let eb = edges_all lower higher S (F j) (λ x h. or_right (A x) (B x) h) in
      let two = sum_two_terms len i j (λ i. bit (live i) * edges lower higher S (F i)) li lj d in
      let oi = ap (λ b. bit b * edges lower higher S (F i)) ei ∙ one-mul (edges lower higher S (F i)) in
      let oj = ap (λ b. bit b * edges lower higher S (F j)) ej ∙ one-mul (edges lower higher S (F j)) in
      let all = forest_edges S in
      let both = count_join n A B in
      let less = count_le n (meet S (reach lower higher P)) S (λ x h. (and_parts (S x) (reach lower higher P x) h).0) in
      let small = count_le n (meet A B) A (λ x h. (and_parts (A x) (B x) h).0) in
      let few = sparse lower higher n P plan.valid plan.bounded S in
      elim (cases_lt 1 (count n (meet A B))) [
        | inr h ↦ h
        | inl h ↦
            elim (cases_lt 1 (count n (meet S (reach lower higher P)))) [
              | inl k ↦ (let most = few.0 k in absurd (omega arith))
              | inr k ↦ (let none = few.1 k in absurd (omega arith))
            ]
      ]

  -- live trees that share two different elements are one
  pub same_tree : (i j : ℕ) → i < len → j < len → live i ≡ true → live j ≡ true → (x y : ℕ) → x ≢ y
      → reach lower higher (F i) x ≡ true → reach lower higher (F i) y ≡ true → reach lower higher (F j) x ≡ true → reach lower higher (F j) y ≡ true
      → i ≡ j
  same_tree i j li lj ei ej x y d ix iy jx jy =
      let A : Subset = reach lower higher (F i) in
      let B : Subset = reach lower higher (F j) in
      let bound = forest.bounded i li ei in
      let two = count_two n (meet A B) x y (bound x ix) (bound y iy) d (and_from (A x) (B x) ix jx) (and_from (A y) (B y) iy jy) in
      elim (cases_eq i j) [ inl e ↦ e | inr e ↦ absurd (omega (arith, shares_few i j li lj ei ej e)) ]

  -- different live trees that share x share x alone
  pub shares_one : (i j : ℕ) → i < len → j < len → live i ≡ true → live j ≡ true → i ≢ j
      → (x : ℕ) → reach lower higher (F i) x ≡ true → reach lower higher (F j) x ≡ true
      → (y : ℕ) → (reach lower higher (F i) y && reach lower higher (F j) y) ≡ eqb y x
  shares_one i j li lj ei ej d x ix jx y =
      let A : Subset = reach lower higher (F i) in
      let B : Subset = reach lower higher (F j) in
      elim (cases_eq y x) [
        | inl e ↦ ap (λ z. A z && B z) e ∙ and_from (A x) (B x) ix jx ∙ sym (eq-eqb y x e)
        | inr e ↦
            elim (cases_Bool (A y && B y)) [
              | inl t ↦ (let r = and_parts (A y) (B y) t in absurd (d (same_tree i j li lj ei ej y x e r.0 ix r.1 jx)))
              | inr f ↦ f ∙ sym (ne_eqb y x e)
            ]
      ]

pub overlap : OverlapLaw
overlap lower higher n m len P F live plan forest = shares_few lower higher n m len P F live plan forest
