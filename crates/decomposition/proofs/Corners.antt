-- A tree decomposition is sparse, k elements have at most 2k - 3 edges among them, and as a whole it has as many.
use Rattle.std.proofs.Common.{◌≡◌, ℕ, ◌+◌, ◌*◌, ◌<◌, ◌≤◌, Bool, true, false, ◌&&◌, ◌||◌, eqb, ◌≢◌, ◌⊎◌, sym, refl, ap, ◌∙◌, inl, inr, arith}
use Rattle.std.proofs.lemmas.Bool.{cases_lt, eq-eqb, ne_eqb, eqb-true}
use Rattle.decomposition.specs.Sets.{Subset, bit, count, everything, meet}
use Rattle.decomposition.specs.Trees.{Tree, leaf, step, Hinged, reach, edges, part, Valid, Bounded}
use Rattle.decomposition.specs.Laws.{CornersLaw}
use Rattle.decomposition.proofs.Sums.{bit_at_most_one, sum_same, sum_add, sum_only, sum_two_terms}
use Rattle.decomposition.proofs.Trees.{leaf_names, reach_lower, reach_higher, bounded_first, bounded_second, bounded_third}
use Rattle.decomposition.proofs.Hinges.{a_in_first, a_in_second, b_in_second, b_in_third, c_in_third, c_in_first, none_in_all}

-- counts in a union

pub and_true : (s x : Bool) → x ≡ true → (s && x) ≡ s
and_true true x h = h
and_true false x h = refl

and_false : (s x : Bool) → x ≡ false → (s && x) ≡ false
and_false true x h = h
and_false false x h = refl

-- a set R with the one element a: S has it or not
one_count : (n : ℕ) (S R : Subset) (a : ℕ) → ((i : ℕ) → R i ≡ eqb i a) → a < n → count n (meet S R) ≡ bit (S a)
one_count n S R a h l =
    sum_only n a (λ i. bit (S i && R i)) l (λ i d. ap bit (and_false (S i) (R i) (h i ∙ ne_eqb i a d)))
    ∙ ap bit (and_true (S a) (R a) (h a ∙ eq-eqb a a refl))

-- the two elements a and b
two_count : (n : ℕ) (S : Subset) (a b : ℕ) → a < n → b < n → a ≢ b → count n (meet S (λ i. eqb i a || eqb i b)) ≡ bit (S a) + bit (S b)
two_count n S a b la lb d =
    let f = λ (i : ℕ). bit (S i && eqb i a) in
    let g = λ (i : ℕ). bit (S i && eqb i b) in
    let e = sum_same n (λ i. bit (S i && (eqb i a || eqb i b))) (λ i. f i + g i)
    (λ i l. bits (S i) (eqb i a) (eqb i b) (λ p q. d (sym (eqb-true i a p) ∙ eqb-true i b q))) in
    let e' = sum_add n f g in
    let x = one_count n S (λ i. eqb i a) a (λ i. refl) la in
    let y = one_count n S (λ i. eqb i b) b (λ i. refl) lb in
    omega arith
  where
    bits : (s x y : Bool) → (x ≡ true → y ≡ true → ⊥) → bit (s && (x || y)) ≡ bit (s && x) + bit (s && y)
    bits false x y h = refl
    bits true true true h = absurd (h refl refl)
    bits true true false h = refl
    bits true false true h = refl
    bits true false false h = refl

-- two different elements of R: those of them that are in S are among what S has of R
two_within : (n : ℕ) (S R : Subset) (a b : ℕ) → a < n → b < n → a ≢ b → R a ≡ true → R b ≡ true → bit (S a) + bit (S b) ≤ count n (meet S R)
two_within n S R a b la lb d p q =
    let t = sum_two_terms n a b (λ i. bit (S i && R i)) la lb d in
    let x = ap bit (and_true (S a) (R a) p) in
    let y = ap bit (and_true (S b) (R b) q) in
    omega arith

-- how the bits of a union of three go with those of the three and of what they share two by two
union_bits : (s x y z : Bool) → (x ≡ true → y ≡ true → z ≡ true → ⊥)
    → bit (s && (x || (y || z))) + (bit (s && (x && y)) + bit (s && (y && z)) + bit (s && (z && x))) ≡ bit (s && x) + bit (s && y) + bit (s && z)
union_bits false x y z h = refl
union_bits true true true true h = absurd (h refl refl refl)
union_bits true true true false h = refl
union_bits true true false true h = refl
union_bits true true false false h = refl
union_bits true false true true h = refl
union_bits true false true false h = refl
union_bits true false false true h = refl
union_bits true false false false h = refl

-- how many elements of S are in the union of three hinged sets
union_count : (A B C : Subset) (a b c : ℕ) → Hinged A B C a b c → (n : ℕ) → a < n → b < n → c < n → (S : Subset)
    → count n (meet S (λ i. A i || (B i || C i))) + (bit (S a) + bit (S b) + bit (S c)) ≡ count n (meet S A) + count n (meet S B) + count n (meet S C)
union_count A B C a b c h n la lb lc S =
    let fU = λ (i : ℕ). bit (S i && (A i || (B i || C i))) in
    let fab = λ (i : ℕ). bit (S i && (A i && B i)) in
    let fbc = λ (i : ℕ). bit (S i && (B i && C i)) in
    let fca = λ (i : ℕ). bit (S i && (C i && A i)) in
    let fA = λ (i : ℕ). bit (S i && A i) in
    let fB = λ (i : ℕ). bit (S i && B i) in
    let fC = λ (i : ℕ). bit (S i && C i) in
    let ha = one_count n S (λ i. A i && B i) a h.ab la in
    let hb = one_count n S (λ i. B i && C i) b h.bc lb in
    let hc = one_count n S (λ i. C i && A i) c h.ca lc in
    let e1 = sum_add n fab fbc in
    let e2 = sum_add n (λ i. fab i + fbc i) fca in
    let e3 = sum_add n fU (λ i. fab i + fbc i + fca i) in
    let e4 = sum_add n fA fB in
    let e5 = sum_add n (λ i. fA i + fB i) fC in
    let e6 = sum_same n (λ i. fU i + (fab i + fbc i + fca i)) (λ i. fA i + fB i + fC i) (λ i l. union_bits (S i) (A i) (B i) (C i) (none_in_all h i)) in
    omega arith

-- the arithmetic of a step

-- how k, the elements of a step, go with those of its children, k₁, k₂ and k₃, and the hinges among them, x, y and z
record Shares (k k₁ k₂ k₃ x y z : ℕ) : Type 0 where
  whole : k + (x + y + z) ≡ k₁ + k₂ + k₃
  in₁ : x + z ≤ k₁
  in₂ : x + y ≤ k₂
  in₃ : y + z ≤ k₃
  x≤1 : x ≤ 1
  y≤1 : y ≤ 1
  z≤1 : z ≤ 1

-- k elements have few edges, e
abbrev Few : ℕ → ℕ → Type 0
Few k e = (2 ≤ k → e + 3 ≤ 2 * k) × (k ≤ 1 → e ≡ 0)

-- the same by cases
abbrev FewCases : ℕ → ℕ → Type 0
FewCases k e = ((2 ≤ k) × (e + 3 ≤ 2 * k)) ⊎ ((k ≤ 1) × (e ≡ 0))

few_cases : (k e : ℕ) → Few k e → FewCases k e
few_cases k e h = elim (cases_lt 1 k) [ inl l ↦ inl (l, h.0 l) | inr l ↦ inr (l, h.1 l) ]

few_step : (k k₁ k₂ k₃ x y z e₁ e₂ e₃ : ℕ) → Shares k k₁ k₂ k₃ x y z → FewCases k₁ e₁ → FewCases k₂ e₂ → FewCases k₃ e₃ → Few k (e₁ + e₂ + e₃)
few_step k k₁ k₂ k₃ x y z e₁ e₂ e₃ s (inl p) (inl q) (inl r) = (λ h. omega arith, λ h. omega arith)
few_step k k₁ k₂ k₃ x y z e₁ e₂ e₃ s (inl p) (inl q) (inr r) = (λ h. omega arith, λ h. omega arith)
few_step k k₁ k₂ k₃ x y z e₁ e₂ e₃ s (inl p) (inr q) (inl r) = (λ h. omega arith, λ h. omega arith)
few_step k k₁ k₂ k₃ x y z e₁ e₂ e₃ s (inl p) (inr q) (inr r) = (λ h. omega arith, λ h. omega arith)
few_step k k₁ k₂ k₃ x y z e₁ e₂ e₃ s (inr p) (inl q) (inl r) = (λ h. omega arith, λ h. omega arith)
few_step k k₁ k₂ k₃ x y z e₁ e₂ e₃ s (inr p) (inl q) (inr r) = (λ h. omega arith, λ h. omega arith)
few_step k k₁ k₂ k₃ x y z e₁ e₂ e₃ s (inr p) (inr q) (inl r) = (λ h. omega arith, λ h. omega arith)
few_step k k₁ k₂ k₃ x y z e₁ e₂ e₃ s (inr p) (inr q) (inr r) = (λ h. omega arith, λ h. omega arith)

few_leaf : (x y : Bool) → Few (bit x + bit y) (bit (x && y))
few_leaf true true = (λ h. omega arith, λ h. omega arith)
few_leaf true false = (λ h. omega arith, λ h. omega arith)
few_leaf false true = (λ h. omega arith, λ h. omega arith)
few_leaf false false = (λ h. omega arith, λ h. omega arith)

-- the law

module _ (lower higher : ℕ → ℕ) (n : ℕ) where
  -- how many elements of S a leaf reaches
  count_leaf : (d : ℕ) → lower d ≢ higher d → Bounded lower higher n (leaf d) → (S : Subset)
      → part lower higher n S (leaf d) ≡ bit (S (lower d)) + bit (S (higher d))
  count_leaf d ne bound S =
      two_count n S (lower d) (higher d)
      (bound (lower d) (reach_lower lower higher (leaf d) d (leaf_names d))) (bound (higher d) (reach_higher lower higher (leaf d) d (leaf_names d))) ne

  module _ (t u v : Tree) (a b c : ℕ) (h : Hinged (reach lower higher t) (reach lower higher u) (reach lower higher v) a b c) (bound : Bounded lower higher n (step t u v)) where
    a_below : a < n
    a_below = bounded_first lower higher n t u v bound a (a_in_first h)

    b_below : b < n
    b_below = bounded_second lower higher n t u v bound b (b_in_second h)

    c_below : c < n
    c_below = bounded_third lower higher n t u v bound c (c_in_third h)

    -- how many elements of S a step reaches
    count_step : (S : Subset) → part lower higher n S (step t u v) + (bit (S a) + bit (S b) + bit (S c))
        ≡ part lower higher n S t + part lower higher n S u + part lower higher n S v
    count_step S = union_count (reach lower higher t) (reach lower higher u) (reach lower higher v) a b c h n a_below b_below c_below S

    shares : (S : Subset) → Shares (part lower higher n S (step t u v)) (part lower higher n S t) (part lower higher n S u) (part lower higher n S v)
        (bit (S a)) (bit (S b)) (bit (S c))
    shares S = record {
      whole = count_step S;
      in₁ = two_within n S (reach lower higher t) a c a_below c_below (λ e. h.c≢a (sym e)) (a_in_first h) (c_in_first h);
      in₂ = two_within n S (reach lower higher u) a b a_below b_below h.a≢b (a_in_second h) (b_in_second h);
      in₃ = two_within n S (reach lower higher v) b c b_below c_below h.b≢c (b_in_third h) (c_in_third h);
      x≤1 = bit_at_most_one (S a);
      y≤1 = bit_at_most_one (S b);
      z≤1 = bit_at_most_one (S c);
    }

-- the corner S of a tree has few edges
pub sparse : (lower higher : ℕ → ℕ) (n : ℕ) (t : Tree) → Valid lower higher t → Bounded lower higher n t → (S : Subset)
    → Few (part lower higher n S t) (edges lower higher S t)
sparse lower higher n (leaf d) ok bound S = rw (count_leaf lower higher n d ok bound S) (few_leaf (S (lower d)) (S (higher d)))
sparse lower higher n (step t u v) ok bound S =
    let h = ok.3 in
    let p = sparse lower higher n t ok.0 (bounded_first lower higher n t u v bound) S in
    let q = sparse lower higher n u ok.1 (bounded_second lower higher n t u v bound) S in
    let r = sparse lower higher n v ok.2 (bounded_third lower higher n t u v bound) S in
    few_step _ _ _ _ _ _ _ _ _ _ (shares lower higher n t u v h.0 h.1 h.2 h.3 bound S) (few_cases _ _ p) (few_cases _ _ q) (few_cases _ _ r)

-- as a whole a tree has as many edges as its elements allow
pub rigid : (lower higher : ℕ → ℕ) (n : ℕ) (t : Tree) → Valid lower higher t → Bounded lower higher n t
    → edges lower higher everything t + 3 ≡ 2 * count n (reach lower higher t)
rigid lower higher n (leaf d) ok bound = let e = count_leaf lower higher n d ok bound everything in omega arith
rigid lower higher n (step t u v) ok bound =
    let h = ok.3 in
    let p = rigid lower higher n t ok.0 (bounded_first lower higher n t u v bound) in
    let q = rigid lower higher n u ok.1 (bounded_second lower higher n t u v bound) in
    let r = rigid lower higher n v ok.2 (bounded_third lower higher n t u v bound) in
    let e = count_step lower higher n t u v h.0 h.1 h.2 h.3 bound everything in
    omega arith

pub corners : CornersLaw
corners lower higher n t ok bound = (sparse lower higher n t ok bound, rigid lower higher n t ok bound)
