-- The test for hinged sets says what it should of sets below n.
use Rattle.std.proofs.Common.{◌≡◌, ℕ, ◌*◌, ◌<◌, true, ◌&&◌, eqb, sym, ap, ◌∙◌, inl, inr, mul-one, arith}
use Rattle.std.proofs.lemmas.Bool.{cases_eq, cases_Bool, eqb-true, eq-eqb, ne_eqb, and_parts, and_from}
use Rattle.decomposition.specs.Sets.{Subset, bit, count, meet}
use Rattle.decomposition.specs.Trees.{Hinged, hinge_test}
use Rattle.decomposition.proofs.Sums.{bit_set, sum_same, sum_some_term, sum_none, sum_term, sum_at, count_two}
use Rattle.decomposition.proofs.Hinges.{a_in_first, b_in_second, c_in_third, none_in_all, in_both}

-- one element below n, and the set has no other
pub count_single : (n : ℕ) (S : Subset) → ((i : ℕ) → S i ≡ true → i < n) → count n S ≡ 1 → (a : ℕ) × ((i : ℕ) → S i ≡ eqb i a)
count_single n S within h =
    let r = sum_some_term n (λ i. bit (S i)) (omega arith) in
    (r.0, is r.0 r.1 (bit_set (S r.0) r.2))
  where
    is : (a : ℕ) → a < n → S a ≡ true → (i : ℕ) → S i ≡ eqb i a
    is a l p i =
        elim (cases_eq i a) [
          | inl e ↦ ap S e ∙ p ∙ sym (eq-eqb i a e)
          | inr d ↦
              elim (cases_Bool (S i)) [
                | inl t ↦ absurd (omega (arith, count_two n S i a (within i t) l d t p))
                | inr t ↦ t ∙ sym (ne_eqb i a d)
              ]
        ]

-- a set of one element below n counts 1
pub single_count : (n : ℕ) (S : Subset) (a : ℕ) → a < n → ((i : ℕ) → S i ≡ eqb i a) → count n S ≡ 1
single_count n S a l h =
    sum_same n (λ i. bit (S i)) (λ i. bit (eqb i a) * 1) (λ i k. ap bit (h i) ∙ sym (mul-one (bit (eqb i a))))
    ∙ sum_at n a (λ i. 1) l

-- a set with no element counts 0, and the other way round
pub none_count : (n : ℕ) (S : Subset) → ((i : ℕ) → S i ≡ true → ⊥) → count n S ≡ 0
none_count n S h = sum_none n (λ i. bit (S i)) (λ i l. at i)
  where
    at : (i : ℕ) → bit (S i) ≡ 0
    at i = elim (cases_Bool (S i)) [ inl t ↦ absurd (h i t) | inr t ↦ ap bit t ]

pub count_none : (n : ℕ) (S : Subset) → count n S ≡ 0 → (i : ℕ) → i < n → S i ≡ true → ⊥
count_none n S h i l t = omega (arith, sum_term n i (λ i. bit (S i)) l, ap bit t)

module _ (n : ℕ) (A B C : Subset) (below_A : (i : ℕ) → A i ≡ true → i < n)
    (below_B : (i : ℕ) → B i ≡ true → i < n) (below_C : (i : ℕ) → C i ≡ true → i < n) where
  -- where the test passes the sets are hinged
  pub test_hinged : hinge_test n A B C ≡ true → (a : ℕ) × (b : ℕ) × (c : ℕ) × Hinged A B C a b c
  test_hinged h =
      let p = and_parts (eqb (count n (meet A B)) 1) _ h in
      let q = and_parts (eqb (count n (meet B C)) 1) _ p.1 in
      let r = and_parts (eqb (count n (meet C A)) 1) _ q.1 in
      let x = count_single n (meet A B) (λ i t. below_A i (and_parts (A i) (B i) t).0) (eqb-true (count n (meet A B)) 1 p.0) in
      let y = count_single n (meet B C) (λ i t. below_B i (and_parts (B i) (C i) t).0) (eqb-true (count n (meet B C)) 1 q.0) in
      let z = count_single n (meet C A) (λ i t. below_C i (and_parts (C i) (A i) t).0) (eqb-true (count n (meet C A)) 1 r.0) in
      let no = count_none n (meet A (meet B C)) (eqb-true (count n (meet A (meet B C))) 0 r.1) in
      let xa = in_both A B x.0 x.1 in
      let yb = in_both B C y.0 y.1 in
      let zc = in_both C A z.0 z.1 in
      let all : (i : ℕ) → A i ≡ true → B i ≡ true → C i ≡ true → ⊥ =
      (λ i s t u. no i (below_A i s) (and_from (A i) (B i && C i) s (and_from (B i) (C i) t u))) in (
        x.0,
        y.0,
        z.0,
        record {
          ab = x.1;
          bc = y.1;
          ca = z.1;
          a≢b = λ e. all x.0 xa.0 xa.1 (ap C e ∙ yb.1);
          b≢c = λ e. all y.0 (ap A e ∙ zc.1) yb.0 yb.1;
          c≢a = λ e. all z.0 zc.1 (ap B e ∙ xa.1) zc.0;
        },
      )

  -- where they are hinged it passes
  pub hinged_test : (a b c : ℕ) → Hinged A B C a b c → hinge_test n A B C ≡ true
  hinged_test a b c h =
      and_from (eqb (count n (meet A B)) 1) _ (eq-eqb (count n (meet A B)) 1 (single_count n (meet A B) a (below_A a (a_in_first h)) h.ab))
      (and_from (eqb (count n (meet B C)) 1) _ (eq-eqb (count n (meet B C)) 1 (single_count n (meet B C) b (below_B b (b_in_second h)) h.bc))
      (and_from (eqb (count n (meet C A)) 1) _ (eq-eqb (count n (meet C A)) 1 (single_count n (meet C A) c (below_C c (c_in_third h)) h.ca))
      (eq-eqb (count n (meet A (meet B C))) 0 (none_count n (meet A (meet B C)) none))))
    where
      none : (i : ℕ) → meet A (meet B C) i ≡ true → ⊥
      none i t =
          let p = and_parts (A i) (B i && C i) t in
          let q = and_parts (B i) (C i) p.1 in
          none_in_all h i p.0 q.0 q.1
