-- Three sets that are hinged, by what they share two by two.
use Rattle.std.proofs.Common.{◌≡◌, ℕ, ◌<◌, true, false, not, ◌&&◌, eqb, sym, refl, ◌∙◌, arith}
use Rattle.std.proofs.lemmas.Bool.{both_ways, eqb-true, eq-eqb, and_parts}
use Rattle.std.proofs.lemmas.Bool.Decides.{nat_tests}
use Rattle.decomposition.specs.Sets.{Subset, count, meet}
use Rattle.decomposition.specs.Trees.{Hinged, hinge_test}
use Rattle.decomposition.proofs.Sums.{bool_ext}
use Rattle.decomposition.proofs.HingeTest.{single_count, test_hinged, hinged_test}
use Rattle.decomposition.proofs.Hinges.{in_both}
use Rattle.graph.specs.ElementSets.{how_many, Shares}
use Rattle.graph.specs.declared.element_set.Shared.{Shared}
use Rattle.graph.specs.declared.element_set.Shared.TheVariants.{Nothing, One, Several}
use Rattle.plan.specs.Hinges.{hinges, share_one, all_differ}

same_one : (S : Subset) (k a : ℕ) → ((i : ℕ) → S i ≡ eqb i k) → ((i : ℕ) → S i ≡ eqb i a) → k ≡ a
same_one S k a p q = eqb-true k a (sym (q k) ∙ p k ∙ eq-eqb k k refl)

three_apart : (x y z a b c : ℕ) → x ≡ a → y ≡ b → z ≡ c → (a ≡ b → ⊥) → (b ≡ c → ⊥) → (c ≡ a → ⊥)
    → (not (eqb x y) && (not (eqb y z) && not (eqb z x))) ≡ true
three_apart x y z a b c p q r d e f = grind (arith, nat_tests)

apart_three : (x y z : ℕ) → (not (eqb x y) && (not (eqb y z) && not (eqb z x))) ≡ true → (x ≡ y → ⊥) × (y ≡ z → ⊥) × (z ≡ x → ⊥)
apart_three x y z h = (λ e. grind (arith, nat_tests), λ e. grind (arith, nat_tests), λ e. grind (arith, nat_tests))

test_counts : (n : ℕ) (A B C : Subset) → hinge_test n A B C ≡ true
    → (count n (meet A B) ≡ 1) × (count n (meet B C) ≡ 1) × (count n (meet C A) ≡ 1)
test_counts n A B C h =
    let p = and_parts (eqb (count n (meet A B)) 1) _ h in
    let q = and_parts (eqb (count n (meet B C)) 1) _ p.1 in
    let r = and_parts (eqb (count n (meet C A)) 1) _ q.1 in
    (eqb-true (count n (meet A B)) 1 p.0, eqb-true (count n (meet B C)) 1 q.0, eqb-true (count n (meet C A)) 1 r.0)

-- whether two sets share just one element, by what they have in common
module _ (A B : Subset) where
  pub one_shares : ((i : ℕ) → A i ≡ true → i < 64) → (k : ℕ) → Shares (meet A B) (One k) → share_one A B ≡ true
  unfolding how_many
  one_shares below k h = eq-eqb (count 64 (meet A B)) 1 (single_count 64 (meet A B) k (below k (in_both A B k h).0) h)

module _ (A B C : Subset) where
  hinges_counts : hinges A B C ≡ true → (how_many (meet A B) ≡ 1) × (how_many (meet B C) ≡ 1) × (how_many (meet C A) ≡ 1)
  unfolding hinges how_many
  hinges_counts h = test_counts 64 A B C h

  -- the first two of three hinged sets share one element
  pub hinges_shares : hinges A B C ≡ true → share_one A B ≡ true
  hinges_shares h = eq-eqb (how_many (meet A B)) 1 (hinges_counts h).0

  -- where a pair shares none or several the sets are not hinged
  unhinged : ((how_many (meet A B) ≡ 1) × (how_many (meet B C) ≡ 1) × (how_many (meet C A) ≡ 1) → ⊥) → false ≡ hinges A B C
  unhinged h = bool_ext false (hinges A B C) (λ e. absurd (both_ways false refl e)) (λ e. absurd (h (hinges_counts e)))

  module _ (below_A : (i : ℕ) → A i ≡ true → i < 64) (below_B : (i : ℕ) → B i ≡ true → i < 64) (below_C : (i : ℕ) → C i ≡ true → i < 64) where
    pub hinges_hinged : hinges A B C ≡ true → (a : ℕ) × (b : ℕ) × (c : ℕ) × Hinged A B C a b c
    unfolding hinges
    hinges_hinged h = test_hinged 64 A B C below_A below_B below_C h

    pub hinged_hinges : (a b c : ℕ) → Hinged A B C a b c → hinges A B C ≡ true
    unfolding hinges
    hinged_hinges a b c h = hinged_test 64 A B C below_A below_B below_C a b c h

    -- the three comparisons say whether the sets are hinged
    pub differ_hinges : (p q r : Shared) → Shares (meet A B) p → Shares (meet B C) q → Shares (meet C A) r → all_differ p q r ≡ hinges A B C
    differ_hinges Nothing q r f g h = unhinged (λ e. let k = e.0 in omega arith)
    differ_hinges Several q r f g h = unhinged (λ e. let k = e.0 in omega arith)
    differ_hinges (One x) Nothing r f g h = unhinged (λ e. let k = e.1 in omega arith)
    differ_hinges (One x) Several r f g h = unhinged (λ e. let k = e.1 in omega arith)
    differ_hinges (One x) (One y) Nothing f g h = unhinged (λ e. let k = e.2 in omega arith)
    differ_hinges (One x) (One y) Several f g h = unhinged (λ e. let k = e.2 in omega arith)
    differ_hinges (One x) (One y) (One z) f g h = bool_ext (all_differ (One x) (One y) (One z)) (hinges A B C) there back
      where
        there : all_differ (One x) (One y) (One z) ≡ true → hinges A B C ≡ true
        there e =
            let d = apart_three x y z e in
            hinged_hinges x y z (record { ab = f; bc = g; ca = h; a≢b = d.0; b≢c = d.1; c≢a = d.2 })

        back : hinges A B C ≡ true → all_differ (One x) (One y) (One z) ≡ true
        back e =
            let t = hinges_hinged e in
            let w = t.3 in
            three_apart x y z t.0 t.1 t.2
            (same_one (meet A B) x t.0 f w.ab) (same_one (meet B C) y t.1 g w.bc) (same_one (meet C A) z t.2 h w.ca)
            w.a≢b w.b≢c w.c≢a
