-- Hinged sets: which elements they share, and their symmetries.
use Rattle.std.proofs.Common.{◌≡◌, ℕ, true, ◌&&◌, eqb, sym, refl, ◌∙◌, ap₂}
use mathlib.Core.Bool.{and_comm}
use Rattle.std.proofs.lemmas.Bool.{and_parts, and_from, eqb-true, eq-eqb}
use Rattle.decomposition.specs.Sets.{Subset}
use Rattle.decomposition.specs.Trees.{Hinged}

-- the element that two sets share is in both
pub in_both : (S R : Subset) (a : ℕ) → ((i : ℕ) → (S i && R i) ≡ eqb i a) → (S a ≡ true) × (R a ≡ true)
in_both S R a h = and_parts (S a) (R a) (h a ∙ eq-eqb a a refl)

-- and nothing else is
pub only_shared : (S R : Subset) (a : ℕ) → ((i : ℕ) → (S i && R i) ≡ eqb i a) → (i : ℕ) → S i ≡ true → R i ≡ true → i ≡ a
only_shared S R a h i s r = eqb-true i a (sym (h i) ∙ and_from (S i) (R i) s r)

module _ {A B C : Subset} {a b c : ℕ} (h : Hinged A B C a b c) where
  -- what each hinge is in
  pub a_in_first : A a ≡ true
  a_in_first = (in_both A B a h.ab).0

  pub a_in_second : B a ≡ true
  a_in_second = (in_both A B a h.ab).1

  pub b_in_second : B b ≡ true
  b_in_second = (in_both B C b h.bc).0

  pub b_in_third : C b ≡ true
  b_in_third = (in_both B C b h.bc).1

  pub c_in_third : C c ≡ true
  c_in_third = (in_both C A c h.ca).0

  pub c_in_first : A c ≡ true
  c_in_first = (in_both C A c h.ca).1

  -- no element is in all three
  pub none_in_all : (i : ℕ) → A i ≡ true → B i ≡ true → C i ≡ true → ⊥
  none_in_all i p q r = h.a≢b (sym (only_shared A B a h.ab i p q) ∙ only_shared B C b h.bc i q r)

  -- the first set goes behind the others
  pub hinged_turn : Hinged B C A b c a
  hinged_turn = record { ab = h.bc; bc = h.ca; ca = h.ab; a≢b = h.b≢c; b≢c = h.c≢a; c≢a = h.a≢b }

  -- the first two sets change places
  pub hinged_swap : Hinged B A C a c b
  hinged_swap = record {
    ab = λ i. and_comm (B i) (A i) ∙ h.ab i;
    bc = λ i. and_comm (A i) (C i) ∙ h.ca i;
    ca = λ i. and_comm (C i) (B i) ∙ h.bc i;
    a≢b = λ e. h.c≢a (sym e);
    b≢c = λ e. h.b≢c (sym e);
    c≢a = λ e. h.a≢b (sym e);
  }

-- sets with the same elements as hinged sets
pub hinged_same : {A B C A' B' C' : Subset} {a b c : ℕ} → ((i : ℕ) → A i ≡ A' i) → ((i : ℕ) → B i ≡ B' i) → ((i : ℕ) → C i ≡ C' i)
    → Hinged A B C a b c → Hinged A' B' C' a b c
hinged_same p q r h = record {
  ab = λ i. sym (ap₂ ◌&&◌ (p i) (q i)) ∙ h.ab i;
  bc = λ i. sym (ap₂ ◌&&◌ (q i) (r i)) ∙ h.bc i;
  ca = λ i. sym (ap₂ ◌&&◌ (r i) (p i)) ∙ h.ca i;
  a≢b = h.a≢b;
  b≢c = h.b≢c;
  c≢a = h.c≢a;
}
