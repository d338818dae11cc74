-- What two sets share, read off their bits.
use Rattle.std.proofs.Common.{◌≡◌, ℕ, ◌^◌, ◌<◌, ◌≤◌, true, false, sym, refl, ◌∙◌, arith}
use Rattle.std.proofs.lemmas.Nat.{pow_below}
use Rattle.std.proofs.lemmas.Bool.{both_ways, false_from_ne_true, eq-eqb}
use Rattle.decomposition.specs.Sets.{Subset, count}
use Rattle.decomposition.proofs.HingeTest.{count_single, none_count, count_none}
use Rattle.graph.specs.ElementSets.{has, how_many}
use Rattle.graph.proofs.Bits.{has_none, has_one, has_below, same_bits}

-- nothing is shared
pub nothing : (S : Subset) → ((i : ℕ) → S i ≡ false) → how_many S ≡ 0
unfolding how_many
nothing S h = none_count 64 S (λ i. both_ways (S i) (h i))

module _ (bits : ℕ) (S : Subset) (fits : bits < 2 ^ 64) (same : (i : ℕ) → has bits i ≡ S i) where
  within : (i : ℕ) → S i ≡ true → i < 64
  within i t = has_below 64 bits i fits (same i ∙ t)

  -- what is neither nothing nor one is more
  pub several : (bits ≡ 0 → ⊥) → ((k : ℕ) → bits ≡ 2 ^ k → ⊥) → 2 ≤ how_many S
  unfolding how_many
  several some more = omega (arith, none, one)
    where
      none : count 64 S ≡ 0 → ⊥
      none p =
          let empty : (j : ℕ) → S j ≡ false = λ j. false_from_ne_true (S j) (λ t. count_none 64 S p j (within j t) t) in
          some (same_bits 64 bits 0 fits (omega arith) (λ j. same j ∙ empty j ∙ sym (has_none j)))

      one : count 64 S ≡ 1 → ⊥
      one q =
          let s = count_single 64 S within q in
          let low : s.0 < 64 = within s.0 (s.1 s.0 ∙ eq-eqb s.0 s.0 refl) in
          more s.0 (same_bits 64 bits (2 ^ s.0) fits (pow_below s.0 64 low) (λ j. same j ∙ s.1 j ∙ sym (has_one s.0 j)))
