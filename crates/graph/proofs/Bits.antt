-- What the operations on bits do to the members of a set, at any width.
use Rattle.std.proofs.Common.{◌≡◌, ℕ, zero, suc, ◌*◌, ◌/◌, ◌%◌, ◌^◌, ◌<◌, ◌≤◌, true, false, ◌&&◌, ◌||◌, eqb, ltb, refl, ap, arith, pow_mono}
use lib.Bits.{bit_and, bit_or}
use lib.Count.{count_trailing_zeros}
use Rattle.std.proofs.lemmas.Nat.{one_shl}
use Rattle.std.proofs.lemmas.Nat.Bits.{bit_at-zero, bit_at_and, bit_at_or, bit_at_above, bit_at-pow_same, bit_at-pow_other, shr_and_one, same_from_bits_below}
use Rattle.std.proofs.lemmas.Bool.Decides.{nat_tests}
use Rattle.graph.specs.ElementSets.{has}

pub has_none : (j : ℕ) → has 0 j ≡ false
unfolding has
has_none j = rw bit_at-zero

pub has_or : (a b j : ℕ) → has (bit_or a b) j ≡ (has a j || has b j)
unfolding has
has_or a b j = grind (arith, nat_tests, bit_at_or a b j)

pub has_and : (a b j : ℕ) → has (bit_and a b) j ≡ (has a j && has b j)
unfolding has
has_and a b j = grind (arith, nat_tests, bit_at_and a b j)

-- a bit that is read by a shift and a mask
pub has_read : (a i : ℕ) → eqb (bit_and (a / 2 ^ i) 1) 1 ≡ has a i
unfolding has
has_read a i = ap (λ x. eqb x 1) (shr_and_one a i)

-- a power of two has one member
pub has_one : (i j : ℕ) → has (2 ^ i) j ≡ eqb j i
unfolding has
has_one i j = grind (arith, nat_tests, bit_at-pow_same i, bit_at-pow_other i j)

-- a number of w bits has no member from w on
pub has_past : (w bits i : ℕ) → bits < 2 ^ w → w ≤ i → has bits i ≡ false
unfolding has
has_past w bits i h l = ap (λ x. eqb x 1) (bit_at_above bits w i h l)

pub has_below : (w bits i : ℕ) → bits < 2 ^ w → has bits i ≡ true → i < w
has_below w bits i h t = grind (arith, has_past w bits i h)

-- a member more, below w and past it
pub has_with : (w a i j : ℕ) → i < w → has (bit_or a ((1 * 2 ^ i) % 2 ^ w)) j ≡ (has a j || (ltb i w && eqb j i))
has_with w a i j h = grind (arith, nat_tests, has_or a ((1 * 2 ^ i) % 2 ^ w) j, one_shl i w h, has_one i j)

-- numbers with the same members are the same
pub same_bits : (w a b : ℕ) → a < 2 ^ w → b < 2 ^ w → ((j : ℕ) → has a j ≡ has b j) → a ≡ b
unfolding has
same_bits w a b p q h = same_from_bits_below w a b p q (λ j l. grind (arith, nat_tests, h j))

trailing_pow : (w k : ℕ) → k < w → count_trailing_zeros w (2 ^ k) ≡ k
unfolding count_trailing_zeros
trailing_pow zero k h = omega arith
trailing_pow (suc w) zero h = refl
trailing_pow (suc w) (suc k) h = grind (arith, trailing_pow w k)

-- a power of two that fits is found by its zeros
pub trailing_only : (w n k : ℕ) → n < 2 ^ w → n ≡ 2 ^ k → (count_trailing_zeros w n < w) × (n ≡ (1 * 2 ^ count_trailing_zeros w n) % 2 ^ w)
trailing_only w n k fits e = grind (arith, trailing_pow w k, one_shl k w, pow_mono {i = w} {j = k})
