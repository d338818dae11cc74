-- Sets of elements as tests on numbers, sums, and how many elements below a bound a set has.
use Rattle.std.specs.Prelude.{ℕ, zero, suc, ◌+◌, Bool, true, false, ◌&&◌, ◌||◌}

-- a set of elements: the test that its members pass
abbrev pub Subset : Type 0
Subset = ℕ → Bool

-- 1 where the test passes, else 0
abbrev pub bit : Bool → ℕ
bit true = 1
bit false = 0

-- the sum of f i over every i below n
abbrev pub sum : ℕ → (ℕ → ℕ) → ℕ
sum zero f = 0
sum (suc n) f = sum n f + f n

-- how many numbers below n are in S
abbrev pub count : ℕ → Subset → ℕ
count n S = sum n (λ i. bit (S i))

-- the set of all numbers
abbrev pub everything : Subset
everything i = true

-- what is in both sets
abbrev pub meet : Subset → Subset → Subset
meet S R i = S i && R i

-- some number below n is in S
abbrev pub any : ℕ → Subset → Bool
any zero S = false
any (suc n) S = S n || any n S
