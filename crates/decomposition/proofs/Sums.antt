-- Bits, sums over the numbers below a bound, and how many elements below a bound a set has.
use Rattle.std.proofs.Common.{◌≡◌, ℕ, zero, suc, ◌+◌, ◌-◌, ◌*◌, ◌<◌, ◌≤◌, Bool, true, false, ◌&&◌, ◌||◌, eqb, ◌≢◌, ◌⊎◌, sym, refl, ap, ◌∙◌, ap₂, inl, inr, add-mul, one-mul, mul-zero, zero-mul, mul-suc, arith}
use Rattle.std.proofs.lemmas.Bool.{cases_eq, cases_lt, false≢true, eq-eqb, ne_eqb, or_left, or_right, or_cases}
use Rattle.decomposition.specs.Sets.{Subset, bit, sum, count, meet, any}

-- bits

pub bit_at_most_one : (x : Bool) → bit x ≤ 1
bit_at_most_one true = omega arith
bit_at_most_one false = omega arith

-- a bit that is at least one is set
pub bit_set : (x : Bool) → 1 ≤ bit x → x ≡ true
bit_set true h = refl
bit_set false h = absurd (omega arith)

-- a product with a bit that is above 0
pub bit_positive : (x : Bool) (k : ℕ) → 0 < bit x * k → (x ≡ true) × (0 < k)
bit_positive true k h = (refl, omega (arith, one-mul k))
bit_positive false k h = absurd (omega (arith, zero-mul k))

-- a test that follows from another has no smaller bit
bit_mono : (x y : Bool) → (x ≡ true → y ≡ true) → bit x ≤ bit y
bit_mono true y h = omega (arith, ap bit (h refl))
bit_mono false y h = omega arith

-- two tests that hold at the same time are equal
pub bool_ext : (x y : Bool) → (x ≡ true → y ≡ true) → (y ≡ true → x ≡ true) → x ≡ y
bool_ext true y f g = sym (f refl)
bool_ext false true f g = g refl
bool_ext false false f g = refl

-- one of three tests

pub or_first : (x y z : Bool) → x ≡ true → (x || (y || z)) ≡ true
or_first x y z h = or_left x (y || z) h

pub or_second : (x y z : Bool) → y ≡ true → (x || (y || z)) ≡ true
or_second x y z h = or_right x (y || z) (or_left y z h)

pub or_third : (x y z : Bool) → z ≡ true → (x || (y || z)) ≡ true
or_third x y z h = or_right x (y || z) (or_right y z h)

pub or_which : (x y z : Bool) → (x || (y || z)) ≡ true → (x ≡ true) ⊎ ((y ≡ true) ⊎ (z ≡ true))
or_which x y z h = elim (or_cases x (y || z) h) [ inl k ↦ inl k | inr k ↦ inr (or_cases y z k) ]

-- equal tests
pub or_same : {x y z x' y' z' : Bool} → x ≡ x' → y ≡ y' → z ≡ z' → (x || (y || z)) ≡ (x' || (y' || z'))
or_same p q r = ap₂ ◌||◌ p (ap₂ ◌||◌ q r)

-- of two numbers that are not both above 0 one is 0
pub not_both : (x y : ℕ) → (0 < x → 0 < y → ⊥) → (x ≡ 0) ⊎ (y ≡ 0)
not_both zero y h = inl refl
not_both (suc x) zero h = inr refl
not_both (suc x) (suc y) h = absurd (h (omega arith) (omega arith))

-- some number passes

-- the number that passes
pub any_some : (n : ℕ) (S : Subset) → any n S ≡ true → (i : ℕ) × (i < n) × (S i ≡ true)
any_some zero S h = absurd (false≢true h)
any_some (suc n) S h =
    elim (or_cases (S n) (any n S) h) [
      | inl k ↦ (n, omega arith, k)
      | inr k ↦ (let r = any_some n S k in (r.0, omega (arith, r.1), r.2))
    ]

pub some_any : (n : ℕ) (S : Subset) (i : ℕ) → i < n → S i ≡ true → any n S ≡ true
some_any zero S i l h = absurd (omega arith)
some_any (suc n) S i l h =
    elim (cases_eq i n) [
      | inl e ↦ or_left (S n) (any n S) (ap S (sym e) ∙ h)
      | inr d ↦ or_right (S n) (any n S) (some_any n S i (omega arith) h)
    ]

-- sums

-- equal terms have equal sums
pub sum_same : (n : ℕ) (f g : ℕ → ℕ) → ((i : ℕ) → i < n → f i ≡ g i) → sum n f ≡ sum n g
sum_same zero f g h = refl
sum_same (suc n) f g h = ap₂ ◌+◌ (sum_same n f g (λ i l. h i (omega arith))) (h n (omega arith))

-- smaller terms have a smaller sum
sum_le : (n : ℕ) (f g : ℕ → ℕ) → ((i : ℕ) → i < n → f i ≤ g i) → sum n f ≤ sum n g
sum_le zero f g h = omega arith
sum_le (suc n) f g h = omega (arith, sum_le n f g (λ i l. h i (omega arith)), h n (omega arith))

-- terms that are all 0 sum to 0
pub sum_none : (n : ℕ) (f : ℕ → ℕ) → ((i : ℕ) → i < n → f i ≡ 0) → sum n f ≡ 0
sum_none zero f h = refl
sum_none (suc n) f h = omega (arith, sum_none n f (λ i l. h i (omega arith)), h n (omega arith))

-- the sum of sums, term by term
pub sum_add : (n : ℕ) (f g : ℕ → ℕ) → sum n (λ i. f i + g i) ≡ sum n f + sum n g
sum_add zero f g = refl
sum_add (suc n) f g = omega (arith, sum_add n f g)

-- a common factor
pub sum_scale : (n k : ℕ) (f : ℕ → ℕ) → sum n (λ i. f i * k) ≡ sum n f * k
sum_scale zero k f = sym (zero-mul k)
sum_scale (suc n) k f = omega (arith, sum_scale n k f, add-mul (sum n f) (f n) k)

-- a double sum in the other order
pub sum_swap : (n m : ℕ) (f : ℕ → ℕ → ℕ) → sum n (λ i. sum m (λ j. f i j)) ≡ sum m (λ j. sum n (λ i. f i j))
sum_swap zero m f = sym (sum_none m (λ j. 0) (λ j l. refl))
sum_swap (suc n) m f = ap (λ x. x + sum m (λ j. f n j)) (sum_swap n m f) ∙ sym (sum_add m (λ j. sum n (λ i. f i j)) (λ j. f n j))

-- terms that are 0 but at a
pub sum_only : (n a : ℕ) (f : ℕ → ℕ) → a < n → ((i : ℕ) → i ≢ a → f i ≡ 0) → sum n f ≡ f a
sum_only zero a f l h = absurd (omega arith)
sum_only (suc n) a f l h =
    elim (cases_eq a n) [
      | inl e ↦ omega (arith, sum_none n f (λ i k. h i (omega arith)), ap f e)
      | inr d ↦ omega (arith, sum_only n a f (omega arith) h, h n (omega arith))
    ]

-- terms that are 0 but for the last
pub sum_last : (n : ℕ) (f : ℕ → ℕ) → 1 ≤ n → ((i : ℕ) → i < n - 1 → f i ≡ 0) → sum n f ≡ f (n - 1)
sum_last zero f l h = absurd (omega arith)
sum_last (suc n) f l h =
    let e : suc n - 1 ≡ n = omega arith in
    omega (arith, sum_none n f (λ i k. h i (omega arith)), ap f e)

-- equal terms
pub sum_constant : (n x : ℕ) → sum n (λ i. x) ≡ x * n
sum_constant zero x = sym (mul-zero x)
sum_constant (suc n) x = omega (arith, sum_constant n x, mul-suc x n)

-- of the terms with the test "at a" as a factor one is left
pub sum_at : (n a : ℕ) (f : ℕ → ℕ) → a < n → sum n (λ i. bit (eqb i a) * f i) ≡ f a
sum_at n a f l =
    sum_only n a (λ i. bit (eqb i a) * f i) l (λ i d. ap (λ x. bit x * f i) (ne_eqb i a d) ∙ zero-mul (f i))
    ∙ ap (λ x. bit x * f a) (eq-eqb a a refl)
    ∙ one-mul (f a)

-- a term is at most the sum
pub sum_term : (n a : ℕ) (f : ℕ → ℕ) → a < n → f a ≤ sum n f
sum_term zero a f l = absurd (omega arith)
sum_term (suc n) a f l = elim (cases_eq a n) [ inl e ↦ omega (arith, ap f e) | inr d ↦ omega (arith, sum_term n a f (omega arith)) ]

-- two terms are together at most the sum
pub sum_two_terms : (n a b : ℕ) (f : ℕ → ℕ) → a < n → b < n → a ≢ b → f a + f b ≤ sum n f
sum_two_terms zero a b f k l d = absurd (omega arith)
sum_two_terms (suc n) a b f k l d =
    elim (cases_eq a n) [
      | inl e ↦ omega (arith, ap f e, sum_term n b f (omega arith))
      | inr e ↦
          elim (cases_eq b n) [
            | inl g ↦ omega (arith, ap f g, sum_term n a f (omega arith))
            | inr g ↦ omega (arith, sum_two_terms n a b f (omega arith) (omega arith) d)
          ]
    ]

-- a sum above 0 has a term above 0
pub sum_some_term : (n : ℕ) (f : ℕ → ℕ) → 0 < sum n f → (i : ℕ) × (i < n) × (0 < f i)
sum_some_term zero f h = absurd (omega arith)
sum_some_term (suc n) f h =
    elim (cases_lt 0 (f n)) [
      | inl k ↦ (n, omega arith, k)
      | inr k ↦ (let r = sum_some_term n f (omega arith) in (r.0, omega (arith, r.1), r.2))
    ]

-- counts

-- a set that has every number below n
pub count_all : (n : ℕ) (S : Subset) → ((i : ℕ) → i < n → S i ≡ true) → count n S ≡ n
count_all n S h = omega (arith, sum_same n (λ i. bit (S i)) (λ i. 1) (λ i l. ap bit (h i l)), sum_constant n 1)

-- a smaller set has fewer members
pub count_le : (n : ℕ) (S R : Subset) → ((i : ℕ) → S i ≡ true → R i ≡ true) → count n S ≤ count n R
count_le n S R h = sum_le n (λ i. bit (S i)) (λ i. bit (R i)) (λ i l. bit_mono (S i) (R i) (h i))

-- two different members
pub count_two : (n : ℕ) (S : Subset) (a b : ℕ) → a < n → b < n → a ≢ b → S a ≡ true → S b ≡ true → 2 ≤ count n S
count_two n S a b k l d p q = omega (arith, sum_two_terms n a b (λ i. bit (S i)) k l d, ap bit p, ap bit q)

-- what is in the one set or the other
abbrev pub join : Subset → Subset → Subset
join S R i = S i || R i

-- what is in both sets is counted twice
pub count_join : (n : ℕ) (S R : Subset) → count n (join S R) + count n (meet S R) ≡ count n S + count n R
count_join n S R =
    sym (sum_add n (λ i. bit (join S R i)) (λ i. bit (meet S R i)))
    ∙ sum_same n (λ i. bit (join S R i) + bit (meet S R i)) (λ i. bit (S i) + bit (R i)) (λ i l. bits (S i) (R i))
    ∙ sum_add n (λ i. bit (S i)) (λ i. bit (R i))
  where
    bits : (x y : Bool) → bit (x || y) + bit (x && y) ≡ bit x + bit y
    bits true true = refl
    bits true false = refl
    bits false true = refl
    bits false false = refl
