-- The lowest number that passes a test.
use Rattle.std.proofs.Common.{◌≡◌, ℕ, zero, suc, ◌<◌, Bool, true, false, cond, Some, None, Option, sym, refl, ap, subst, ⊎_elim, arith}
use Rattle.std.proofs.lemmas.Bool.{cases_lt, both_ways}
use Rattle.decomposition.specs.Lowest.{or_else, lowest, present, Clear}

-- no lower number passes, and this one does
pub lowest_found : (n p : ℕ) (test : ℕ → Bool) → lowest p test ≡ None → test p ≡ true → p < n → Some p ≡ lowest n test
lowest_found zero p test e t h = absurd (omega arith)
lowest_found (suc n) p test e t h =
    ⊎_elim
    (λ lt. rw (sym (lowest_found n p test e t lt)))
    (λ ge. let is : n ≡ p = omega arith in rw (is, e, t))
    (cases_lt p n)

-- no number passes
pub lowest_none : (n : ℕ) (test : ℕ → Bool) → Clear n test → lowest n test ≡ None
lowest_none zero test f = refl
lowest_none (suc n) test f = rw (lowest_none n test (λ k h. f k (omega arith)), f n (omega arith))

-- p is the lowest number below n that passes
abbrev pub Lowest : ℕ → (ℕ → Bool) → ℕ → Type 0
Lowest n test p = (p < n) × (test p ≡ true) × Clear p test

-- what an answer says
abbrev pub Says : ℕ → (ℕ → Bool) → Option ℕ → Type 0
Says n test (Some p) = Lowest n test p
Says n test None = Clear n test

says_more : (n : ℕ) (test : ℕ → Bool) (o : Option ℕ) (b : Bool) → Says n test o → test n ≡ b → Says (suc n) test (or_else o (cond b (Some n) None))
says_more n test (Some p) b s e = (omega (arith, s.0), s.1, s.2)
says_more n test None true s e = (omega arith, e, s)
says_more n test None false s e = λ k h. ⊎_elim (s k) (λ ge. let is : k ≡ n = omega arith in rw (is, e)) (cases_lt k n)

pub lowest_says : (n : ℕ) (test : ℕ → Bool) → Says n test (lowest n test)
lowest_says zero test = λ k h. absurd (omega arith)
lowest_says (suc n) test = says_more n test (lowest n test) (test n) (lowest_says n test) refl

-- no number passes where none is found
pub none_clears : (n : ℕ) (test : ℕ → Bool) → lowest n test ≡ None → Clear n test
none_clears n test e = subst (Says n test) e (lowest_says n test)

-- a test that asks whether any number passes, and none does
absent : (n : ℕ) (test : ℕ → Bool) (o : Option ℕ) → Says n test o → present o ≡ false → Clear n test
absent n test (Some p) s h = absurd (both_ways true h refl)
absent n test None s h = s

pub absent_clear : (n : ℕ) (test : ℕ → Bool) → present (lowest n test) ≡ false → Clear n test
absent_clear n test h = absent n test (lowest n test) (lowest_says n test) h

pub clear_absent : (n : ℕ) (test : ℕ → Bool) → Clear n test → present (lowest n test) ≡ false
clear_absent n test h = ap present (lowest_none n test h)

-- an answer that says that it is the lowest
pub said_lowest : (n : ℕ) (test : ℕ → Bool) (o : Option ℕ) → Says n test o → o ≡ lowest n test
said_lowest n test (Some p) s = lowest_found n p test (lowest_none p test s.2) s.1 s.0
said_lowest n test None s = sym (lowest_none n test s)

-- two tests that agree below n
pub lowest_agree : (n : ℕ) (t u : ℕ → Bool) → ((k : ℕ) → k < n → t k ≡ u k) → lowest n t ≡ lowest n u
lowest_agree zero t u h = refl
lowest_agree (suc n) t u h = rw (lowest_agree n t u (λ k l. h k (omega arith)), h n (omega arith))
