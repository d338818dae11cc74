-- The lowest number that passes a test.
use Rattle.std.specs.Prelude.{◌≡◌, ℕ, zero, suc, ◌<◌, Bool, true, false, cond, Some, None, Option}

-- the first, or else the second
abbrev pub or_else : {X : Type 0} → Option X → Option X → Option X
or_else (Some x) y = Some x
or_else None y = y

-- the lowest number below n that passes
abbrev pub lowest : ℕ → (ℕ → Bool) → Option ℕ
lowest zero test = None
lowest (suc n) test = or_else (lowest n test) (cond (test n) (Some n) None)

-- some number passes
abbrev pub present : Option ℕ → Bool
present (Some p) = true
present None = false

-- no number below n passes
abbrev pub Clear : ℕ → (ℕ → Bool) → Type 0
Clear n test = (k : ℕ) → k < n → test k ≡ false
