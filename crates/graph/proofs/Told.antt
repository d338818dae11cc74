-- Answers with their faults in numbers.
use Rattle.std.proofs.Common.{◌≡◌, ℕ, Some, None, Ok, Err, Option, Result, refl, arith}
use Rattle.graph.specs.Rows.{answered, told}
use Rattle.graph.specs.declared.refusal.Refusal.{Refusal}

-- an answer of Ok is what it was before its fault was told
pub told_ok : {X F : Type 0} (numbers : F → Refusal) (r : Result X F) (x : X) → told numbers r ≡ Ok x → r ≡ Ok x
told_ok numbers (Ok y) x e = cc
told_ok numbers (Err f) x e = let z : ◌≡◌ {A = ℕ} 0 1 = cc in absurd (omega arith)

-- nothing refuses where the answer is Ok, and what it is
pub answered_ok : {X : Type 0} (o : Option Refusal) (x y : X) → answered o x ≡ Ok y → (o ≡ None) × (x ≡ y)
answered_ok None x y e = (refl, cc)
answered_ok (Some f) x y e = let z : ◌≡◌ {A = ℕ} 0 1 = cc in absurd (omega arith)

pub answered_err : {X : Type 0} (o : Option Refusal) (x : X) (f : Refusal) → answered o x ≡ Err f → o ≡ Some f
answered_err (Some g) x f e = cc
answered_err None x f e = let z : ◌≡◌ {A = ℕ} 0 1 = cc in absurd (omega arith)
