-- The search for three entries, by what a search through a range finds.
use Rattle.std.proofs.Common.{◌≡◌, ℕ, ◌+◌, ◌<◌, ◌≤◌, true, false, Some, None, Option, MatchOption, inl, inr, arith}
use Rattle.std.proofs.lemmas.Bool.{both_ways, cases_lt}
use Rattle.plan.specs.Drafts.{count, closes, Third}
use Rattle.plan.specs.declared.draft.Draft.{Draft}

pub third_found : (d : Draft) (a b n : ℕ) (r : Option ℕ) → b < n → n ≡ count d
    → MatchOption r ((k : ℕ) → b + 1 ≤ k → k < n → closes d a b k ≡ false)
    (λ c. (b + 1 ≤ c) × (c < n) × (closes d a b c ≡ true) × ((k : ℕ) → b + 1 ≤ k → k < c → closes d a b k ≡ false))
    → Third d a b r
third_found d a b n None l is h = λ z f. both_ways (closes d a b z) (h z (omega (arith, f.b<c)) (omega (arith, f.c<k))) f.closing
third_found d a b n (Some c) l is h = (
  omega (arith, h.0),
  omega (arith, h.1),
  h.2,
  λ z f. elim (cases_lt z c) [ inl g ↦ absurd (both_ways (closes d a b z) (h.3 z (omega (arith, f.b<c)) g) f.closing) | inr g ↦ g ],
)
