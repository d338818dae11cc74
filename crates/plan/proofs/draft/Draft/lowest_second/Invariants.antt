use Rattle.std.proofs.Common.{ℕ, ◌<◌}
use Rattle.plan.specs.Drafts.{Fit}
use Rattle.plan.proofs.draft.Draft.lowest_second.Given as goal

abbrev pub invariant-loop-b : goal.invariant-loop-b
invariant-loop-b l = (y z : ℕ) → y < l.b → Fit l.self l.a y z → ⊥
