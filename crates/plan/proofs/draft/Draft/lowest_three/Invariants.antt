use Rattle.std.proofs.Common.{ℕ, ◌<◌}
use Rattle.plan.specs.Drafts.{Fit}
use Rattle.plan.proofs.draft.Draft.lowest_three.Given as goal

abbrev pub invariant-loop-first : goal.invariant-loop-first
invariant-loop-first l = (x y z : ℕ) → x < l.first → Fit l.self x y z → ⊥
