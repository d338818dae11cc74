use Rattle.std.proofs.Common.{◌≡◌, map, take}
use Rattle.plan.specs.declared.draft.Part.{Part}
use Rattle.plan.proofs.draft.Draft.plan.Given as goal

abbrev pub invariant-loop-part : goal.invariant-loop-part
invariant-loop-part l = l.plan.items ≡ map (λ (p : Part). p.entry) (take l.part-index l.self.parts.items)
