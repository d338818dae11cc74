use Rattle.std.proofs.Common.{[], ◌∷◌, sym, refl, ap, subst, arith}
use Rattle.graph.specs.Lists.{dimension}
use Rattle.graph.specs.declared.dimension.Dimension.{Dimension}
use Rattle.plan.specs.Reach.{reached}
use Rattle.plan.specs.Hinges.{hinges}
use Rattle.plan.specs.declared.entry.Entry.TheVariants.{Leaf}
use Rattle.file.specs.Contents.{holding}
use Rattle.sketch.specs.Keeping.{Accepted}
use Rattle.sketch.specs.Sketches.{first_contents}
use Rattle.sketch.proofs.sketch.Sketch.new.Goals as goal

pub invariant_of-result : goal.invariant_of-result
unfolding reached hinges
invariant_of-result c =
    let accepted : Accepted first_contents = refl in
    let same = ap (λ (d : Dimension). holding (0 ∷ 0 ∷ []) (dimension d.lower 1 d.grade ∷ []) (Leaf 0 ∷ [])) c.plain-dimensions.ensures in
    record { kept = ((refl, refl, refl), (omega arith, omega arith, omega arith), subst Accepted (sym same) accepted) }
