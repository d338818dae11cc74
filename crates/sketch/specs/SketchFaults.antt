-- The faults of calls on a sketch in numbers.
use Rattle.graph.specs.Rows.{refusal}
use Rattle.graph.specs.declared.refusal.Refusal.{Refusal}
use Rattle.plan.specs.PlanFaults.{plan_refusal}
use Rattle.file.specs.FileFaults.{file_refusal}
use Rattle.sketch.specs.declared.faults.SketchFault.{SketchFault}
use Rattle.sketch.specs.declared.faults.SketchFault.TheVariants.{File, Plan, ShortBuffer}

-- layer, number and place of a fault
abbrev pub sketch_refusal : SketchFault → Refusal
sketch_refusal (File f) = file_refusal f
sketch_refusal (Plan f) = plan_refusal f
sketch_refusal (ShortBuffer n) = refusal 4 26 n
