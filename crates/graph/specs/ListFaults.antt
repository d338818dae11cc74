-- The faults of a list in numbers.
use Rattle.graph.specs.Rows.{refusal}
use Rattle.graph.specs.declared.refusal.Refusal.{Refusal}
use Rattle.graph.specs.declared.faults.ListFault.{ListFault}
use Rattle.graph.specs.declared.faults.ListFault.TheVariants.{WrongCount, UnknownKind, UnknownElement, NotRising, RepeatedPair}

-- layer, number and place of a fault
abbrev pub list_refusal : ListFault → Refusal
list_refusal (WrongCount p) = refusal 2 7 p
list_refusal (UnknownKind p) = refusal 2 8 p
list_refusal (UnknownElement p) = refusal 2 9 p
list_refusal (NotRising p) = refusal 2 10 p
list_refusal (RepeatedPair p) = refusal 2 11 p
