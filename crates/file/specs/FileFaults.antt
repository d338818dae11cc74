-- The faults of a file in numbers.
use Rattle.graph.specs.Rows.{refusal}
use Rattle.graph.specs.declared.refusal.Refusal.{Refusal}
use Rattle.file.specs.declared.faults.FileFault.{FileFault}
use Rattle.file.specs.declared.faults.FileFault.TheVariants.{TooShort, UnknownVersion, WrongLength, WrongCount, WrongEnd, WrongEntry}

-- layer, number and place of a fault
abbrev pub file_refusal : FileFault → Refusal
file_refusal (TooShort n) = refusal 1 1 n
file_refusal UnknownVersion = refusal 1 2 0
file_refusal WrongLength = refusal 1 3 1
file_refusal (WrongCount p) = refusal 1 4 p
file_refusal (WrongEnd p) = refusal 1 5 p
file_refusal (WrongEntry p) = refusal 1 6 p
