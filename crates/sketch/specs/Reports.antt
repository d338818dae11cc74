-- The line that tells an outcome.
use Rattle.std.specs.Prelude.{◌≡◌, ℕ, List, ◌++◌, Ok, Err, codes, decimal, Result}
use Rattle.graph.specs.Rows.{refusal}
use Rattle.graph.specs.declared.refusal.Refusal.{Refusal}
use Rattle.sketch.specs.Sketches.{counting}
use Rattle.file.specs.declared.tables.Counts.{Counts}

-- a word, then three numbers in decimal with a space between two, and a line feed
abbrev pub line_of : List ℕ → ℕ × ℕ × ℕ → List ℕ
line_of word numbers =
    word ++ decimal numbers.0 ++ codes " " ++ decimal numbers.1 ++ codes " " ++ decimal numbers.2 ++ codes "\n"

-- elements, dimensions and entries of what was accepted; or layer, number and place of the refusal
abbrev pub line : Result Counts Refusal → List ℕ
line (Ok c) = line_of (codes "yes ") (c.elements, c.dimensions, c.entries)
line (Err f) = line_of (codes "no ") (f.layer, f.number, f.place)

-- the bytes of the longest line: a word of four, three numbers of at most twenty digits, two spaces and a line feed
abbrev pub longest_line : ℕ
longest_line = 67

-- two outcomes and their lines
abbrev pub ReportExamples : Type 0
ReportExamples = (line (Ok (counting 2 1 1)) ≡ codes "yes 2 1 1\n") × (line (Err (refusal 1 6 11)) ≡ codes "no 1 6 11\n")
