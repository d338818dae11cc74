-- The calls on a sketch: what each answers, and what the sketch then holds.
use Rattle.std.specs.Prelude.{◌≡◌, ℕ, ◌↔◌, List, [], ◌∷◌, ◌++◌, length, Ok, Err, Result}
use Rattle.graph.specs.Rows.{Row, first_refusal, answered, Refuses}
use Rattle.graph.specs.Lists.{dimension}
use Rattle.graph.specs.declared.refusal.Refusal.{Refusal}
use Rattle.plan.specs.declared.entry.Entry.TheVariants.{Leaf}
use Rattle.file.specs.Contents.{Contents, holding, contents, stored}
use Rattle.file.specs.Files.{Bytes, file_rows, held, write}
use Rattle.file.specs.declared.tables.Tables.{Tables}
use Rattle.sketch.specs.Keeping.{contents_rows}
use Rattle.file.specs.declared.tables.Counts.{Counts}
use Rattle.sketch.specs.declared.sketch.Sketch.{Sketch}

-- a newly made sketch: two points, one dimension of grade 0, a plan of one leaf
abbrev pub first_contents : Contents
first_contents = holding (0 ∷ 0 ∷ []) (dimension 0 1 0 ∷ []) (Leaf 0 ∷ [])

-- the file of a sketch
abbrev pub sketch_file : Sketch → List ℕ
sketch_file s = write (contents s.tables)

-- the rows that adopt tries: those of the file, then those of check on what the file holds
abbrev pub adopt_rows : List ℕ → List Row
adopt_rows bs = file_rows bs ++ contents_rows (held bs)

-- the first refusal, or else what the file holds
abbrev pub adopted : List ℕ → Result Contents Refusal
adopted bs = answered (first_refusal (adopt_rows bs)) (held bs)

-- counts from their three numbers
abbrev pub counting : ℕ → ℕ → ℕ → Counts
counting n d e = record { elements = n; dimensions = d; entries = e }

-- how many elements, dimensions and entries there are
abbrev pub counted : Contents → Counts
counted c = counting (length c.kinds) (length c.dimensions) (length c.plan)

-- what adopt answers
abbrev pub adopt_answer : List ℕ → Result Counts Refusal
adopt_answer bs = answered (first_refusal (adopt_rows bs)) (counted (held bs))

-- the tables of contents that were adopted, or else the tables as they were
abbrev pub tables_after : Result Contents Refusal → Tables → Tables
tables_after (Ok c) t = stored c
tables_after (Err x) t = t

-- what the sketch's tables are after adopt
abbrev pub adopt_after : List ℕ → Tables → Tables
adopt_after bs t = tables_after (adopted bs) t

-- the answer is a refusal exactly when a row holds at its place, at no lower one, and no earlier row holds anywhere
abbrev pub Adopting : List ℕ → Result Counts Refusal → Type 0
Adopting bs r = (x : Refusal) → (r ≡ Err x) ↔ Refuses (adopt_rows bs) x

-- contents have exactly one file: adopting it gives them back, and no other bytes do
abbrev pub OneFile : Contents → Type 0
OneFile c = (adopted (write c) ≡ Ok c) × ((bs : List ℕ) → Bytes bs → adopted bs ≡ Ok c → bs ≡ write c)
