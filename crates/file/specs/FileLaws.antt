-- What holds of every file.
use Rattle.std.specs.Prelude.{◌≡◌, ℕ, List, [], ◌∷◌, Ok, Err}
use Rattle.graph.specs.Lists.{dimension}
use Rattle.graph.specs.Rows.{refusal, headings}
use Rattle.plan.specs.declared.entry.Entry.TheVariants.{Leaf}
use Rattle.file.specs.Contents.{Contents, holding, Within}
use Rattle.file.specs.Files.{Bytes, file_rows, read, write}

-- contents that a file can hold are read back from their file
abbrev pub ReadBack : Type 0
ReadBack = (c : Contents) → Within c → read (write c) ≡ Ok c

-- no two files hold the same: what is read was written so
abbrev pub WrittenSo : Type 0
WrittenSo = (bs : List ℕ) (c : Contents) → Bytes bs → read bs ≡ Ok c → write c ≡ bs

-- what small byte strings are read as
abbrev pub Examples : Type 0
Examples =
    -- two points with one dimension of grade 5 between them, and a plan of one leaf
    (read (1 ∷ 0 ∷ 12 ∷ 2 ∷ 0 ∷ 0 ∷ 1 ∷ 0 ∷ 1 ∷ 5 ∷ 1 ∷ 0 ∷ 0 ∷ 0 ∷ 0 ∷ [])
    ≡ Ok (holding (0 ∷ 0 ∷ []) (dimension 0 1 5 ∷ []) (Leaf 0 ∷ [])))
    -- the same with an unknown tag
    × (read (1 ∷ 0 ∷ 12 ∷ 2 ∷ 0 ∷ 0 ∷ 1 ∷ 0 ∷ 1 ∷ 5 ∷ 1 ∷ 2 ∷ 0 ∷ 0 ∷ 0 ∷ []) ≡ Err (refusal 1 6 11))
    -- no bytes, and too few
    × (read [] ≡ Err (refusal 1 1 0))
    × (read (1 ∷ 0 ∷ []) ≡ Err (refusal 1 1 2))
    -- another version, another length
    × (read (2 ∷ 0 ∷ 0 ∷ []) ≡ Err (refusal 1 2 0))
    × (read (1 ∷ 0 ∷ 5 ∷ 2 ∷ []) ≡ Err (refusal 1 3 1))
    -- too few elements, and bytes that are missing
    × (read (1 ∷ 0 ∷ 1 ∷ 1 ∷ []) ≡ Err (refusal 1 4 3))
    × (read (1 ∷ 0 ∷ 1 ∷ 2 ∷ []) ≡ Err (refusal 1 5 4))
    × (read (1 ∷ 0 ∷ 0 ∷ []) ≡ Err (refusal 1 5 3))

-- the rows stand in rising order
abbrev pub RowsRise : Type 0
RowsRise = (bs : List ℕ) → headings (file_rows bs) ≡ (1, 1) ∷ (1, 2) ∷ (1, 3) ∷ (1, 4) ∷ (1, 5) ∷ (1, 6) ∷ []

-- the laws and the examples
abbrev pub FileLaw : Type 0
FileLaw = ReadBack × WrittenSo × RowsRise × Examples
