-- The bytes of a file: how contents are written, which files are refused, and what any other file holds.
use Rattle.std.specs.Prelude.{ℕ, zero, suc, ◌+◌, ◌-◌, ◌*◌, ◌/◌, ◌%◌, ◌<◌, min, Bool, cond, not, ◌&&◌, ◌||◌, List, [], ◌∷◌, ◌++◌, length, take, drop, Ok, Err, Result, ◌==◌, nat_lt, slice_index}
use Rattle.std.specs.List.{flat_map}
use Rattle.graph.specs.Lists.{dimension}
use Rattle.graph.specs.Rows.{Row, row_at, first_refusal, answered}
use Rattle.graph.specs.declared.dimension.Dimension.{Dimension}
use Rattle.graph.specs.declared.refusal.Refusal.{Refusal}
use Rattle.plan.specs.declared.entry.Entry.{Entry}
use Rattle.plan.specs.declared.entry.Entry.TheVariants.{Leaf, Step}
use Rattle.file.specs.FileLimits.{version, fewest_kinds, most_kinds, most_file_dimensions, fewest_file_entries, most_file_entries, byte_values}
use Rattle.file.specs.Contents.{Contents, holding, stored}
use Rattle.file.specs.declared.tables.Tables.{Tables}

-- writing

-- three bytes for each dimension
abbrev pub dimension_bytes : Dimension → List ℕ
dimension_bytes d = d.lower ∷ d.higher ∷ d.grade ∷ []

-- four bytes for each entry, a tag first: 0 for a leaf, which leaves two bytes spare, 1 for a step
abbrev pub entry_bytes : Entry → List ℕ
entry_bytes (Leaf p) = 0 ∷ p ∷ 0 ∷ 0 ∷ []
entry_bytes (Step a b c) = 1 ∷ a ∷ b ∷ c ∷ []

-- what stands behind the length: each table with its count before it
abbrev pub body : Contents → List ℕ
body c =
    length c.kinds
    ∷ (c.kinds
    ++ (length c.dimensions
    ∷ (flat_map dimension_bytes c.dimensions
    ++ (length c.plan
    ∷ flat_map entry_bytes c.plan))))

-- the version and the length, high byte first, before the bytes that they count
abbrev pub framed : List ℕ → List ℕ
framed bs = version ∷ (length bs / byte_values) ∷ (length bs % byte_values) ∷ bs

-- the file of contents
abbrev pub write : Contents → List ℕ
write c = framed (body c)

-- reading

-- the byte at a place, 0 past the end
abbrev pub byte : List ℕ → ℕ → ℕ
byte bs p = slice_index bs p

-- each of the numbers is a byte
abbrev pub Bytes : List ℕ → Type 0
Bytes bs = (p : ℕ) → byte bs p < byte_values

-- the dimension in the first bytes
abbrev pub get_dimension : List ℕ → Dimension
get_dimension bs = dimension (byte bs 0) (byte bs 1) (byte bs 2)

-- the entry in the first bytes
abbrev pub get_entry : List ℕ → Entry
get_entry bs = cond (byte bs 0 == 0) (Leaf (byte bs 1)) (Step (byte bs 1) (byte bs 2) (byte bs 3))

-- the n values of w bytes each from the front
abbrev pub get_all : {X : Type 0} → (List ℕ → X) → ℕ → ℕ → List ℕ → List X
get_all get w zero bs = []
get_all get w (suc n) bs = get bs ∷ get_all get w n (drop w bs)

-- below the fewest or above the most
abbrev pub out_of : ℕ → ℕ → ℕ → Bool
out_of fewest most n = nat_lt n fewest || nat_lt most n

-- a count that is out of its range; the counts are numbered 0 for kinds, 1 for dimensions, 2 for entries
abbrev pub bad_count : ℕ → ℕ → Bool
bad_count zero n = out_of fewest_kinds most_kinds n
bad_count (suc zero) n = nat_lt most_file_dimensions n
bad_count (suc (suc k)) n = out_of fewest_file_entries most_file_entries n

-- an unknown tag, or a leaf whose spare bytes are not 0
abbrev pub bad_bytes : ℕ → ℕ → ℕ → Bool
bad_bytes tag third fourth = nat_lt 1 tag || (tag == 0 && not (third == 0 && fourth == 0))

-- the first bytes are no entry
abbrev pub bad_entry : List ℕ → Bool
bad_entry e = bad_bytes (byte e 0) (byte e 2) (byte e 3)

-- a row of layer 1 with one place
abbrev pub one_row : ℕ → Bool → ℕ → Row
one_row n holds p = row_at 1 n 1 (λ _. holds) (λ _. p)

module _ (bs : List ℕ) where
  -- where the count of dimensions stands
  abbrev pub dimensions_at : ℕ
  dimensions_at = 4 + byte bs 3

  -- where the count of entries stands
  abbrev pub entries_at : ℕ
  entries_at = dimensions_at + 1 + 3 * byte bs dimensions_at

  -- where the file should end
  abbrev pub end_at : ℕ
  end_at = entries_at + 1 + 4 * byte bs entries_at

  -- the place of a count, by its number
  abbrev pub count_at : ℕ → ℕ
  count_at zero = 3
  count_at (suc zero) = dimensions_at
  count_at (suc (suc k)) = entries_at

  -- the place of an entry
  abbrev pub entry_at : ℕ → ℕ
  entry_at e = entries_at + 1 + 4 * e

  -- 4: a count that the file has is out of its range
  abbrev pub wrong_count : ℕ → Bool
  wrong_count k = nat_lt (count_at k) (length bs) && bad_count k (byte bs (count_at k))

  -- 4 for the count at one place, by its range
  abbrev pub count_row : ℕ → ℕ → ℕ → Row
  count_row p fewest most = one_row 4 (nat_lt p (length bs) && out_of fewest most (byte bs p)) p

  -- 6: bytes that are no entry
  abbrev pub wrong_entry : ℕ → Bool
  wrong_entry e = bad_entry (drop (entry_at e) bs)

  -- the rows of layer 1
  abbrev pub file_rows : List Row
  file_rows =
      one_row 1 (nat_lt (length bs) 3) (length bs)
      ∷ one_row 2 (not (byte bs 0 == version)) 0
      ∷ one_row 3 (not (byte bs 1 * byte_values + byte bs 2 == length bs - 3)) 1
      ∷ row_at 1 4 3 wrong_count count_at
      ∷ one_row 5 (not (end_at == length bs)) (min end_at (length bs))
      ∷ row_at 1 6 (byte bs entries_at) wrong_entry entry_at
      ∷ []

  -- what the bytes hold, by their counts
  abbrev pub held : Contents
  held =
      holding
      (take (byte bs 3) (drop 4 bs))
      (get_all get_dimension 3 (byte bs dimensions_at) (drop (dimensions_at + 1) bs))
      (get_all get_entry 4 (byte bs entries_at) (drop (entries_at + 1) bs))

-- what a file says: it is refused, or else what it holds
abbrev pub read : List ℕ → Result Contents Refusal
read bs = answered (first_refusal (file_rows bs)) (held bs)

-- the same with the contents as tables
abbrev pub stored_answer : Result Contents Refusal → Result Tables Refusal
stored_answer (Ok c) = Ok (stored c)
stored_answer (Err x) = Err x
