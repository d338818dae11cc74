-- How large the tables in a file may be.
use Rattle.std.specs.Prelude.{◌≡◌, ℕ}
use Rattle.file.specs.declared.limits.TheConstants.{
  VERSION,
  FEWEST_KINDS,
  MOST_KINDS,
  MOST_FILE_DIMENSIONS,
  FEWEST_FILE_ENTRIES,
  MOST_FILE_ENTRIES,
  BYTE_VALUES,
  MOST_BYTES,
}

-- the first byte of every file
abbrev pub version : ℕ
version = 1

-- a file has at least 2 kinds
abbrev pub fewest_kinds : ℕ
fewest_kinds = 2

-- and at most 64
abbrev pub most_kinds : ℕ
most_kinds = 64

-- it has at most 125 dimensions
abbrev pub most_file_dimensions : ℕ
most_file_dimensions = 125

-- it has at least 1 entry
abbrev pub fewest_file_entries : ℕ
fewest_file_entries = 1

-- and at most 187
abbrev pub most_file_entries : ℕ
most_file_entries = 187

-- a byte is below this, and so is each number in an entry
abbrev pub byte_values : ℕ
byte_values = 256

-- the largest file: its 3 counts, the length and the version, and the largest tables
abbrev pub most_bytes : ℕ
most_bytes = 1193

-- the constants of the code are these numbers
abbrev pub FileLimitsLaw : Type 0
FileLimitsLaw =
    (VERSION ≡ version)
    × (FEWEST_KINDS ≡ fewest_kinds)
    × (MOST_KINDS ≡ most_kinds)
    × (MOST_FILE_DIMENSIONS ≡ most_file_dimensions)
    × (FEWEST_FILE_ENTRIES ≡ fewest_file_entries)
    × (MOST_FILE_ENTRIES ≡ most_file_entries)
    × (BYTE_VALUES ≡ byte_values)
    × (MOST_BYTES ≡ most_bytes)
