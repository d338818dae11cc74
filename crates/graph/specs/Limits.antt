-- How large a plate may be.
use Rattle.std.specs.Prelude.{◌≡◌, ℕ}
use Rattle.graph.specs.declared.limits.TheConstants.{FEWEST_ELEMENTS, MOST_ELEMENTS, MOST_DIMENSIONS, MOST_ENTRIES}

-- a sketch has at least 2 elements
abbrev pub fewest_elements : ℕ
fewest_elements = 2

-- and at most 64
abbrev pub most_elements : ℕ
most_elements = 64

-- it has at most 125 dimensions
abbrev pub most_dimensions : ℕ
most_dimensions = 125

-- a plan has at most 187 entries
abbrev pub most_entries : ℕ
most_entries = 187

-- the constants of the code are these numbers
abbrev pub LimitsLaw : Type 0
LimitsLaw =
    (FEWEST_ELEMENTS ≡ fewest_elements)
    × (MOST_ELEMENTS ≡ most_elements)
    × (MOST_DIMENSIONS ≡ most_dimensions)
    × (MOST_ENTRIES ≡ most_entries)
