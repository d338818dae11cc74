-- What a file holds: a list and its plan.
use Rattle.std.specs.Prelude.{ℕ, ◌-◌, ◌<◌, ◌≤◌, max, List, ◌++◌, length, take, replicate, slice_index_or}
use Rattle.graph.specs.Limits.{most_elements, most_dimensions, most_entries}
use Rattle.graph.specs.Lists.{dimension}
use Rattle.graph.specs.declared.dimension.Dimension.{Dimension}
use Rattle.plan.specs.declared.entry.Entry.{Entry}
use Rattle.plan.specs.declared.entry.Entry.TheVariants.{Leaf, Step}
use Rattle.file.specs.FileLimits.{fewest_kinds, most_kinds, most_file_dimensions, fewest_file_entries, most_file_entries, byte_values}
use Rattle.file.specs.declared.tables.Tables.{Tables}

-- a kind for each element, the dimensions, and the entries of the plan
pub record Contents : Type 0 where
  pub kinds : List ℕ
  pub dimensions : List Dimension
  pub plan : List Entry

-- contents from their three tables
abbrev pub holding : List ℕ → List Dimension → List Entry → Contents
holding ks ds es = record { kinds = ks; dimensions = ds; plan = es }

-- the largest number in an entry
abbrev pub largest : Entry → ℕ
largest (Leaf p) = p
largest (Step a b c) = max a (max b c)

-- contents that a file can hold
pub record Within (c : Contents) : Type 0 where
  pub enough_kinds : fewest_kinds ≤ length c.kinds
  pub few_kinds : length c.kinds ≤ most_kinds
  pub few_dimensions : length c.dimensions ≤ most_file_dimensions
  pub enough_entries : fewest_file_entries ≤ length c.plan
  pub few_entries : length c.plan ≤ most_file_entries
  pub numbers : (e : ℕ) → e < length c.plan → largest (slice_index_or c.plan e (Leaf 0)) < byte_values

-- tables, and what they hold

-- the values in use, at the front of each array
abbrev pub contents : Tables → Contents
contents t =
    holding
    (take t.counts.elements t.kinds)
    (take t.counts.dimensions t.dimensions)
    (take t.counts.entries t.plan)

-- xs at the front of n places, the others unused
abbrev pub padded : {X : Type 0} → ℕ → X → List X → List X
padded n unused xs = xs ++ replicate (n - length xs) unused

-- contents as tables
abbrev pub stored : Contents → Tables
stored c = record {
  kinds = padded most_elements 0 c.kinds;
  dimensions = padded most_dimensions (dimension 0 0 0) c.dimensions;
  plan = padded most_entries (Leaf 0) c.plan;
  counts = record { elements = length c.kinds; dimensions = length c.dimensions; entries = length c.plan };
}
