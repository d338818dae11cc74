-- What every sketch keeps.
use Rattle.std.specs.Prelude.{◌≡◌, ◌≤◌, List, length, Ok}
use Rattle.graph.specs.Limits.{most_elements, most_dimensions, most_entries}
use Rattle.graph.specs.Rows.{Row}
use Rattle.plan.specs.Entries.{steps}
use Rattle.plan.specs.Check.{check_rows, check_answer}
use Rattle.file.specs.Contents.{Contents, contents}
use Rattle.file.specs.declared.tables.Tables.{Tables}

-- the rows that check tries on contents
abbrev pub contents_rows : Contents → List Row
contents_rows c = check_rows c.kinds c.dimensions c.plan

-- check accepts contents, and answers the number of steps of their plan
abbrev pub Accepted : Contents → Type 0
Accepted c = check_answer c.kinds c.dimensions c.plan ≡ Ok (steps c.plan)

-- the arrays have their lengths, the counts are within them, and check accepts what is in use
abbrev pub Kept : Tables → Type 0
Kept t =
    ((length t.kinds ≡ most_elements) × (length t.dimensions ≡ most_dimensions) × (length t.plan ≡ most_entries))
    × ((t.counts.elements ≤ most_elements) × (t.counts.dimensions ≤ most_dimensions) × (t.counts.entries ≤ most_entries))
    × Accepted (contents t)
