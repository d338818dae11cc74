-- Lists: a kind for each element, and a table of dimensions. Which lists are lawful, and the rows of layer 2.
use Rattle.std.specs.Prelude.{◌≡◌, Result, MatchResult, ℕ, zero, suc, ◌<◌, ◌≤◌, Bool, ◌&&◌, ◌||◌, List, [], ◌∷◌, length, ◌==◌, nat_le, nat_lt, slice_index, slice_index_or}
use Rattle.decomposition.specs.Graphs.{Graph, graph_of}
use Rattle.decomposition.specs.Lists.{Proper}
use Rattle.graph.specs.Limits.{fewest_elements, most_elements, most_dimensions}
use Rattle.graph.specs.Rows.{lowest, present, Row, row}
use Rattle.graph.specs.declared.dimension.Dimension.{Dimension}
use Rattle.graph.specs.declared.kind.Kind.{Kind}
use Rattle.graph.specs.declared.kind.Kind.TheVariants.{Point, Line}
use Rattle.graph.specs.declared.kind.UnknownKind.{UnknownKind}

-- a dimension by its lower element, its higher element and its grade
abbrev pub dimension : ℕ → ℕ → ℕ → Dimension
dimension l h g = record { lower = l; higher = h; grade = g }

-- the dimension at a place; past the end one that joins nothing, since both its ends are one element
abbrev pub at : List Dimension → ℕ → Dimension
at ds i = slice_index_or ds i (dimension 0 0 0)

-- the lower end of the dimension at a place
abbrev pub lower_of : List Dimension → ℕ → ℕ
lower_of ds d = (at ds d).lower

-- and its higher end
abbrev pub higher_of : List Dimension → ℕ → ℕ
higher_of ds d = (at ds d).higher

-- the graph of a list: its elements, joined by its dimensions
abbrev pub list_graph : List ℕ → List Dimension → Graph
list_graph ks ds = graph_of (lower_of ds) (higher_of ds) (length ks) (length ds)

-- a lawful list, rule by rule
pub record Lawful (ks : List ℕ) (ds : List Dimension) : Type 0 where
  pub enough : fewest_elements ≤ length ks
  pub few : length ks ≤ most_elements
  pub short : length ds ≤ most_dimensions
  -- each kind is 0, a point, or 1, a line
  pub kinds : (i : ℕ) → i < length ks → slice_index ks i ≤ 1
  -- the two ends of a dimension are elements, the lower one first, and no pair has two dimensions
  pub proper : Proper (lower_of ds) (higher_of ds) (length ks) (length ds)

-- 7: too few or too many kinds, at 0, or too many dimensions, at 1
abbrev pub wrong_count : List ℕ → List Dimension → ℕ → Bool
wrong_count ks ds zero = nat_lt (length ks) fewest_elements || nat_lt most_elements (length ks)
wrong_count ks ds (suc p) = nat_lt most_dimensions (length ds)

-- the byte of a kind
abbrev pub byte_of : Kind → ℕ
byte_of Point = 0
byte_of Line = 1

-- the answer is the kind of this byte, or says that the byte is no kind
abbrev pub IsKind : ℕ → Result Kind UnknownKind → Type 0
IsKind b r = MatchResult r (λ k. byte_of k ≡ b) (λ e. (e.0 ≡ b) × (1 < b))

-- 8: a kind that is not 0 or 1
abbrev pub unknown_kind : List ℕ → ℕ → Bool
unknown_kind ks i = nat_lt 1 (slice_index ks i)

-- 9: an element that is not there
abbrev pub unknown_element : List ℕ → List Dimension → ℕ → Bool
unknown_element ks ds i = nat_le (length ks) (lower_of ds i) || nat_le (length ks) (higher_of ds i)

-- 10: the first element is not below the second
abbrev pub not_rising : List Dimension → ℕ → Bool
not_rising ds i = nat_le (higher_of ds i) (lower_of ds i)

-- the same two ends
abbrev pub same_pair : Dimension → Dimension → Bool
same_pair d e = d.lower == e.lower && d.higher == e.higher

-- 11: an earlier dimension has the same pair
abbrev pub repeated_pair : List Dimension → ℕ → Bool
repeated_pair ds i = present (lowest i (λ k. same_pair (at ds k) (at ds i)))

-- the rows of layer 2
abbrev pub list_rows : List ℕ → List Dimension → List Row
list_rows ks ds =
    row 2 7 2 (wrong_count ks ds)
    ∷ row 2 8 (length ks) (unknown_kind ks)
    ∷ row 2 9 (length ds) (unknown_element ks ds)
    ∷ row 2 10 (length ds) (not_rising ds)
    ∷ row 2 11 (length ds) (repeated_pair ds)
    ∷ []
