-- The rows of layer 3, for a plan that is read and for the table of a plan that is looked for.
use Rattle.std.specs.Prelude.{ℕ, ◌-◌, Bool, false, not, ◌||◌, List, [], ◌∷◌, length, ◌==◌, nat_le, nat_lt}
use Rattle.decomposition.specs.Sets.{Subset, count}
use Rattle.graph.specs.Limits.{most_entries}
use Rattle.graph.specs.Rows.{lowest, present, Row, row, row_at}
use Rattle.graph.specs.declared.dimension.Dimension.{Dimension}
use Rattle.plan.specs.Entries.{entry_at}
use Rattle.plan.specs.Reach.{reached}
use Rattle.plan.specs.Hinges.{hinges}
use Rattle.plan.specs.declared.entry.Entry.{Entry}
use Rattle.plan.specs.declared.entry.Entry.TheVariants.{Leaf, Step}

-- 12: no entry, or too many
abbrev pub wrong_count : List Entry → ℕ → Bool
wrong_count plan p = nat_lt (length plan) 1 || nat_lt most_entries (length plan)

-- a leaf of none of the m dimensions, or a step at e that does not name three rising entries below e
abbrev pub misnames : ℕ → ℕ → Entry → Bool
misnames m e (Leaf d) = nat_le m d
misnames m e (Step a b c) = nat_le b a || (nat_le c b || nat_le e c)

-- 13: a leaf or a step misnames
abbrev pub misnamed : List Dimension → List Entry → ℕ → Bool
misnamed ds plan e = misnames (length ds) e (entry_at plan e)

-- the entry is a step that names e
abbrev pub names_entry : ℕ → Entry → Bool
names_entry e (Leaf d) = false
names_entry e (Step a b c) = e == a || (e == b || e == c)

-- 14: an entry but the last is not named by exactly one step
abbrev pub not_named_once : List Entry → ℕ → Bool
not_named_once plan e = not (count (length plan) (λ j. names_entry e (entry_at plan j)) == 1)

-- the entry is a leaf of the dimension d
abbrev pub names_dimension : ℕ → Entry → Bool
names_dimension d (Leaf p) = d == p
names_dimension d (Step a b c) = false

-- 15: a dimension is not named by exactly one leaf
abbrev pub not_one_leaf : List Entry → ℕ → Bool
not_one_leaf plan d = not (count (length plan) (λ j. names_dimension d (entry_at plan j)) == 1)

-- the entry is a step whose three reaches are not hinged
abbrev pub unhinged : (ℕ → Subset) → Entry → Bool
unhinged reach (Leaf d) = false
unhinged reach (Step a b c) = not (hinges (reach a) (reach b) (reach c))

-- 16: a step whose hinges are wrong
abbrev pub not_hinged : List Dimension → List Entry → ℕ → Bool
not_hinged ds plan e = unhinged (reached ds plan) (entry_at plan e)

-- 17: the last entry does not reach all elements
abbrev pub not_reached : List ℕ → List Dimension → List Entry → ℕ → Bool
not_reached ks ds plan p = present (lowest (length ks) (λ i. not (reached ds plan (length plan - 1) i)))

-- 18: a table for a plan has fewer places than a plan can have entries
abbrev pub few_places : ℕ → ℕ → Bool
few_places places p = nat_lt places most_entries

-- the rows of layer 3 for a plan that is read
abbrev pub plan_rows : List ℕ → List Dimension → List Entry → List Row
plan_rows ks ds plan =
    row_at 3 12 1 (wrong_count plan) (λ _. length plan)
    ∷ row 3 13 (length plan) (misnamed ds plan)
    ∷ row 3 14 (length plan - 1) (not_named_once plan)
    ∷ row 3 15 (length ds) (not_one_leaf plan)
    ∷ row 3 16 (length plan) (not_hinged ds plan)
    ∷ row_at 3 17 1 (not_reached ks ds plan) (λ _. length plan - 1)
    ∷ []
