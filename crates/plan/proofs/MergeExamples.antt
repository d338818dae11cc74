-- The merging rule on small lists, by computation.
use Rattle.std.proofs.Common.{◌≡◌, ℕ, ◌<◌, List, [], ◌∷◌, length, None, refl, subst, arith}
use Rattle.decomposition.specs.Merging.{Merged}
use Rattle.decomposition.specs.Tables.{named, last}
use Rattle.decomposition.proofs.MergedExists.{merged_table, table_merged}
use Rattle.graph.specs.Rows.{first_refusal}
use Rattle.graph.specs.Lists.{lower_of, higher_of, list_rows, Lawful}
use Rattle.graph.specs.declared.dimension.Dimension.{Dimension}
use Rattle.graph.proofs.Reading.{none_clear}
use Rattle.graph.proofs.Lawfully.{clear_lawful}
use Rattle.plan.specs.Entries.{nodes}
use Rattle.plan.specs.Reach.{reached}
use Rattle.plan.specs.Hinges.{hinges}
use Rattle.plan.specs.Check.{AcceptedPlan, point_kinds, plain, triangle, one_step}
use Rattle.plan.specs.Merge.{MergedTable, Planless, MergeExamples, braced_square, square_plan, crowded, prism}
use Rattle.plan.specs.declared.entry.Entry.{Entry}
use Rattle.plan.specs.declared.entry.Entry.TheVariants.{Leaf, Step}
use Rattle.plan.proofs.Merging.{planless}

-- a list that no row refuses is lawful
lawful : (ks : List ℕ) (ds : List Dimension) → first_refusal (list_rows ks ds) ≡ None → Lawful ks ds
lawful ks ds e = clear_lawful ks ds (none_clear (list_rows ks ds) e)

-- what the rule makes is worked out
merged : (ks : List ℕ) (ds : List Dimension) (plan : List Entry) → first_refusal (list_rows ks ds) ≡ None
    → merged_table (lower_of ds) (higher_of ds) (length ks) (length ds) ≡ nodes plan → MergedTable ds plan
merged ks ds plan e is =
    let proper = (lawful ks ds e).proper in
    subst (Merged (lower_of ds) (higher_of ds) (length ds)) is
    (table_merged (lower_of ds) (higher_of ds) (length ks) (length ds)
    (λ d l. let r = proper.rising d l in let w = proper.within d l in (omega arith, w)))

-- an entry but the last that nothing names
left_over : (ks : List ℕ) (ds : List Dimension) (plan : List Entry) (e : ℕ) → e < last (nodes plan) → named (nodes plan) e ≡ 0 → AcceptedPlan ks ds plan → ⊥
left_over ks ds plan e l z a = let once = a.in_order.named_once e l in omega arith

-- where the rule ends with an entry left over the list has no plan
none : (ks : List ℕ) (ds : List Dimension) (plan : List Entry) (e : ℕ) → first_refusal (list_rows ks ds) ≡ None
    → merged_table (lower_of ds) (higher_of ds) (length ks) (length ds) ≡ nodes plan → e < last (nodes plan) → named (nodes plan) e ≡ 0 → Planless ks ds
none ks ds plan e rows is l z = planless ks ds plan (lawful ks ds rows) (merged ks ds plan rows is) (left_over ks ds plan e l z)

-- what the rule makes of the lists that have no plan
abbrev crowded_table : List Entry
crowded_table = Leaf 0 ∷ Leaf 1 ∷ Leaf 2 ∷ Leaf 3 ∷ Leaf 4 ∷ Leaf 5 ∷ Leaf 6 ∷ Step 0 1 3 ∷ Step 2 4 7 ∷ []

abbrev prism_table : List Entry
prism_table =
    Leaf 0 ∷ Leaf 1 ∷ Leaf 2 ∷ Leaf 3 ∷ Leaf 4 ∷ Leaf 5 ∷ Leaf 6 ∷ Leaf 7 ∷ Leaf 8 ∷ Step 0 1 2 ∷ Step 5 7 8 ∷ []

pub examples : MergeExamples
unfolding reached hinges
examples = (
  merged (point_kinds 2) (plain 0 1 ∷ []) (Leaf 0 ∷ []) refl refl,
  merged (point_kinds 3) triangle one_step refl refl,
  merged (point_kinds 4) braced_square square_plan refl refl,
  refl,
  planless (point_kinds 2) [] [] (lawful (point_kinds 2) [] refl) (merged (point_kinds 2) [] [] refl refl) (λ a. let some = a.in_order.some in omega arith),
  none (point_kinds 5) crowded crowded_table 5 refl refl (omega arith) refl,
  none (point_kinds 6) prism prism_table 3 refl refl (omega arith) refl,
)
