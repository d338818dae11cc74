-- When the table of the merging rule is a plan: every entry but the last is named, and the last reaches every element.
use Rattle.std.proofs.Common.{◌≡◌, ℕ, zero, suc, ◌-◌, ◌<◌, Bool, true, false, not, ◌↔◌, List, length, is_some, Some, None, Option, sym, refl, ap, ◌∙◌, arith}
use Rattle.std.proofs.lemmas.Bool.{both_ways, not-true}
use Rattle.decomposition.proofs.Merged.{underway_accepted}
use Rattle.graph.specs.Rows.{lowest, Clear, AllClear}
use Rattle.graph.specs.Lists.{lower_of, higher_of, Lawful}
use Rattle.graph.specs.declared.dimension.Dimension.{Dimension}
use Rattle.decomposition.proofs.Lowest.{lowest_none, none_clears}
use Rattle.plan.specs.Entries.{nodes}
use Rattle.plan.specs.PlanRows.{misnamed, not_named_once, not_reached, plan_rows}
use Rattle.plan.specs.Check.{AcceptedPlan}
use Rattle.plan.specs.Merge.{MergedTable}
use Rattle.plan.specs.declared.entry.Entry.{Entry}
use Rattle.plan.proofs.Naming.{nodes_length}
use Rattle.plan.proofs.Rules.{clear_once, clear_reaches, accepted_clear}
use Rattle.plan.proofs.Exactly.{lawful_small}
use Rattle.plan.proofs.Drafting.{named_right}

-- a number is found exactly where one passes
absent_clears : (n : ℕ) (test : ℕ → Bool) (o : Option ℕ) → o ≡ lowest n test → is_some o ≡ false → Clear n test
absent_clears n test None e h = none_clears n test (sym e)
absent_clears n test (Some p) e h = absurd (both_ways true h refl)

clear_finds_none : (n : ℕ) (test : ℕ → Bool) (o : Option ℕ) → o ≡ lowest n test → Clear n test → is_some o ≡ false
clear_finds_none n test o e h = ap is_some (e ∙ lowest_none n test h)

one_clear : (test : ℕ → Bool) → test 0 ≡ false → Clear 1 test
one_clear test h zero l = h
one_clear test h (suc k) l = absurd (omega arith)

module _ (ks : List ℕ) (ds : List Dimension) (plan : List Entry) (lawful : Lawful ks ds) (merged : MergedTable ds plan) where
  pub named_clear : Clear (length plan) (misnamed ds plan)
  named_clear = named_right ds (length ds) plan (omega arith) merged.underway

  rows_clear : AcceptedPlan ks ds plan → AllClear (plan_rows ks ds plan)
  rows_clear = accepted_clear ks ds plan (lawful_small ks ds lawful)

  pub empty_fails : length plan ≡ 0 → AcceptedPlan ks ds plan → ⊥
  empty_fails e a = let some = a.in_order.some in let same_length = nodes_length plan in omega arith

  pub unnamed_fails : (o : Option ℕ) → o ≡ lowest (length plan - 1) (not_named_once plan) → is_some o ≡ true → AcceptedPlan ks ds plan → ⊥
  unnamed_fails o e h a = both_ways (is_some o) (clear_finds_none (length plan - 1) (not_named_once plan) o e (rows_clear a).1.1.0) h

  module _ (some : 0 < length plan) (o : Option ℕ) (o_is : o ≡ lowest (length plan - 1) (not_named_once plan)) (named : is_some o ≡ false) where
    pub stands : (b : Bool) → b ≡ not (not_reached ks ds plan 0) → (b ≡ true) ↔ AcceptedPlan ks ds plan
    stands b h = (there, λ a. h ∙ ap not ((rows_clear a).1.1.1.1.1.0 0 (omega arith)))
      where
        there : b ≡ true → AcceptedPlan ks ds plan
        there is =
            let same_length = nodes_length plan in
            let short = lawful.short in
            underway_accepted (lower_of ds) (higher_of ds) (length ks) (length ds) (nodes plan) merged.underway 187 (omega arith) (omega arith)
            (clear_once ds plan named_clear (absent_clears (length plan - 1) (not_named_once plan) o o_is named))
            (clear_reaches ks ds plan (one_clear (not_reached ks ds plan) (not-true (not_reached ks ds plan 0) (sym h ∙ is))))
