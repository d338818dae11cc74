-- The table that the merging rule makes is accepted exactly where some table is.
use Rattle.std.proofs.Common.{◌≡◌, ℕ, ◌+◌, ◌*◌, ◌<◌, ◌≤◌, true, List, length, ap, ◌∙◌, inl, inr, arith}
use Rattle.std.proofs.lemmas.Bool.{cases_eq, eq-eqb}
use Rattle.decomposition.specs.Trees.{Tree, reach}
use Rattle.decomposition.specs.Lists.{Proper, Plan}
use Rattle.decomposition.specs.Tables.{Node, tree, unnamed, node, tree_at, named, last, root, Accepted}
use Rattle.decomposition.specs.Forest.{Forest, Finished, finished, joinable}
use Rattle.decomposition.specs.Merging.{Underway, Merged}
use Rattle.decomposition.specs.Laws.{PlanningLaw}
use Rattle.decomposition.proofs.Entries.{conserved, leaves_none}
use Rattle.decomposition.proofs.Accepted.{accepted_plan}
use Rattle.decomposition.proofs.Progress.{never_stuck}
use Rattle.decomposition.proofs.Underway.{
  underway_joins,
  underway_rising,
  underway_listed,
  underway_once,
  underway_last,
  underway_leaves,
  underway_short,
  underway_within,
  underway_valid,
}

module _ (lower higher : ℕ → ℕ) (n m : ℕ) (table : List Node) (underway : Underway lower higher m table) where
  abbrev size : ℕ
  size = length table

  abbrev g : ℕ → Node
  g = node table

  -- a table of the rule is accepted where every entry but the last is named, and the last reaches everything
  pub underway_accepted : (limit : ℕ) → 3 * m ≤ 2 * limit + 1 → 1 ≤ size → ((e : ℕ) → e < last table → named table e ≡ 1)
      → ((x : ℕ) → x < n → reach lower higher (root table) x ≡ true) → Accepted lower higher limit n m table
  underway_accepted limit room some once reaches = record {
    in_order = record {
      some = some;
      listed = underway_listed lower higher m table underway;
      rising = underway_rising lower higher m table underway;
      named_once = once;
    };
    short = omega (arith, underway_short lower higher m table underway some);
    leaf_once = underway_leaves lower higher m table underway;
    hinged = λ e a b c l q. (underway_joins lower higher m table underway e a b c l q).hinges;
    reaches = reaches;
  }

  -- so it is with one unnamed entry that reaches everything: that entry is the last
  finished_accepted : (limit : ℕ) → 3 * m ≤ 2 * limit + 1 → (i : ℕ) → Finished lower higher n size (tree_at table) (unnamed g size) i
      → Accepted lower higher limit n m table
  finished_accepted limit room i one =
      let below = one.below in
      let is_last : last table ≡ i = one.alone (last table) (omega arith) (underway_last lower higher m table underway (omega arith)) in
      let once : (e : ℕ) → e < last table → named table e ≡ 1 =
      (λ e l.
      elim (cases_eq (named table e) 0) [
        | inl h ↦ absurd (omega (arith, one.alone e (omega arith) (eq-eqb (named table e) 0 h)))
        | inr h ↦ omega (arith, underway_once lower higher m table underway size e (omega arith))
      ]) in
      underway_accepted limit room (omega arith) once (λ x l. ap (λ e. reach lower higher (tree g e) x) is_last ∙ one.reaches x l)

  -- its unnamed entries are the parts of a merge
  forest : Proper lower higher n m → Forest lower higher n m size (tree_at table) (unnamed g size)
  forest proper =
      let all = conserved g size (underway_rising lower higher m table underway) (λ e l. underway_once lower higher m table underway size e (omega arith)) in
      record {
        valid = λ i l h. underway_valid lower higher m table underway n proper i l;
        bounded = λ i l h. underway_within lower higher m table underway n proper i l;
        once = λ d l. all d ∙ underway_leaves lower higher m table underway d l;
        only = λ d l. all d ∙ leaves_none g size m d (underway_listed lower higher m table underway) l;
      }

-- where the list has a tree decomposition the merged table is accepted
merged_accepted : (lower higher : ℕ → ℕ) (n m : ℕ) (table : List Node) → Merged lower higher m table → Proper lower higher n m
    → (P : Tree) → Plan lower higher n m P → (limit : ℕ) → 3 * m ≤ 2 * limit + 1 → Accepted lower higher limit n m table
merged_accepted lower higher n m table merged proper P plan limit room =
    let underway = merged.underway in
    elim (never_stuck lower higher n m (length table) P (tree_at table) (unnamed (node table) (length table)) plan
    (forest lower higher n m table underway proper)) [
      | finished i one ↦ finished_accepted lower higher n m table underway limit room i one
      | joinable i j k can ↦ absurd (merged.done i j k can)
    ]

pub planning : PlanningLaw
planning lower higher limit n m table proper room merged = (
  λ a. (limit, table, a),
  λ h.
      merged_accepted lower higher n m table merged proper (root h.1) (accepted_plan lower higher h.0 n m h.1 proper h.2) limit room,
)
