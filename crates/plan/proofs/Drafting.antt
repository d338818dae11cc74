-- A plan in the making: what one entry more keeps of what is said of it.
use Rattle.std.proofs.Common.{◌≡◌, ℕ, ◌+◌, ◌<◌, ◌≤◌, true, eqb, List, [], ◌∷◌, ◌++◌, length, sym, ap, ◌∙◌, subst, inl, inr, add-one, arith}
use Rattle.std.proofs.lemmas.Bool.{cases_eq}
use Rattle.std.proofs.lemmas.List.{length-map, length_push, map_push, get_or_append_left, get_or_push}
use Rattle.decomposition.specs.Trees.{reach}
use Rattle.decomposition.specs.Tables.{Node, names, mentions, named_by, unnamed, node, tree_at, last}
use Rattle.decomposition.specs.Merging.{Underway}
use Rattle.decomposition.proofs.Sums.{sum_same}
use Rattle.decomposition.proofs.Underway.{underway_rising, underway_listed, underway_last}
use Rattle.decomposition.proofs.MergedOnce.{tree_same}
use Rattle.graph.specs.Rows.{Clear}
use Rattle.graph.specs.Lists.{lower_of, higher_of}
use Rattle.graph.specs.declared.dimension.Dimension.{Dimension}
use Rattle.plan.specs.Entries.{node_of, nodes}
use Rattle.plan.specs.PlanRows.{misnamed}
use Rattle.plan.specs.Drafts.{drafted, count, draft_table, reach_at, unnamed_at, Told, Drafted}
use Rattle.plan.specs.declared.entry.Entry.{Entry}
use Rattle.plan.specs.declared.draft.Draft.{Draft}
use Rattle.plan.proofs.Naming.{nodes_length, names_clear}

-- a draft's table has a row for each entry
pub table_length : (d : Draft) → length (draft_table d) ≡ count d
table_length d = nodes_length (drafted d) ∙ length-map d.parts.items _

-- the names in a table of the merging rule are in order
pub named_right : (ds : List Dimension) (m : ℕ) (plan : List Entry) → m ≤ length ds → Underway (lower_of ds) (higher_of ds) m (nodes plan)
    → Clear (length plan) (misnamed ds plan)
named_right ds m plan l u =
    names_clear ds plan
    (λ e d k q. omega (arith, underway_listed (lower_of ds) (higher_of ds) m (nodes plan) u e d k q))
    (underway_rising (lower_of ds) (higher_of ds) m (nodes plan) u)

-- one entry more
module _ (ds : List Dimension) (m m' : ℕ) (d : Draft) (h : Drafted m ds d) (entry : Entry) where
  abbrev table : List Node
  table = draft_table d

  abbrev table' : List Node
  table' = table ++ node_of entry ∷ []

  pub size' : length table' ≡ count d + 1
  size' = length_push table (node_of entry) ∙ ap (λ k. k + 1) (table_length d)

  older : (j : ℕ) → j < count d → node table j ≡ node table' j
  older j l = sym (get_or_append_left table (node_of entry ∷ []) (names 0) j (omega (arith, table_length d)))

  pub newest : node table' (count d) ≡ node_of entry
  newest = get_or_push table (node_of entry) (names 0) (count d) (table_length d)

  -- the earlier trees stay
  pub tree_stays : (e : ℕ) → e < count d → tree_at table e ≡ tree_at table' e
  tree_stays =
      tree_same (node table) (node table') (count d) older
      (λ e a b c l. underway_rising (lower_of ds) (higher_of ds) m table h.underway e a b c (omega (arith, table_length d)))

  -- what the new entry names is named
  pub unnamed_more : (e : ℕ) → unnamed (node table') (count d + 1) e ≡ eqb (named_by (node table) (count d) e + mentions (node_of entry) e) 0
  unnamed_more e =
      let p : named_by (node table') (count d) e ≡ named_by (node table) (count d) e =
      sum_same (count d) (λ j. mentions (node table' j) e) (λ j. mentions (node table j) e) (λ j l. ap (λ x. mentions x e) (sym (older j l))) in
      let q : mentions (node table' (count d)) e ≡ mentions (node_of entry) e = ap (λ x. mentions x e) newest in
      ap (λ k. eqb (named_by (node table') k e) 0) (add-one (count d)) ∙ ap (λ x. eqb x 0) (omega arith)

  module _ (new : Draft) (more : drafted new ≡ drafted d ++ entry ∷ []) (underway : Underway (lower_of ds) (higher_of ds) m' table')
      (old_reach : (e i : ℕ) → e < count d → reach_at new e i ≡ reach_at d e i)
      (new_reach : (i : ℕ) → reach_at new (count d) i ≡ reach (lower_of ds) (higher_of ds) (tree_at table' (count d)) i)
      (old_flags : (e : ℕ) → e < count d → unnamed_at new e ≡ unnamed (node table') (count d + 1) e)
      (new_flag : unnamed_at new (count d) ≡ true) where
    now_table : draft_table new ≡ table'
    now_table = ap nodes more ∙ map_push node_of (drafted d) entry

    now_count : count new ≡ count d + 1
    now_count = sym (table_length new) ∙ ap length now_table ∙ size'

    -- nothing names the newest entry
    top : unnamed (node table') (count d + 1) (count d) ≡ true
    top =
        let is : last table' ≡ count d = omega (arith, size') in
        ap (λ k. unnamed (node table') k (count d)) (sym size')
        ∙ ap (unnamed (node table') (length table')) (sym is)
        ∙ underway_last (lower_of ds) (higher_of ds) m' table' underway (omega (arith, size'))

    now_told : Told m' ds table' new
    now_told = record {
      underway = underway;
      reaches = λ e i l.
          elim (cases_eq e (count d)) [
            | inl p ↦ subst (λ e. reach_at new e i ≡ reach (lower_of ds) (higher_of ds) (tree_at table' e) i) (sym p) (new_reach i)
            | inr p ↦
                (let k : e < count d = omega (arith, now_count) in
                old_reach e i k ∙ h.reaches e i k ∙ ap (λ t. reach (lower_of ds) (higher_of ds) t i) (tree_stays e k))
          ];
      flags = λ e l.
          subst (λ k. unnamed_at new e ≡ unnamed (node table') k e) (sym now_count)
          (elim (cases_eq e (count d)) [
            | inl p ↦ subst (λ e. unnamed_at new e ≡ unnamed (node table') (count d + 1) e) (sym p) (new_flag ∙ sym top)
            | inr p ↦ old_flags e (omega (arith, now_count))
          ]);
    }

    pub draft_push : Drafted m' ds new
    draft_push = subst (λ t. Told m' ds t new) (sym now_table) now_told
