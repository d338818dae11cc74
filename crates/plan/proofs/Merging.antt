-- What merge's answers mean.
use Rattle.std.proofs.Common.{◌≡◌, ℕ, ◌<◌, ◌≤◌, List, [], ◌∷◌, ◌++◌, cond, map, length, take, drop, Some, None, Ok, Err, Option, Result, sym, refl, ap, ◌∙◌, subst, inl, inr, arith}
use Rattle.std.proofs.lemmas.Bool.{le-ltb, lt-ltb}
use Rattle.std.proofs.lemmas.List.{take_at}
use Rattle.decomposition.specs.Merging.{CanJoin, Merged}
use Rattle.decomposition.proofs.Merged.{planning}
use Rattle.decomposition.proofs.MergedExists.{merging}
use Rattle.graph.specs.Rows.{Row, row_at, or_else, reported, first_refusal, answered, told, AllClear}
use Rattle.graph.specs.Lists.{lower_of, higher_of, list_rows, Lawful}
use Rattle.graph.specs.ListFaults.{list_refusal}
use Rattle.graph.specs.declared.dimension.Dimension.{Dimension}
use Rattle.graph.specs.declared.faults.ListFault.{ListFault}
use Rattle.graph.proofs.Reading.{reading, clear_none, refusal_append}
use Rattle.graph.proofs.Told.{answered_err}
use Rattle.graph.proofs.Lawfully.{lawful_clear}
use Rattle.plan.specs.Entries.{nodes, steps}
use Rattle.plan.specs.PlanRows.{few_places}
use Rattle.plan.specs.PlanFaults.{plan_refusal}
use Rattle.plan.specs.Check.{AcceptedPlan, Accepting}
use Rattle.plan.specs.Drafts.{drafted, count, draft_table, LowestThree, Drafted}
use Rattle.plan.specs.Merge.{
  MergedTable,
  OneMerged,
  Accepts,
  Planless,
  merge_rows,
  no_plan,
  MergeRefusing,
  MergeAnswering,
  MergeFilling,
  MergingLaw,
}
use Rattle.plan.specs.declared.entry.Entry.{Entry}
use Rattle.plan.specs.declared.draft.Draft.{Draft}
use Rattle.plan.specs.declared.faults.PlanFault.{PlanFault}
use Rattle.plan.specs.declared.faults.PlanFault.TheVariants as is
use Rattle.plan.proofs.Exactly.{clear_append, answer_ok}
use Rattle.plan.proofs.Complete.{entry_of, entries_back, nodes_back}
use Rattle.plan.proofs.Drafting.{table_length}
use Rattle.plan.proofs.Fitting.{joins_fit}
use Rattle.plan.proofs.Naming.{Small}

-- the rule's table

-- tables of the rule are one
merged_same : (ds : List Dimension) (p q : List Entry) → MergedTable ds p → MergedTable ds q → p ≡ q
merged_same ds p q h k =
    sym (nodes_back p) ∙ ap (map entry_of) ((merging (lower_of ds) (higher_of ds) (length ds)).1 (nodes p) (nodes q) h k) ∙ nodes_back q

one_merged : (ds : List Dimension) → OneMerged ds
one_merged ds =
    let r = (merging (lower_of ds) (higher_of ds) (length ds)).0 in
    let plan : List Entry = map entry_of r.0 in
    let is : MergedTable ds plan = subst (Merged (lower_of ds) (higher_of ds) (length ds)) (sym (entries_back r.0)) r.1 in
    (plan, is, λ other h. merged_same ds other plan h is)

-- where the rule's table is no plan the list has none
pub planless : (ks : List ℕ) (ds : List Dimension) (plan : List Entry) → Lawful ks ds → MergedTable ds plan → (AcceptedPlan ks ds plan → ⊥) → Planless ks ds
planless ks ds plan lawful merged fails other k e =
    let short = lawful.short in
    fails ((planning (lower_of ds) (higher_of ds) 187 (length ks) (length ds) (nodes plan) lawful.proper (omega arith) merged).1
    (187, nodes other, ((answer_ok ks ds other k).0 e).1))

-- a draft with no three left to join is the rule's table
pub merged_draft : (ds : List Dimension) → Small ds → (d : Draft) → Drafted (length ds) ds d → LowestThree d None → MergedTable ds (drafted d)
merged_draft ds small d h done =
    let all : (x y z : ℕ) → CanJoin (lower_of ds) (higher_of ds) (draft_table d) (count d) x y z → ⊥ =
    (λ x y z can. done x y z (joins_fit ds small (length ds) (omega arith) d h x y z can)) in
    record {
      underway = h.underway;
      done = subst (λ k. (x y z : ℕ) → CanJoin (lower_of ds) (higher_of ds) (draft_table d) k x y z → ⊥) (sym (table_length d)) all;
    }

-- a plan written to the front of a table, and read back
pub read_back : (plan part old : List Entry) → part ≡ plan → take (length plan) (part ++ drop (length plan) old) ≡ plan
read_back plan part old is = take_at part _ (length plan) (ap length is) ∙ is

-- answers

ok_err : {X F : Type 0} (x : X) (f : F) → ◌≡◌ {A = Result X F} (Ok x) (Err f) → ⊥
ok_err x f e = let z : ◌≡◌ {A = ℕ} 0 1 = cc in omega arith

none_some : {X : Type 0} (o : Option X) (x : X) → o ≡ None → o ≡ Some x → ⊥
none_some o x p q = let z : ◌≡◌ {A = ℕ} 0 1 = cc in omega arith

-- check does not refuse what was read back
pub not_refused : (ks : List ℕ) (ds : List Dimension) (plan again : List Entry) (f : PlanFault) → Lawful ks ds → AcceptedPlan ks ds plan → again ≡ plan
    → Accepting ks ds again (Err f) → ⊥
not_refused ks ds plan again f lawful accepted same says =
    ok_err (steps again) f (sym ((says (steps again)).1 (lawful, subst (AcceptedPlan ks ds) (sym same) accepted, refl)))

-- all that merge promises
pub record Outcome (ks : List ℕ) (ds : List Dimension) (old new : List Entry) (r : Result ℕ PlanFault) : Type 0 where
  pub refuses : MergeRefusing ks ds (length old) (told plan_refusal r)
  pub answers : MergeAnswering ks ds (length old) r
  pub fills : MergeFilling ds old new r
  pub rule : OneMerged ds
  pub law : Lawful ks ds → 187 ≤ length old → MergingLaw ks ds old new r

module _ (ks : List ℕ) (ds : List Dimension) (old : List Entry) where
  abbrev rows : List Row
  rows = merge_rows ks ds (length old)

  abbrev place_row : List Row
  place_row = row_at 3 18 1 (few_places (length old)) (λ _. length old) ∷ []

  rows_clear : Lawful ks ds → 187 ≤ length old → AllClear rows
  rows_clear lawful enough = (clear_append (list_rows ks ds) place_row).1 (lawful_clear ks ds lawful, (λ p l. le-ltb (length old) 187 enough, tt))

  -- behind the list's rows the row of the table
  refusal_parts : first_refusal rows ≡ or_else (first_refusal (list_rows ks ds)) (first_refusal place_row)
  refusal_parts = refusal_append (list_rows ks ds) place_row

  -- where a row refuses
  row_refused : (f : PlanFault) → first_refusal rows ≡ Some (plan_refusal f) → Outcome ks ds old old (Err f)
  row_refused f hit = record {
    refuses = λ y. (
      λ e. let same : plan_refusal f ≡ y = cc in inl (((reading rows).0 y).0 (hit ∙ ap Some same)),
      λ h.
          elim h [
            | inl k ↦ (let same = sym hit ∙ ((reading rows).0 y).1 k in cc)
            | inr k ↦ absurd (none_some _ _ (clear_none rows k.0) hit)
          ],
    );
    answers = λ plan merged k. (λ e. absurd (ok_err k f (sym e)), λ h. absurd (none_some _ _ (clear_none rows h.0) hit));
    fills = λ plan merged. refl;
    rule = one_merged ds;
    law = λ lawful enough. absurd (none_some _ _ (clear_none rows (rows_clear lawful enough)) hit);
  }

  pub list_refused : (f : ListFault) → answered (first_refusal (list_rows ks ds)) (tt {0}) ≡ Err (list_refusal f) → Outcome ks ds old old (Err (is.List f))
  list_refused f e =
      row_refused (is.List f)
      (refusal_parts ∙ ap (λ o. or_else o (first_refusal place_row)) (answered_err (first_refusal (list_rows ks ds)) tt (list_refusal f) e))

  pub places_refused : Lawful ks ds → length old < 187 → Outcome ks ds old old (Err (is.FewPlaces (length old)))
  places_refused lawful few =
      row_refused (is.FewPlaces (length old))
      (refusal_parts
      ∙ ap (λ o. or_else o (first_refusal place_row)) (clear_none (list_rows ks ds) (lawful_clear ks ds lawful))
      ∙ ap (λ b. or_else (reported (row_at 3 18 1 (few_places (length old)) (λ _. length old)) (cond b (Some 0) None)) None) (lt-ltb (length old) 187 few))

  -- behind the rows, the table of the rule
  module _ (lawful : Lawful ks ds) (enough : 187 ≤ length old) (plan : List Entry) (merged : MergedTable ds plan) where
    pub plan_missing : (AcceptedPlan ks ds plan → ⊥) → Outcome ks ds old old (Err is.NoPlan)
    plan_missing fails =
        let none = planless ks ds plan lawful merged fails in
        record {
          refuses = λ y. (
            λ e. inr (rows_clear lawful enough, none, (let same : y ≡ no_plan = cc in same)),
            λ h.
                elim h [
                  | inl k ↦ absurd (none_some _ _ (clear_none rows (rows_clear lawful enough)) (((reading rows).0 y).1 k))
                  | inr k ↦ ap Err (sym k.2)
                ],
          );
          answers = λ other m k. (λ e. absurd (ok_err k is.NoPlan (sym e)), λ h. absurd (none other (steps other) h.1));
          fills = λ other m. refl;
          rule = one_merged ds;
          law = λ _ _. record { none = (λ _. none, λ _. refl); some = λ not. absurd (not refl) };
        }

    pub plan_found : AcceptedPlan ks ds plan → (new : List Entry) → new ≡ plan ++ drop (length plan) old → Outcome ks ds old new (Ok (length plan))
    plan_found accepted new is =
        let accepts : Accepts ks ds plan = (answer_ok ks ds plan (steps plan)).1 (lawful, accepted, refl) in
        record {
          refuses = λ y. (
            λ e. absurd (ok_err (length plan) y e),
            λ h.
                elim h [
                  | inl k ↦ absurd (none_some _ _ (clear_none rows (rows_clear lawful enough)) (((reading rows).0 y).1 k))
                  | inr k ↦ absurd (k.1 plan (steps plan) accepts)
                ],
          );
          answers = λ other m k.
              let same = merged_same ds plan other merged m in (
                λ e.
                    let long : k ≡ length plan = cc in
                    (rows_clear lawful enough, subst (Accepts ks ds) same accepts, long ∙ ap length same),
                λ h. ap Ok (ap length same ∙ sym h.2),
              );
          fills = λ other m. is ∙ ap (λ p. p ++ drop (length plan) old) (merged_same ds plan other merged m);
          rule = one_merged ds;
          law = λ _ _. record {
            none = (λ e. absurd (ok_err (length plan) no_plan e), λ none. absurd (none plan (steps plan) accepts));
            some = λ _. (plan, merged, accepts, refl, is);
          };
        }
