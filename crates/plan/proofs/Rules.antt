-- No row of a plan holds anywhere exactly where the plan keeps the rules, row by row.
use Rattle.std.proofs.Common.{◌≡◌, ℕ, ◌+◌, ◌-◌, ◌<◌, ◌≤◌, Bool, true, false, not, ◌||◌, eqb, ltb, List, length, sym, refl, ap, ◌∙◌, subst, arith}
use Rattle.std.proofs.lemmas.Bool.{eqb-true, eq-eqb, le-ltb, ltb-false, or_parts, or_from, not-false, not_from_true}
use Rattle.decomposition.specs.Sets.{Subset, bit, sum, count}
use Rattle.decomposition.specs.Trees.{reach, Hinges}
use Rattle.decomposition.specs.Tables.{Node, names, joins, mentions, marks, node, tree_at, named, leaves, last, root}
use Rattle.decomposition.proofs.Sums.{sum_same}
use Rattle.graph.specs.Rows.{Clear, AllClear}
use Rattle.graph.specs.Lists.{lower_of, higher_of}
use Rattle.graph.specs.declared.dimension.Dimension.{Dimension}
use Rattle.decomposition.proofs.Lowest.{absent_clear, clear_absent}
use Rattle.plan.specs.Entries.{entry_at, node_of, nodes}
use Rattle.plan.specs.Reach.{reached}
use Rattle.plan.specs.Hinges.{hinges}
use Rattle.plan.specs.PlanRows.{misnamed, names_entry, not_named_once, names_dimension, unhinged, not_reached, plan_rows}
use Rattle.plan.specs.Check.{AcceptedPlan}
use Rattle.plan.specs.declared.entry.Entry.{Entry}
use Rattle.plan.specs.declared.entry.Entry.TheVariants.{Leaf, Step}
use Rattle.plan.proofs.Naming.{Small, Fits, node_at, nodes_length, names_clear, fits, listed, rising}
use Rattle.plan.proofs.Reaching.{reached_root, bounded}
use Rattle.plan.proofs.Hinging.{hinges_hinged, hinged_hinges}

-- 1 to 187
size_from : (k : ℕ) → (ltb k 1 || ltb 187 k) ≡ false → (1 ≤ k) × (k ≤ 187)
size_from k h = let p = or_parts (ltb k 1) (ltb 187 k) h in (ltb-false k 1 p.0, ltb-false 187 k p.1)

size_to : (k : ℕ) → 1 ≤ k → k ≤ 187 → (ltb k 1 || ltb 187 k) ≡ false
size_to k p q = or_from (ltb k 1) (ltb 187 k) (le-ltb k 1 p) (le-ltb 187 k q)

-- at most one of three
three_bits : (p q r : Bool) → (p ≡ true → q ≡ true → ⊥) → (p ≡ true → r ≡ true → ⊥) → (q ≡ true → r ≡ true → ⊥)
    → bit p + bit q + bit r ≡ bit (p || (q || r))
three_bits true true r f g h = absurd (f refl refl)
three_bits true false true f g h = absurd (g refl refl)
three_bits true false false f g h = refl
three_bits false true true f g h = absurd (h refl refl)
three_bits false true false f g h = refl
three_bits false false true f g h = refl
three_bits false false false f g h = refl

not_two : (e a b : ℕ) → a < b → eqb e a ≡ true → eqb e b ≡ true → ⊥
not_two e a b l p q = omega (arith, eqb-true e a p, eqb-true e b q)

mentions_bit : (m j e : ℕ) (x : Entry) → Fits m j (node_of x) → mentions (node_of x) e ≡ bit (names_entry e x)
mentions_bit m j e (Leaf d) h = refl
mentions_bit m j e (Step a b c) h =
    let l = h.0 in
    let k = h.1 in
    three_bits (eqb e a) (eqb e b) (eqb e c) (not_two e a b l) (not_two e a c (omega arith)) (not_two e b c k)

marks_bit : (d : ℕ) (x : Entry) → marks (node_of x) d ≡ bit (names_dimension d x)
marks_bit d (Leaf p) = refl
marks_bit d (Step a b c) = refl

-- a row that says "not once"
once_from : (k : ℕ) → not (eqb k 1) ≡ false → k ≡ 1
once_from k h = eqb-true k 1 (not-false (eqb k 1) h)

once_to : (k : ℕ) → k ≡ 1 → not (eqb k 1) ≡ false
once_to k h = not_from_true (eqb k 1) (eq-eqb k 1 h)

-- a step's three sets are hinged
abbrev HingesAt : (ℕ → Subset) → Node → Type 0
HingesAt R (names d) = Unit {0}
HingesAt R (joins a b c) = hinges (R a) (R b) (R c) ≡ true

hinges_from : (R : ℕ → Subset) (x : Entry) → unhinged R x ≡ false → HingesAt R (node_of x)
hinges_from R (Leaf d) h = tt
hinges_from R (Step a b c) h = not-false (hinges (R a) (R b) (R c)) h

hinges_to : (R : ℕ → Subset) (x : Entry) → HingesAt R (node_of x) → unhinged R x ≡ false
hinges_to R (Leaf d) h = refl
hinges_to R (Step a b c) h = not_from_true (hinges (R a) (R b) (R c)) h

hinges_both : (R : ℕ → Subset) (x : Node) → ((a b c : ℕ) → x ≡ joins a b c → hinges (R a) (R b) (R c) ≡ true) → HingesAt R x
hinges_both R (names d) h = tt
hinges_both R (joins a b c) h = h a b c refl

module _ (ds : List Dimension) (plan : List Entry) (clear : Clear (length plan) (misnamed ds plan)) where
  abbrev table : List Node
  table = nodes plan

  named_count : (e : ℕ) → named table e ≡ count (length plan) (λ j. names_entry e (entry_at plan j))
  named_count e =
      ap (λ n. sum n (λ j. mentions (node table j) e)) (nodes_length plan)
      ∙ sum_same (length plan) (λ j. mentions (node table j) e) (λ j. bit (names_entry e (entry_at plan j)))
      (λ j l. ap (λ x. mentions x e) (node_at plan j) ∙ mentions_bit (length ds) j e (entry_at plan j) (fits ds plan clear j l))

  -- what row 14 says
  pub clear_once : Clear (length plan - 1) (not_named_once plan) → (e : ℕ) → e < last table → named table e ≡ 1
  clear_once h e l = let same_length = nodes_length plan in named_count e ∙ once_from _ (h e (omega arith))

  leaves_count : (d : ℕ) → leaves table d ≡ count (length plan) (λ j. names_dimension d (entry_at plan j))
  leaves_count d =
      ap (λ n. sum n (λ j. marks (node table j) d)) (nodes_length plan)
      ∙ sum_same (length plan) (λ j. marks (node table j) d) (λ j. bit (names_dimension d (entry_at plan j)))
      (λ j l. ap (λ x. marks x d) (node_at plan j) ∙ marks_bit d (entry_at plan j))

  -- the test on hinges, and what it stands for
  module _ (small : Small ds) (a b c : ℕ) (p : a < length plan) (q : b < length plan) (r : c < length plan) where
    hinged_from : hinges (reached ds plan a) (reached ds plan b) (reached ds plan c) ≡ true
        → Hinges (lower_of ds) (higher_of ds) (tree_at table a) (tree_at table b) (tree_at table c)
    unfolding reached
    hinged_from h =
        hinges_hinged (reached ds plan a) (reached ds plan b) (reached ds plan c)
        (bounded ds plan clear small a p) (bounded ds plan clear small b q) (bounded ds plan clear small c r) h

    hinged_to : Hinges (lower_of ds) (higher_of ds) (tree_at table a) (tree_at table b) (tree_at table c)
        → hinges (reached ds plan a) (reached ds plan b) (reached ds plan c) ≡ true
    unfolding reached
    hinged_to h =
        hinged_hinges (reached ds plan a) (reached ds plan b) (reached ds plan c)
        (bounded ds plan clear small a p) (bounded ds plan clear small b q) (bounded ds plan clear small c r) h.0 h.1 h.2 h.3

-- what row 17 says
pub clear_reaches : (ks : List ℕ) (ds : List Dimension) (plan : List Entry) → Clear 1 (not_reached ks ds plan)
    → (i : ℕ) → i < length ks → reach (lower_of ds) (higher_of ds) (root (nodes plan)) i ≡ true
clear_reaches ks ds plan h i l =
    reached_root ds plan i
    ∙ not-false (reached ds plan (length plan - 1) i)
    (absent_clear (length ks) (λ i. not (reached ds plan (length plan - 1) i)) (h 0 (omega arith)) i l)

module _ (ks : List ℕ) (ds : List Dimension) (plan : List Entry) (small : Small ds) where
  pub clear_accepted : AllClear (plan_rows ks ds plan) → AcceptedPlan ks ds plan
  clear_accepted clear =
      let size = size_from (length plan) (clear.0 0 (omega arith)) in
      let same_length = nodes_length plan in
      let all_clear = clear.1.0 in
      record {
        in_order = record {
          some = omega arith;
          listed = λ e d l q. listed ds plan all_clear e d (omega arith) q;
          rising = λ e a b c l q. rising ds plan all_clear e a b c (omega arith) q;
          named_once = clear_once ds plan all_clear clear.1.1.0;
        };
        short = omega arith;
        leaf_once = λ d l. leaves_count ds plan all_clear d ∙ once_from _ (clear.1.1.1.0 d l);
        hinged = λ e a b c l q.
            let r = rising ds plan all_clear e a b c (omega arith) q in
            hinged_from ds plan all_clear small a b c (omega arith) (omega arith) (omega arith)
            (subst (HingesAt (reached ds plan)) (sym (node_at plan e) ∙ q)
            (hinges_from (reached ds plan) (entry_at plan e) (clear.1.1.1.1.0 e (omega arith))));
        reaches = clear_reaches ks ds plan clear.1.1.1.1.1.0;
      }

  pub accepted_clear : AcceptedPlan ks ds plan → AllClear (plan_rows ks ds plan)
  accepted_clear accepted =
      let same_length = nodes_length plan in
      let order = accepted.in_order in
      let some = order.some in
      let short = accepted.short in (
        λ p l. size_to (length plan) (omega arith) (omega arith),
        (
          all_clear,
          (
            λ e l. once_to _ (sym (named_count ds plan all_clear e) ∙ order.named_once e (omega arith)),
            (
              λ d l. once_to _ (sym (leaves_count ds plan all_clear d) ∙ accepted.leaf_once d l),
              (
                λ e l. hinges_to (reached ds plan) (entry_at plan e) (subst (HingesAt (reached ds plan)) (node_at plan e) (step_hinges e l)),
                (
                  λ p l.
                      clear_absent (length ks) (λ i. not (reached ds plan (length plan - 1) i))
                      (λ i h. not_from_true (reached ds plan (length plan - 1) i) (sym (reached_root ds plan i) ∙ accepted.reaches i h)),
                  tt,
                ),
              ),
            ),
          ),
        ),
      )
    where
      all_clear : Clear (length plan) (misnamed ds plan)
      all_clear = names_clear ds plan accepted.in_order.listed accepted.in_order.rising

      step_hinges : (e : ℕ) → e < length plan → HingesAt (reached ds plan) (node (nodes plan) e)
      step_hinges e l =
          let same_length = nodes_length plan in
          hinges_both (reached ds plan) (node (nodes plan) e)
          (λ a b c q.
          let r = accepted.in_order.rising e a b c (omega arith) q in
          hinged_to ds plan all_clear small a b c (omega arith) (omega arith) (omega arith) (accepted.hinged e a b c (omega arith) q))
