-- The merging rule leaves no choice: two merged tables of one list are equal.
use Rattle.std.proofs.Common.{◌≡◌, ℕ, zero, suc, ◌<◌, ◌≤◌, eqb, List, length, sym, refl, ap, ◌∙◌, inl, inr, arith}
use mathlib.Core.Path.{subst₃}
use Rattle.std.proofs.lemmas.Bool.{cases_lt, cases_order}
use Rattle.std.proofs.lemmas.List.{ext_get_or}
use Rattle.decomposition.specs.Trees.{Hinges}
use Rattle.decomposition.specs.Tables.{Node, names, joins, mentions, grow, build, tree, named_by, unnamed, node}
use Rattle.decomposition.specs.Merging.{CanJoin, Upto, Merged}
use Rattle.decomposition.proofs.Sums.{sum_same}
use Rattle.decomposition.proofs.Entries.{joins_path, step_path}
use Rattle.decomposition.proofs.Underway.{underway_rising}

-- entries that agree below k have the same trees there
module _ (f g : ℕ → Node) (k : ℕ) (agree : (j : ℕ) → j < k → f j ≡ g j)
    (rising : (e a b c : ℕ) → e < k → f e ≡ joins a b c → (a < b) × (b < c) × (c < e)) where
  build_same : (l e : ℕ) → e < k → build f l e ≡ build g l e
  build_same zero e h = refl
  build_same (suc l) e h = grown (f e) refl (λ a r. build_same l a r) ∙ ap (λ x. grow x (build g l)) (agree e h)
    where
      grown : (x : Node) → f e ≡ x → ((a : ℕ) → a < k → build f l a ≡ build g l a) → grow x (build f l) ≡ grow x (build g l)
      grown (names d) q ih = refl
      grown (joins a b c) q ih =
          let r = rising e a b c h q in
          step_path (ih a (omega arith)) (ih b (omega arith)) (ih c (omega arith))

  pub tree_same : (e : ℕ) → e < k → tree f e ≡ tree g e
  tree_same e h = build_same (suc e) e h

  named_same : (e : ℕ) → named_by f k e ≡ named_by g k e
  named_same e = sum_same k (λ j. mentions (f j) e) (λ j. mentions (g j) e) (λ j l. ap (λ x. mentions x e) (agree j l))

  unnamed_same : (e : ℕ) → unnamed f k e ≡ unnamed g k e
  unnamed_same e = ap (λ x. eqb x 0) (named_same e)

-- tables that agree below k can join the same three there
pub can_join_same : (lower higher : ℕ → ℕ) (s t : List Node) (k : ℕ) → ((j : ℕ) → j < k → node s j ≡ node t j)
    → ((e a b c : ℕ) → e < k → node s e ≡ joins a b c → (a < b) × (b < c) × (c < e))
    → (a b c : ℕ) → CanJoin lower higher s k a b c → CanJoin lower higher t k a b c
can_join_same lower higher s t k agree rising a b c h =
    let i<j = h.i<j in
    let j<k = h.j<k in
    let k_below = h.k_below in
    let free = unnamed_same (node s) (node t) k agree rising in
    let same = tree_same (node s) (node t) k agree rising in
    record {
      i<j = h.i<j;
      j<k = h.j<k;
      k_below = h.k_below;
      i_live = sym (free a) ∙ h.i_live;
      j_live = sym (free b) ∙ h.j_live;
      k_live = sym (free c) ∙ h.k_live;
      hinges = subst₃ (Hinges lower higher) (same a (omega arith)) (same b (omega arith)) (same c (omega arith)) h.hinges;
    }

-- two threes neither of which comes before the other
upto_same : (a b c x y z : ℕ) → Upto a b c x y z → Upto x y z a b c → (a ≡ x) × (b ≡ y) × (c ≡ z)
upto_same a b c x y z p q = omega arith

module _ (lower higher : ℕ → ℕ) (m : ℕ) where
  module _ (s t : List Node) (p : Merged lower higher m s) (q : Merged lower higher m t) where
    -- the next entry
    same_next : (e : ℕ) → e < length s → e < length t → ((j : ℕ) → j < e → node s j ≡ node t j) → node s e ≡ node t e
    same_next e l r agree =
        elim (cases_lt e m) [
          | inl h ↦ p.underway.first e h ∙ sym (q.underway.first e h)
          | inr h ↦
              (let x = p.underway.later e h l in
              let y = q.underway.later e h r in
              let to = can_join_same lower higher s t e agree
              (λ j a b c k. underway_rising lower higher m s p.underway j a b c (omega arith)) x.0 x.1 x.2 x.4.can in
              let from = can_join_same lower higher t s e (λ j k. sym (agree j k))
              (λ j a b c k. underway_rising lower higher m t q.underway j a b c (omega arith)) y.0 y.1 y.2 y.4.can in
              x.3
              ∙ joins_path (upto_same x.0 x.1 x.2 y.0 y.1 y.2
              (x.4.lowest y.0 y.1 y.2 from) (y.4.lowest x.0 x.1 x.2 to))
              ∙ sym y.3)
        ]

    same_upto : (k : ℕ) → k ≤ length s → k ≤ length t → (j : ℕ) → j < k → node s j ≡ node t j
    same_upto zero l r j h = absurd (omega arith)
    same_upto (suc k) l r j h =
        let ih = same_upto k (omega arith) (omega arith) in
        elim (cases_lt j k) [
          | inl g ↦ ih j g
          | inr g ↦ same_next j (omega arith) (omega arith) (λ i b. ih i (omega arith))
        ]

    -- the rule does not stop short
    no_longer : length s < length t → ⊥
    no_longer l =
        let k : ℕ = length s in
        let y = q.underway.later k p.underway.enough l in
        p.done y.0 y.1 y.2
        (can_join_same lower higher t s k (λ j h. sym (same_upto k (omega arith) (omega arith) j h))
        (λ j a b c h. underway_rising lower higher m t q.underway j a b c (omega arith))
        y.0 y.1 y.2 y.4.can)

  -- two merged tables are equal
  pub merged_unique : (s t : List Node) → Merged lower higher m s → Merged lower higher m t → s ≡ t
  merged_unique s t p q =
      elim (cases_order (length s) (length t)) [
        | inl e ↦ ext_get_or (names 0) s t e (λ j l. same_upto s t p q (length s) (omega arith) (omega arith) j l)
        | inr r ↦ elim r [ inl l ↦ absurd (no_longer s t p q l) | inr l ↦ absurd (no_longer t s q p l) ]
      ]
