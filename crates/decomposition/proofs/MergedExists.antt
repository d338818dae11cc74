-- The merging rule, one entry at a time: where it starts, what one more entry keeps, and that it comes to an end.
use Rattle.std.proofs.Common.{◌≡◌, ℕ, zero, suc, ◌+◌, ◌*◌, ◌<◌, ◌≤◌, List, [], ◌∷◌, ◌++◌, length, Some, None, Option, sym, refl, ap, ◌∙◌, subst, inl, inr, arith}
use Rattle.std.proofs.lemmas.Bool.{cases_eq, cases_lt}
use Rattle.std.proofs.lemmas.List.{get_or_append_left, get_or_push, length_push}
use Rattle.decomposition.specs.Tables.{Node, names, joins, node}
use Rattle.decomposition.specs.Merging.{Lowest, Underway, Merged}
use Rattle.decomposition.specs.Laws.{MergingRuleLaw}
use Rattle.decomposition.proofs.Search.{search, Finds, finds}
use Rattle.decomposition.proofs.Underway.{underway_rising, underway_short, underway_bounded}
use Rattle.decomposition.proofs.MergedOnce.{can_join_same, merged_unique}

-- what is lowest stays so where the entries below k stay
lowest_same : (lower higher : ℕ → ℕ) (s t : List Node) (k : ℕ) → ((j : ℕ) → j < k → node s j ≡ node t j)
    → ((e a b c : ℕ) → e < k → node s e ≡ joins a b c → (a < b) × (b < c) × (c < e)) → (a b c : ℕ) → Lowest lower higher s k a b c
    → Lowest lower higher t k a b c
lowest_same lower higher s t k agree rising a b c h =
    record {
      can = can_join_same lower higher s t k agree rising a b c h.can;
      lowest = λ x y z g.
          h.lowest x y z
          (can_join_same lower higher t s k (λ j l. sym (agree j l)) (λ e a b c l q. rising e a b c l (agree e l ∙ q)) x y z g);
    }

module _ (lower higher : ℕ → ℕ) (m : ℕ) where
  -- the rule starts with the leaves
  pub underway_start : (table : List Node) → length table ≡ m → ((e : ℕ) → e < m → node table e ≡ names e) → Underway lower higher m table
  underway_start table h first = record { enough = omega arith; first = first; later = λ e l r. absurd (omega arith) }

  -- the rule's next entry
  pub underway_more : (table : List Node) (a b c : ℕ) → Underway lower higher m table → Lowest lower higher table (length table) a b c
      → Underway lower higher m (table ++ joins a b c ∷ [])
  underway_more table a b c u h =
      let size = length_push table (joins a b c) in
      record {
        enough = omega (arith, u.enough);
        first = λ e l. sym (old e (omega (arith, u.enough))) ∙ u.first e l;
        later = λ e l r. at e l (omega arith);
      }
    where
      old : (j : ℕ) → j < length table → node table j ≡ node (table ++ joins a b c ∷ []) j
      old j l = sym (get_or_append_left table (joins a b c ∷ []) (names 0) j l)

      at : (e : ℕ) → m ≤ e → e ≤ length table
          → (x : ℕ) × (y : ℕ) × (z : ℕ) × (node (table ++ joins a b c ∷ []) e ≡ joins x y z) × Lowest lower higher (table ++ joins a b c ∷ []) e x y z
      at e l r =
          elim (cases_lt e (length table)) [
            | inl g ↦
                (let p = u.later e l g in (
                  p.0,
                  p.1,
                  p.2,
                  sym (old e g) ∙ p.3,
                  lowest_same lower higher table (table ++ joins a b c ∷ []) e (λ j k. old j (omega arith))
                      (λ j x y z k. underway_rising lower higher m table u j x y z (omega arith)) p.0 p.1 p.2 p.4,
                ))
            | inr g ↦
                (let e_is : length table ≡ e = omega arith in
                subst (λ e. (x : ℕ) × (y : ℕ) × (z : ℕ) × (node (table ++ joins a b c ∷ []) e ≡ joins x y z)
                × Lowest lower higher (table ++ joins a b c ∷ []) e x y z) e_is (
                  a,
                  b,
                  c,
                  get_or_push table (joins a b c) (names 0) (length table) refl,
                  lowest_same lower higher table (table ++ joins a b c ∷ []) (length table) (λ j k. old j k)
                      (λ j x y z k. underway_rising lower higher m table u j x y z k) a b c h,
                ))
          ]

-- the leaves of k edges in order
abbrev start : ℕ → List Node
start zero = []
start (suc k) = start k ++ names k ∷ []

start_length : (k : ℕ) → length (start k) ≡ k
start_length zero = refl
start_length (suc k) = omega (arith, length_push (start k) (names k), start_length k)

start_at : (k e : ℕ) → e < k → node (start k) e ≡ names e
start_at zero e l = absurd (omega arith)
start_at (suc k) e l =
    elim (cases_eq e k) [
      | inl p ↦ get_or_push (start k) (names k) (names 0) e (start_length k ∙ sym p) ∙ ap names (sym p)
      | inr p ↦ get_or_append_left (start k) (names k ∷ []) (names 0) e (omega (arith, start_length k)) ∙ start_at k e (omega arith)
    ]

-- the rule, worked

-- at most so many steps more, each of the lowest three
abbrev joined : (lower higher : ℕ → ℕ) (n fuel : ℕ) → List Node → List Node
joined lower higher n zero table = table
joined lower higher n (suc fuel) table =
    elim (search lower higher n table (length table)) [
      | None ↦ table
      | Some t ↦ joined lower higher n fuel (table ++ joins t.0 t.1 t.2 ∷ [])
    ]

-- what the rule makes of m edges whose ends are below n
abbrev pub merged_table : (lower higher : ℕ → ℕ) (n m : ℕ) → List Node
merged_table lower higher n m = joined lower higher n (m + m) (start m)

module _ (lower higher : ℕ → ℕ) (n m : ℕ) (ends : (d : ℕ) → d < m → (lower d < n) × (higher d < n)) where
  -- from a table underway the rule comes to an end
  joined_merged : (fuel : ℕ) (table : List Node) → 1 ≤ m → 3 * m < 2 * (length table + fuel) + 1 → Underway lower higher m table
      → Merged lower higher m (joined lower higher n fuel table)
  joined_merged zero table l h u = absurd (omega (arith, underway_short lower higher m table u (omega (arith, u.enough))))
  joined_merged (suc fuel) table l h u =
      next (search lower higher n table (length table)) (finds lower higher n table (length table) (underway_bounded lower higher m table u n ends))
      (λ t g w. joined_merged fuel t l (omega arith) w)
    where
      next : (o : Option (ℕ × ℕ × ℕ)) → Finds lower higher n table (length table) o
          → ((t : List Node) → length t ≡ length table + 1 → Underway lower higher m t → Merged lower higher m (joined lower higher n fuel t))
          → Merged lower higher m (elim o [ None ↦ table | Some t ↦ joined lower higher n fuel (table ++ joins t.0 t.1 t.2 ∷ []) ])
      next None done go = record { underway = u; done = done }
      next (Some t) lowest go =
          go (table ++ joins t.0 t.1 t.2 ∷ []) (length_push table (joins t.0 t.1 t.2))
          (underway_more lower higher m table t.0 t.1 t.2 u lowest)

-- that is the rule's table
pub table_merged : (lower higher : ℕ → ℕ) (n m : ℕ) → ((d : ℕ) → d < m → (lower d < n) × (higher d < n))
    → Merged lower higher m (merged_table lower higher n m)
table_merged lower higher n zero ends =
    record { underway = underway_start lower higher 0 [] refl (λ e l. absurd (omega arith)); done = λ x y z can. omega (arith, can.k_below) }
table_merged lower higher n (suc k) ends =
    let m = suc k in
    joined_merged lower higher n m ends (m + m) (start m) (omega arith) (omega (arith, start_length m))
    (underway_start lower higher m (start m) (start_length m) (start_at m))

-- the ends of finitely many edges have a bound
ends_bound : (lower higher : ℕ → ℕ) (m : ℕ) → (n : ℕ) × ((d : ℕ) → d < m → (lower d < n) × (higher d < n))
ends_bound lower higher zero = (0, λ d l. absurd (omega arith))
ends_bound lower higher (suc m) =
    let r = ends_bound lower higher m in (
      r.0 + suc (lower m) + suc (higher m),
      λ d l.
          elim (cases_eq d m) [
            | inl e ↦ (omega (arith, ap lower e), omega (arith, ap higher e))
            | inr e ↦ (let h = r.1 d (omega arith) in let x = h.0 in let y = h.1 in (omega arith, omega arith))
          ],
    )

pub merging : MergingRuleLaw
merging lower higher m =
    let bound = ends_bound lower higher m in
    ((merged_table lower higher bound.0 m, table_merged lower higher bound.0 m bound.1), merged_unique lower higher m)
