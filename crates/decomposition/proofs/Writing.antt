-- Every tree decomposition of a list's graph is written down by an accepted table: its nodes in order, each behind what is below it.
use Rattle.std.proofs.Common.{◌≡◌, ℕ, zero, suc, ◌+◌, ◌<◌, ◌≤◌, eqb, ◌⊎◌, List, [], ◌∷◌, ◌++◌, length, sym, refl, ap, ◌∙◌, subst, inl, inr, arith}
use Rattle.std.proofs.lemmas.Bool.{cases_lt, cases_order, eq-eqb, ne_eqb}
use Rattle.std.proofs.lemmas.List.{get_or_append_left, get_or_push, length_push}
use Rattle.decomposition.specs.Sets.{bit}
use Rattle.decomposition.specs.Trees.{Tree, leaf, step, occurs}
use Rattle.decomposition.specs.Lists.{NamesBelow, Plan}
use Rattle.decomposition.specs.Tables.{Node, names, joins, mentions, grow, build, named_by, node, last, root, InOrder, StandsFor}
use Rattle.decomposition.specs.Graphs.{graph_of}
use Rattle.decomposition.specs.Laws.{WrittenLaw}
use Rattle.decomposition.proofs.Trees.{leaf_names}
use Rattle.decomposition.proofs.Entries.{leaf_or_step, joins_path, joins_same, names_same, step_path}
use Rattle.decomposition.proofs.Plans.{name_below}
use Rattle.decomposition.proofs.InOrder.{stands_for}
use Rattle.decomposition.proofs.Accepted.{plan_accepted}
use Rattle.decomposition.proofs.Graphs.{rules, listed_only}

-- how many nodes a tree has below its top
abbrev inner : Tree → ℕ
inner (leaf d) = 0
inner (step t u v) = inner t + inner u + inner v + 3

-- the entries of f from k on are the nodes of a tree, its top the last of them
abbrev Writes : (ℕ → Node) → ℕ → Tree → Type 0
Writes f k (leaf d) = f k ≡ names d
Writes f k (step t u v) =
    let a = k + inner t in
    let b = suc a + inner u in
    let c = suc b + inner v in
    Writes f k t × Writes f (suc a) u × Writes f (suc b) v × (f (suc c) ≡ joins a b c)

-- entries that are the same write the same tree
writes_same : (f g : ℕ → Node) (k : ℕ) (t : Tree) → ((j : ℕ) → j ≤ k + inner t → f j ≡ g j) → Writes f k t → Writes g k t
writes_same f g k (leaf d) h w = sym (h k (omega arith)) ∙ w
writes_same f g k (step t u v) h w = (
  writes_same f g k t (λ j l. h j (omega arith)) w.0,
  writes_same f g (suc (k + inner t)) u (λ j l. h j (omega arith)) w.1,
  writes_same f g (suc (suc (k + inner t) + inner u)) v (λ j l. h j (omega arith)) w.2,
  sym (h (suc (suc (suc (k + inner t) + inner u) + inner v)) (omega arith)) ∙ w.3,
)

-- the tree of the last of these entries
writes_tree : (f : ℕ → Node) (fuel k : ℕ) (t : Tree) → k + inner t < fuel → Writes f k t → build f fuel (k + inner t) ≡ t
writes_tree f zero k t l w = absurd (omega arith)
writes_tree f (suc fuel) k (leaf d) l w = ap (λ x. grow x (build f fuel)) (ap f (omega arith) ∙ w)
writes_tree f (suc fuel) k (step t u v) l w =
    ap (λ x. grow x (build f fuel)) (ap f (omega arith) ∙ w.3)
    ∙ step_path
    (writes_tree f fuel k t (omega arith) w.0)
    (writes_tree f fuel (suc (k + inner t)) u (omega arith) w.1)
    (writes_tree f fuel (suc (suc (k + inner t) + inner u)) v (omega arith) w.2)

-- where an entry of a step stands
data Part (k x y z e : ℕ) : Type 0 where
  in_first : k ≤ e → e ≤ k + x → Part k x y z e
  in_second : suc (k + x) ≤ e → e ≤ suc (k + x) + y → Part k x y z e
  in_third : suc (suc (k + x) + y) ≤ e → e ≤ suc (suc (k + x) + y) + z → Part k x y z e
  on_top : suc (suc (suc (k + x) + y) + z) ≡ e → Part k x y z e

cases_part : (k x y z e : ℕ) → k ≤ e → e ≤ k + (x + y + z + 3) → Part k x y z e
cases_part k x y z e l h =
    elim (cases_lt (k + x) e) [
      | inr p ↦ in_first l p
      | inl p ↦ elim (cases_lt (suc (k + x) + y) e) [
        | inr q ↦ in_second p q
        | inl q ↦ elim (cases_lt (suc (suc (k + x) + y) + z) e) [ inr r ↦ in_third q r | inl r ↦ on_top (omega arith) ]
      ]
    ]

-- y is one more than x where e is from k to below l, and else the same
abbrev OneMore : (x y k l e : ℕ) → Type 0
OneMore x y k l e = ((k ≤ e) × (e < l) × (y ≡ x + 1)) ⊎ (((e < k) ⊎ (l ≤ e)) × (y ≡ x))

none_more : (x y k l e : ℕ) → l ≤ k → y ≡ x → OneMore x y k l e
none_more x y k l e h q = elim (cases_lt e k) [ inl p ↦ inr (inl p, q) | inr p ↦ inr (inr (omega arith), q) ]

cases_bit : (e a : ℕ) → ((e ≡ a) × (bit (eqb e a) ≡ 1)) ⊎ (((e < a) ⊎ (a < e)) × (bit (eqb e a) ≡ 0))
cases_bit e a =
    elim (cases_order e a) [
      | inl p ↦ inl (p, ap bit (eq-eqb e a p))
      | inr q ↦ inr (q, elim q [ inl l ↦ ap bit (ne_eqb e a (omega arith)) | inr l ↦ ap bit (ne_eqb e a (omega arith)) ])
    ]

-- the counts of three parts, and the three tops of these
more_step : (x₀ x₁ x₂ x₃ y k a b c e : ℕ) → k ≤ a → a < b → b < c → OneMore x₀ x₁ k a e → OneMore x₁ x₂ (suc a) b e → OneMore x₂ x₃ (suc b) c e
    → y ≡ x₃ + mentions (joins a b c) e → OneMore x₀ y k (suc c) e
more_step x₀ x₁ x₂ x₃ y k a b c e ka ab bc p q r h =
    let i = cases_bit e a in
    let j = cases_bit e b in
    let l = cases_bit e c in
    elim (cases_lt e k) [
      | inl o ↦ inr (inl o, omega arith)
      | inr o ↦ elim (cases_lt e (suc c)) [ inl s ↦ inl (o, s, omega arith) | inr s ↦ inr (inr s, omega arith) ]
    ]

module _ (f : ℕ → Node) where
  -- a leaf among these entries is a leaf of the tree
  writes_listed : (k : ℕ) (t : Tree) → Writes f k t → (e d : ℕ) → k ≤ e → e ≤ k + inner t → f e ≡ names d → 0 < occurs d t
  writes_listed k (leaf d') w e d l h q =
      let p : e ≡ k = omega arith in
      let s : d ≡ d' = names_same (sym q ∙ ap f p ∙ w) in
      subst (λ x. 0 < occurs x (leaf d')) (sym s) (leaf_names d')
  writes_listed k (step t u v) w e d l h q =
      elim (cases_part k (inner t) (inner u) (inner v) e l h) [
        | in_first a b ↦ omega (arith, writes_listed k t w.0 e d a b q)
        | in_second a b ↦ omega (arith, writes_listed (suc (k + inner t)) u w.1 e d a b q)
        | in_third a b ↦ omega (arith, writes_listed (suc (suc (k + inner t) + inner u)) v w.2 e d a b q)
        | on_top p ↦ absurd (leaf_or_step (f e) d _ _ _ q (ap f (sym p) ∙ w.3))
      ]

  -- a step among them names three entries below itself
  writes_rising : (k : ℕ) (t : Tree) → Writes f k t → (e a b c : ℕ) → k ≤ e → e ≤ k + inner t → f e ≡ joins a b c → (a < b) × (b < c) × (c < e)
  writes_rising k (leaf d) w e a b c l h q =
      let p : e ≡ k = omega arith in
      absurd (leaf_or_step (f e) d a b c (ap f p ∙ w) q)
  writes_rising k (step t u v) w e a b c l h q =
      elim (cases_part k (inner t) (inner u) (inner v) e l h) [
        | in_first x y ↦ writes_rising k t w.0 e a b c x y q
        | in_second x y ↦ writes_rising (suc (k + inner t)) u w.1 e a b c x y q
        | in_third x y ↦ writes_rising (suc (suc (k + inner t) + inner u)) v w.2 e a b c x y q
        | on_top p ↦ (let s = joins_same (sym q ∙ ap f (sym p) ∙ w.3) in (omega arith, omega arith, omega arith))
      ]

  -- they name each of them but the last once
  writes_named : (k : ℕ) (t : Tree) → Writes f k t → (e : ℕ) → OneMore (named_by f k e) (named_by f (suc (k + inner t)) e) k (k + inner t) e
  writes_named k (leaf d) w e =
      let p : k + 0 ≡ k = omega arith in
      let q : mentions (f k) e ≡ 0 = ap (λ x. mentions x e) w in
      let r = ap (λ j. named_by f (suc j) e) p in
      none_more _ _ k (k + 0) e (omega arith) (omega arith)
  writes_named k (step t u v) w e =
      let a : ℕ = k + inner t in
      let b : ℕ = suc a + inner u in
      let c : ℕ = suc b + inner v in
      let p : k + (inner t + inner u + inner v + 3) ≡ suc c = omega arith in
      subst (λ l. OneMore (named_by f k e) (named_by f (suc l) e) k l e) (sym p)
      (more_step (named_by f k e) (named_by f (suc a) e) (named_by f (suc b) e) (named_by f (suc c) e) (named_by f (suc (suc c)) e) k a b c e
      (omega arith) (omega arith) (omega arith)
      (writes_named k t w.0 e) (writes_named (suc a) u w.1 e) (writes_named (suc b) v w.2 e)
      (ap (λ x. named_by f (suc c) e + mentions x e) w.3))

-- the nodes of a tree behind a table
abbrev write : List Node → Tree → List Node
write table (leaf d) = table ++ names d ∷ []
write table (step t u v) =
    let x = write table t in
    let y = write x u in
    let z = write y v in
    z ++ joins (last x) (last y) (last z) ∷ []

write_length : (table : List Node) (t : Tree) → length (write table t) ≡ length table + suc (inner t)
write_length table (leaf d) = length_push table (names d)
write_length table (step t u v) =
    let x = write table t in
    let y = write x u in
    let z = write y v in
    omega (arith, write_length table t, write_length x u, write_length y v, length_push z (joins (last x) (last y) (last z)))

-- the table stays
write_keeps : (table : List Node) (t : Tree) (j : ℕ) → j < length table → node table j ≡ node (write table t) j
write_keeps table (leaf d) j l = sym (get_or_append_left table (names d ∷ []) (names 0) j l)
write_keeps table (step t u v) j l =
    let x = write table t in
    let y = write x u in
    let z = write y v in
    let p = write_length table t in
    let q = write_length x u in
    let r = write_length y v in
    write_keeps table t j l
    ∙ write_keeps x u j (omega arith)
    ∙ write_keeps y v j (omega arith)
    ∙ sym (get_or_append_left z (joins (last x) (last y) (last z) ∷ []) (names 0) j (omega arith))

write_writes : (table : List Node) (t : Tree) → Writes (node (write table t)) (length table) t
write_writes table (leaf d) = get_or_push table (names d) (names 0) (length table) refl
write_writes table (step t u v) =
    let x = write table t in
    let y = write x u in
    let z = write y v in
    let s = joins (last x) (last y) (last z) in
    let p = write_length table t in
    let q = write_length x u in
    let r = write_length y v in
    let f = node (z ++ s ∷ []) in
    let z_keeps : (j : ℕ) → j < length z → node z j ≡ f j = λ j l. sym (get_or_append_left z (s ∷ []) (names 0) j l) in
    let in_x = writes_same (node x) f (length table) t
    (λ j l. write_keeps x u j (omega arith) ∙ write_keeps y v j (omega arith) ∙ z_keeps j (omega arith)) (write_writes table t) in
    let in_y = writes_same (node y) f (length x) u (λ j l. write_keeps y v j (omega arith) ∙ z_keeps j (omega arith)) (write_writes x u) in
    let in_z = writes_same (node z) f (length y) v (λ j l. z_keeps j (omega arith)) (write_writes y v) in
    let top = get_or_push z s (names 0) (suc (suc (suc (length table + inner t) + inner u) + inner v)) (omega arith) in (
      in_x,
      subst (λ k. Writes f k u) (omega arith) in_y,
      subst (λ k. Writes f k v) (omega arith) in_z,
      top ∙ joins_path (omega arith, omega arith, omega arith),
    )

-- the table of a tree

written_length : (t : Tree) → length (write [] t) ≡ suc (inner t)
written_length t = omega (arith, write_length [] t)

written_root : (t : Tree) → root (write [] t) ≡ t
written_root t =
    let f = node (write [] t) in
    subst (λ j. build f (suc j) j ≡ t) (omega (arith, written_length t)) (writes_tree f (suc (0 + inner t)) 0 t (omega arith) (write_writes [] t))

written_order : (m : ℕ) (t : Tree) → NamesBelow m t → InOrder m (write [] t)
written_order m t only =
    let f = node (write [] t) in
    let w = write_writes [] t in
    let size = written_length t in
    record {
      some = omega arith;
      listed = λ e d l q.
          name_below m t only d (writes_listed f 0 t w e d (omega arith) (omega arith) q);
      rising = λ e a b c l q. writes_rising f 0 t w e a b c (omega arith) (omega arith) q;
      named_once = λ e l.
          let one = writes_named f 0 t w e in
          let all : length (write [] t) ≡ suc (0 + inner t) = omega arith in
          ap (λ k. named_by f k e) all ∙ omega arith;
    }

pub written : WrittenLaw
written lower higher limit n m proper room beyond t h =
    let only = listed_only lower higher m beyond t (graph_of lower higher n m) h in
    let order = written_order m t only in
    let plan = (rules lower higher n m proper t only).0 h in
    let top : last (write [] t) < length (write [] t) = omega (arith, order.some) in (
      write [] t,
      record { in_order = order; stands_for = subst (λ s. StandsFor (write [] t) s (last (write [] t))) (written_root t) (stands_for m (write [] t) order (last (write [] t)) top) },
      plan_accepted lower higher limit n m (write [] t) room order (subst (Plan lower higher n m) (sym (written_root t)) plan),
    )
