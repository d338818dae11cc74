-- Entries that a function gives, each step behind what it names: their trees, and what the unnamed ones name together.
use Rattle.std.proofs.Common.{◌≡◌, ℕ, zero, suc, ◌+◌, ◌*◌, ◌<◌, ◌≤◌, eqb, ◌≢◌, ◌⊎◌, sym, refl, ap, ◌∙◌, subst, ap₂, inl, inr, add-mul, one-mul, zero-mul, arith}
use Rattle.std.proofs.lemmas.Bool.{cases_eq, cases_lt, eq-eqb, ne_eqb}
use Rattle.decomposition.specs.Sets.{bit, sum}
use Rattle.decomposition.specs.Trees.{Tree, leaf, step, occurs}
use Rattle.decomposition.specs.Tables.{Node, names, joins, mentions, marks, grow, build, tree, named_by, unnamed, leaves_by}
use Rattle.decomposition.proofs.Sums.{bit_at_most_one, sum_same, sum_none, sum_add, sum_scale, sum_swap, sum_at}

-- what w gives of the three entries that an entry names, together
abbrev pub parts : Node → (ℕ → ℕ) → ℕ
parts (names d) w = 0
parts (joins a b c) w = w a + w b + w c

-- a leaf or a step, with the equation
pub cases_node : (x : Node) → ((d : ℕ) × (x ≡ names d)) ⊎ ((a : ℕ) × (b : ℕ) × (c : ℕ) × (x ≡ joins a b c))
cases_node (names d) = inl (d, refl)
cases_node (joins a b c) = inr (a, b, c, refl)

-- a leaf is no step
pub leaf_or_step : (x : Node) (d a b c : ℕ) → x ≡ names d → x ≡ joins a b c → ⊥
leaf_or_step x d a b c p q = let z : ◌≡◌ {A = ℕ} 0 1 = cc in omega arith

-- equal names make equal entries
pub joins_path : {a b c x y z : ℕ} → (a ≡ x) × (b ≡ y) × (c ≡ z) → joins a b c ≡ joins x y z
joins_path h = cc

-- equal entries name the same
pub joins_same : {a b c x y z : ℕ} → joins a b c ≡ joins x y z → (a ≡ x) × (b ≡ y) × (c ≡ z)
joins_same h = (cc, cc, cc)

pub names_same : {d e : ℕ} → names d ≡ names e → d ≡ e
names_same h = cc

-- what is named is one of the three
pub mentions_some : (x : Node) (e : ℕ) → 0 < mentions x e → (a : ℕ) × (b : ℕ) × (c : ℕ) × (x ≡ joins a b c) × ((e ≡ a) ⊎ ((e ≡ b) ⊎ (e ≡ c)))
mentions_some (names d) e h = absurd (omega arith)
mentions_some (joins a b c) e h = (
  a,
  b,
  c,
  refl,
  elim (cases_eq e a) [
    | inl p ↦ inl p
    | inr p ↦
        elim (cases_eq e b) [
          | inl q ↦ inr (inl q)
          | inr q ↦ inr (inr (last p q))
        ]
  ],
)
  where
    last : e ≢ a → e ≢ b → e ≡ c
    last p q = elim (cases_eq e c) [ inl r ↦ r | inr r ↦ absurd (omega (arith, ap bit (ne_eqb e a p), ap bit (ne_eqb e b q), ap bit (ne_eqb e c r))) ]

-- three rising names are named once each
pub mentions_le : (a b c e : ℕ) → a < b → b < c → mentions (joins a b c) e ≤ 1
mentions_le a b c e h l =
    elim (cases_eq e a) [
      | inl p ↦ omega (arith, ap bit (eq-eqb e a p), ap bit (ne_eqb e b (omega arith)), ap bit (ne_eqb e c (omega arith)))
      | inr p ↦
          elim (cases_eq e b) [
            | inl q ↦ omega (arith, ap bit (ne_eqb e a p), ap bit (eq-eqb e b q), ap bit (ne_eqb e c (omega arith)))
            | inr q ↦ omega (arith, ap bit (ne_eqb e a p), ap bit (ne_eqb e b q), bit_at_most_one (eqb e c))
          ]
    ]

-- a sum over what an entry names
mentions_sum : (k : ℕ) (x : Node) (w : ℕ → ℕ) → ((a b c : ℕ) → x ≡ joins a b c → (a < k) × (b < k) × (c < k)) → sum k (λ e. mentions x e * w e) ≡ parts x w
mentions_sum k (names d) w h = sum_none k (λ e. 0 * w e) (λ e l. zero-mul (w e))
mentions_sum k (joins a b c) w h =
    let r = h a b c refl in
    sum_same k (λ e. mentions (joins a b c) e * w e) (λ e. bit (eqb e a) * w e + bit (eqb e b) * w e + bit (eqb e c) * w e)
    (λ e l.
    add-mul (bit (eqb e a) + bit (eqb e b)) (bit (eqb e c)) (w e)
    ∙ ap (λ z. z + bit (eqb e c) * w e) (add-mul (bit (eqb e a)) (bit (eqb e b)) (w e)))
    ∙ sum_add k (λ e. bit (eqb e a) * w e + bit (eqb e b) * w e) (λ e. bit (eqb e c) * w e)
    ∙ ap₂ ◌+◌ (sum_add k (λ e. bit (eqb e a) * w e) (λ e. bit (eqb e b) * w e) ∙ ap₂ ◌+◌ (sum_at k a w r.0) (sum_at k b w r.1)) (sum_at k c w r.2)

-- an entry that is named at most once is named once or not
free_or_named : (x : ℕ) (w : ℕ) → x ≤ 1 → bit (eqb x 0) * w + x * w ≡ w
free_or_named x w h =
    elim (cases_eq x 0) [
      | inl p ↦ omega (arith, ap (λ b. bit b * w) (eq-eqb x 0 p), one-mul w, ap (λ z. z * w) p, zero-mul w)
      | inr p ↦ (let q : x ≡ 1 = omega arith in omega (arith, ap (λ b. bit b * w) (ne_eqb x 0 p), one-mul w, ap (λ z. z * w) q, zero-mul w))
    ]

-- equal parts make equal steps
pub step_path : {t t' u u' v v' : Tree} → t ≡ t' → u ≡ u' → v ≡ v' → step t u v ≡ step t' u' v'
step_path p q r = cc

module _ (f : ℕ → Node) (len : ℕ) (rising : (e a b c : ℕ) → e < len → f e ≡ joins a b c → (a < b) × (b < c) × (c < e)) where
  -- the sum of w over the unnamed entries and over all that is named is the sum over all entries
  pub balance : (w : ℕ → ℕ) → ((e : ℕ) → e < len → named_by f len e ≤ 1)
      → sum len (λ e. bit (unnamed f len e) * w e) + sum len (λ j. parts (f j) w) ≡ sum len w
  balance w once =
      let A : ℕ → ℕ = (λ e. bit (unnamed f len e) * w e) in
      let B : ℕ → ℕ = (λ e. named_by f len e * w e) in
      let swapped : sum len B ≡ sum len (λ j. parts (f j) w) =
      sum_same len B (λ e. sum len (λ j. mentions (f j) e * w e)) (λ e l. sym (sum_scale len (w e) (λ j. mentions (f j) e)))
      ∙ sum_swap len len (λ e j. mentions (f j) e * w e)
      ∙ sum_same len (λ j. sum len (λ e. mentions (f j) e * w e)) (λ j. parts (f j) w)
      (λ j l. mentions_sum len (f j) w (λ a b c q. let r = rising j a b c l q in (omega arith, omega arith, omega arith)))
      in
      ap (λ z. sum len A + z) (sym swapped)
      ∙ sym (sum_add len A B)
      ∙ sum_same len (λ e. A e + B e) w (λ e l. free_or_named (named_by f len e) (w e) (once e l))

  -- the tree of an entry is the same at every depth that suffices
  build_fuel : (k l e : ℕ) → e < k → e < l → e < len → build f k e ≡ build f l e
  build_fuel zero l e h g n = absurd (omega arith)
  build_fuel (suc k) zero e h g n = absurd (omega arith)
  build_fuel (suc k) (suc l) e h g n = grown (f e) refl (λ a r. build_fuel k l a (omega arith) (omega arith) (omega arith))
    where
      grown : (x : Node) → f e ≡ x → ((a : ℕ) → a < e → build f k a ≡ build f l a) → grow x (build f k) ≡ grow x (build f l)
      grown (names d) q ih = refl
      grown (joins a b c) q ih =
          let r = rising e a b c n q in
          step_path (ih a (omega arith)) (ih b (omega arith)) (ih c (omega arith))

  -- the tree of a leaf, and of a step
  pub tree_leaf : (e d : ℕ) → f e ≡ names d → tree f e ≡ leaf d
  tree_leaf e d q = ap (λ x. grow x (build f e)) q

  pub tree_step : (e a b c : ℕ) → e < len → f e ≡ joins a b c → tree f e ≡ step (tree f a) (tree f b) (tree f c)
  tree_step e a b c l q =
      let r = rising e a b c l q in
      ap (λ x. grow x (build f e)) q
      ∙ step_path
      (build_fuel e (suc a) a (omega arith) (omega arith) (omega arith))
      (build_fuel e (suc b) b (omega arith) (omega arith) (omega arith))
      (build_fuel e (suc c) c (omega arith) (omega arith) (omega arith))

  -- an entry names only what is below it
  not_ahead : (j e : ℕ) → j < len → j ≤ e → mentions (f j) e ≡ 0
  not_ahead j e l h =
      elim (cases_lt 0 (mentions (f j) e)) [
        | inl p ↦ (let r = mentions_some (f j) e p in let s = rising j r.0 r.1 r.2 l r.3 in absurd (one_of r.0 r.1 r.2 s r.4))
        | inr p ↦ omega arith
      ]
    where
      one_of : (a b c : ℕ) → (a < b) × (b < c) × (c < j) → (e ≡ a) ⊎ ((e ≡ b) ⊎ (e ≡ c)) → ⊥
      one_of a b c s r = omega arith

  -- who names an entry stands behind it
  pub names_ahead : (j e : ℕ) → j < len → 0 < mentions (f j) e → e < j
  names_ahead j e l h = elim (cases_lt e j) [ inl p ↦ p | inr p ↦ absurd (omega (arith, not_ahead j e l p)) ]

  -- so nothing names the last entry
  pub last_free : (k e : ℕ) → k ≤ len → k ≤ e + 1 → named_by f k e ≡ 0
  last_free k e l h = sum_none k (λ j. mentions (f j) e) (λ j g. not_ahead j e (omega arith) (omega arith))

  -- what holds of leaves and goes over to steps holds of every entry's tree
  pub every : (Q : Tree → Type 0) → ((e d : ℕ) → e < len → f e ≡ names d → Q (leaf d))
      → ((e a b c : ℕ) → e < len → f e ≡ joins a b c → Q (tree f a) → Q (tree f b) → Q (tree f c) → Q (step (tree f a) (tree f b) (tree f c)))
      → (e : ℕ) → e < len → Q (tree f e)
  every Q one three e l = upto (suc e) e (omega arith) l
    where
      at : (e : ℕ) → e < len → ((a : ℕ) → a < e → a < len → Q (tree f a)) → Q (tree f e)
      at e l ih =
          elim (cases_node (f e)) [
            | inl p ↦ subst Q (sym (tree_leaf e p.0 p.1)) (one e p.0 l p.1)
            | inr p ↦
                (let r = rising e p.0 p.1 p.2 l p.3 in
                subst Q (sym (tree_step e p.0 p.1 p.2 l p.3))
                (three e p.0 p.1 p.2 l p.3
                (ih p.0 (omega arith) (omega arith))
                (ih p.1 (omega arith) (omega arith))
                (ih p.2 (omega arith) (omega arith))))
          ]

      upto : (k e : ℕ) → e < k → e < len → Q (tree f e)
      upto zero e h l = absurd (omega arith)
      upto (suc k) e h l = at e l (λ a g r. upto k a (omega arith) r)

  -- the unnamed entries name together what the leaves name
  pub conserved : ((e : ℕ) → e < len → named_by f len e ≤ 1) → (d : ℕ) → sum len (λ e. bit (unnamed f len e) * occurs d (tree f e)) ≡ leaves_by f len d
  conserved once d =
      let w : ℕ → ℕ = (λ e. occurs d (tree f e)) in
      let p : ℕ → ℕ = (λ j. parts (f j) w) in
      let s = sum_add len p (λ j. marks (f j) d) in
      let t = sum_same len (λ j. p j + marks (f j) d) w (λ j l. here j l) in
      omega (arith, balance w once, s, t)
    where
      here : (j : ℕ) → j < len → parts (f j) (λ e. occurs d (tree f e)) + marks (f j) d ≡ occurs d (tree f j)
      here j l =
          elim (cases_node (f j)) [
            | inl p ↦ omega (arith, ap (λ x. parts x (λ e. occurs d (tree f e)) + marks x d) p.1, ap (occurs d) (tree_leaf j p.0 p.1))
            | inr p ↦
                omega (
                  arith,
                  ap (λ x. parts x (λ e. occurs d (tree f e)) + marks x d) p.3,
                  ap (occurs d) (tree_step j p.0 p.1 p.2 l p.3),
                )
          ]

-- leaves that all name edges below m name no other
pub leaves_none : (f : ℕ → Node) (len m d : ℕ) → ((e d : ℕ) → e < len → f e ≡ names d → d < m) → m ≤ d → leaves_by f len d ≡ 0
leaves_none f len m d listed l = sum_none len (λ j. marks (f j) d) (λ j h. none (f j) (λ e q. listed j e h q))
  where
    none : (x : Node) → ((e : ℕ) → x ≡ names e → e < m) → marks x d ≡ 0
    none (names e) h = ap bit (ne_eqb d e (λ q. omega (arith, h e refl)))
    none (joins a b c) h = refl
