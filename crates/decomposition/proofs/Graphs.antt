-- The trees that decompose the graph of a list are those that keep the rules.
use Rattle.std.proofs.Common.{◌≡◌, ℕ, ◌<◌, ◌≤◌, Bool, true, ◌&&◌, ◌||◌, eqb, ◌≢◌, ◌⊎◌, sym, refl, ap, ◌∙◌, inl, inr, arith}
use Rattle.std.proofs.lemmas.Bool.{cases_lt, eqb-true, eq-eqb, ltb-true, lt-ltb, or_left, or_cases, and_from, and_parts}
use Rattle.decomposition.specs.Sets.{any}
use Rattle.decomposition.specs.Trees.{Tree, leaf, step, occurs, reach, Valid}
use Rattle.decomposition.specs.Lists.{NamesBelow, Proper, Plan}
use Rattle.decomposition.specs.Graphs.{Graph, SameGraph, pair, graph_of, Decomposes}
use Rattle.decomposition.specs.Laws.{RulesLaw}
use Rattle.decomposition.proofs.Sums.{bit_at_most_one, bool_ext, or_first, or_second, or_third, or_which, or_same, not_both, any_some, some_any}
use Rattle.decomposition.proofs.Trees.{some_summand, leaf_names, leaf_names_only, reach_lower, reach_higher, ends_differ}
use Rattle.decomposition.proofs.Plans.{name_below, plan_reach}
use Rattle.decomposition.proofs.Hinges.{only_shared, hinged_same}

-- what an edge joins
pub pair_self : (a b : ℕ) → pair a b a b ≡ true
pair_self a b = or_left (eqb a a && eqb b b) (eqb a b && eqb b a) (and_from (eqb a a) (eqb b b) (eq-eqb a a refl) (eq-eqb b b refl))

pair_cases : (a b x y : ℕ) → pair a b x y ≡ true → ((x ≡ a) × (y ≡ b)) ⊎ ((x ≡ b) × (y ≡ a))
pair_cases a b x y h =
    elim (or_cases (eqb x a && eqb y b) (eqb x b && eqb y a) h) [
      | inl k ↦ (let r = and_parts (eqb x a) (eqb y b) k in inl (eqb-true x a r.0, eqb-true y b r.1))
      | inr k ↦ (let r = and_parts (eqb x b) (eqb y a) k in inr (eqb-true x b r.0, eqb-true y a r.1))
    ]

-- a proper list has one edge at most between two vertices
pub proper_one : (lower higher : ℕ → ℕ) (n m : ℕ) → Proper lower higher n m → (x y d e : ℕ) → d < m → e < m → pair (lower d) (higher d) x y ≡ true
    → pair (lower e) (higher e) x y ≡ true → d ≡ e
proper_one lower higher n m proper x y d e l k p q =
    elim (pair_cases (lower d) (higher d) x y p) [
      | inl i ↦
          elim (pair_cases (lower e) (higher e) x y q) [
            | inl j ↦ proper.apart d e l k (sym i.0 ∙ j.0) (sym i.1 ∙ j.1)
            | inr j ↦ absurd (omega (arith, proper.rising d l, proper.rising e k, i.0, i.1, j.0, j.1))
          ]
      | inr i ↦
          elim (pair_cases (lower e) (higher e) x y q) [
            | inl j ↦ absurd (omega (arith, proper.rising d l, proper.rising e k, i.0, i.1, j.0, j.1))
            | inr j ↦ proper.apart d e l k (sym i.1 ∙ j.1) (sym i.0 ∙ j.0)
          ]
    ]

module _ (lower higher : ℕ → ℕ) where
  -- the edges that the leaves of a tree name
  abbrev between : Tree → ℕ → ℕ → Bool
  between (leaf d) = pair (lower d) (higher d)
  between (step t u v) = λ x y. between t x y || (between u x y || between v x y)

  -- the graph that the leaves of a tree make
  abbrev grown : Tree → Graph
  grown t = record { vertex = reach lower higher t; edge = between t }

  -- a tree joins what an edge joins that it names
  named_between : (t : Tree) (d x y : ℕ) → 0 < occurs d t → pair (lower d) (higher d) x y ≡ true → between t x y ≡ true
  named_between (leaf e) d x y h p = ap (λ k. pair (lower k) (higher k) x y) (sym (leaf_names_only d e h)) ∙ p
  named_between (step t u v) d x y h p =
      elim (some_summand (occurs d t) (occurs d u) (occurs d v) h) [
        | inl k ↦ or_first (between t x y) (between u x y) (between v x y) (named_between t d x y k p)
        | inr r ↦
            elim r [
              | inl k ↦ or_second (between t x y) (between u x y) (between v x y) (named_between u d x y k p)
              | inr k ↦ or_third (between t x y) (between u x y) (between v x y) (named_between v d x y k p)
            ]
      ]

  -- and nothing else
  between_named : (t : Tree) (x y : ℕ) → between t x y ≡ true → (d : ℕ) × (0 < occurs d t) × (pair (lower d) (higher d) x y ≡ true)
  between_named (leaf d) x y h = (d, leaf_names d, h)
  between_named (step t u v) x y h =
      elim (or_which (between t x y) (between u x y) (between v x y) h) [
        | inl k ↦ (let r = between_named t x y k in (r.0, omega (arith, r.1), r.2))
        | inr s ↦
            elim s [
              | inl k ↦ (let r = between_named u x y k in (r.0, omega (arith, r.1), r.2))
              | inr k ↦ (let r = between_named v x y k in (r.0, omega (arith, r.1), r.2))
            ]
      ]

  -- a graph that a tree decomposes is the one that its leaves make
  decomposed_same : (t : Tree) (G : Graph) → Decomposes lower higher t G → SameGraph G (grown t)
  decomposed_same (leaf d) G h = h.1
  decomposed_same (step t u v) G h =
      let p = decomposed_same t h.G1 h.part1 in
      let q = decomposed_same u h.G2 h.part2 in
      let r = decomposed_same v h.G3 h.part3 in
      record {
        vertices = λ x. h.ternary.vertices x ∙ or_same (p.vertices x) (q.vertices x) (r.vertices x);
        edges = λ x y. h.ternary.edges x y ∙ or_same (p.edges x y) (q.edges x y) (r.edges x y);
      }

  -- a tree that decomposes a graph is valid
  decomposed_valid : (t : Tree) (G : Graph) → Decomposes lower higher t G → Valid lower higher t
  decomposed_valid (leaf d) G h = h.0
  decomposed_valid (step t u v) G h =
      let p = decomposed_same t h.G1 h.part1 in
      let q = decomposed_same u h.G2 h.part2 in
      let r = decomposed_same v h.G3 h.part3 in (
        decomposed_valid t h.G1 h.part1,
        decomposed_valid u h.G2 h.part2,
        decomposed_valid v h.G3 h.part3,
        (h.a, h.b, h.c, hinged_same p.vertices q.vertices r.vertices h.ternary.shared),
      )

  -- a valid tree decomposes the graph that its leaves make
  valid_decomposes : (t : Tree) (G : Graph) → Valid lower higher t → SameGraph G (grown t) → Decomposes lower higher t G
  valid_decomposes (leaf d) G w s = (w, s)
  valid_decomposes (step t u v) G w s =
      record {
        G1 = grown t;
        G2 = grown u;
        G3 = grown v;
        a = w.3.0;
        b = w.3.1;
        c = w.3.2;
        ternary = record { vertices = s.vertices; edges = s.edges; shared = w.3.3 };
        part1 = valid_decomposes t (grown t) w.0 (record { vertices = λ x. refl; edges = λ x y. refl });
        part2 = valid_decomposes u (grown u) w.1 (record { vertices = λ x. refl; edges = λ x y. refl });
        part3 = valid_decomposes v (grown v) w.2 (record { vertices = λ x. refl; edges = λ x y. refl });
      }

  -- a valid tree names no edge twice: two parts that name it would share both of its ends
  valid_once_named : (t : Tree) → Valid lower higher t → (d : ℕ) → lower d ≢ higher d → occurs d t ≤ 1
  valid_once_named (leaf e) w d ne = bit_at_most_one (eqb d e)
  valid_once_named (step t u v) w d ne =
      let h = w.3.3 in
      let apart : (p q : Tree) (a : ℕ) → ((i : ℕ) → (reach lower higher p i && reach lower higher q i) ≡ eqb i a) → 0 < occurs d p → 0 < occurs d q → ⊥ =
      λ p q a s k l.
      let one = only_shared (reach lower higher p) (reach lower higher q) a s in
      ne (one (lower d) (reach_lower lower higher p d k) (reach_lower lower higher q d l)
      ∙ sym (one (higher d) (reach_higher lower higher p d k) (reach_higher lower higher q d l))) in
      let tu = not_both (occurs d t) (occurs d u) (apart t u w.3.0 h.ab) in
      let uv = not_both (occurs d u) (occurs d v) (apart u v w.3.1 h.bc) in
      let vt = not_both (occurs d v) (occurs d t) (apart v t w.3.2 h.ca) in
      omega (arith, valid_once_named t w.0 d ne, valid_once_named u w.1 d ne, valid_once_named v w.2 d ne)

  valid_once : (t : Tree) → Valid lower higher t → (d : ℕ) → occurs d t ≤ 1
  valid_once t w d =
      elim (cases_lt 0 (occurs d t)) [
        | inl k ↦ valid_once_named t w d (ends_differ lower higher t w d k)
        | inr k ↦ omega arith
      ]

  module _ (n m : ℕ) (proper : Proper lower higher n m) where
    -- a tree over the list names each edge that its graph has
    graph_named : (t : Tree) → NamesBelow m t → SameGraph (graph_of lower higher n m) (grown t) → (d : ℕ) → d < m → 0 < occurs d t
    graph_named t only s d l =
        let f : ℕ → Bool = (λ e. pair (lower e) (higher e) (lower d) (higher d)) in
        let r = between_named t (lower d) (higher d) (sym (s.edges (lower d) (higher d)) ∙ some_any m f d l (pair_self (lower d) (higher d))) in
        let k = name_below m t only r.0 r.1 in
        let e = proper_one lower higher n m proper (lower d) (higher d) d r.0 l k (pair_self (lower d) (higher d)) r.2 in
        omega (arith, r.1, ap (λ i. occurs i t) e)

    -- a tree that names the edges of the list makes the list's graph
    plan_same : (t : Tree) → Plan lower higher n m t → SameGraph (graph_of lower higher n m) (grown t)
    plan_same t p =
        record {
          vertices = plan_reach lower higher n m t p;
          edges =
              λ x y.
              bool_ext (any m (λ d. pair (lower d) (higher d) x y)) (between t x y)
              (λ h. let r = any_some m (λ d. pair (lower d) (higher d) x y) h in named_between t r.0 x y (omega (arith, p.once r.0 r.1)) r.2)
              (λ h. let r = between_named t x y h in some_any m (λ d. pair (lower d) (higher d) x y) r.0 (name_below m t p.only r.0 r.1) r.2);
        }

    decomposed_plan : (t : Tree) → NamesBelow m t → Decomposes lower higher t (graph_of lower higher n m) → Plan lower higher n m t
    decomposed_plan t only h =
        let w = decomposed_valid t (graph_of lower higher n m) h in
        let s = decomposed_same t (graph_of lower higher n m) h in
        record {
          valid = w;
          bounded = λ x h. ltb-true x n (s.vertices x ∙ h);
          once = λ d l. omega (arith, graph_named t only s d l, valid_once t w d);
          only = only;
          spans = λ x l. sym (s.vertices x) ∙ lt-ltb x n l;
        }

    plan_decomposes : (t : Tree) → Plan lower higher n m t → Decomposes lower higher t (graph_of lower higher n m)
    plan_decomposes t p = valid_decomposes t (graph_of lower higher n m) p.valid (plan_same t p)

pub rules : RulesLaw
rules lower higher n m proper t only = (decomposed_plan lower higher n m proper t only, plan_decomposes lower higher n m proper t)

-- where the places past the list have equal ends, a tree decomposition names no other
pub listed_only : (lower higher : ℕ → ℕ) (m : ℕ) → ((d : ℕ) → m ≤ d → lower d ≡ higher d) → (t : Tree) (G : Graph) → Decomposes lower higher t G
    → NamesBelow m t
listed_only lower higher m beyond t G h d l =
    elim (cases_lt 0 (occurs d t)) [
      | inl k ↦ absurd (ends_differ lower higher t (decomposed_valid lower higher t G h) d k (beyond d l))
      | inr k ↦ omega arith
    ]
