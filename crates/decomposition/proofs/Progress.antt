-- A merge of the edges of a graph that has a tree decomposition never gets stuck: one part is left, or three can be joined.
use Rattle.std.proofs.Common.{◌≡◌, ℕ, ◌*◌, ◌<◌, Bool, true, ◌&&◌, eqb, ◌≢◌, ◌⊎◌, sym, subst, inl, inr, arith}
use Rattle.std.proofs.lemmas.Bool.{cases_eq, cases_lt}
use Rattle.decomposition.specs.Sets.{bit}
use Rattle.decomposition.specs.Trees.{Tree, leaf, step, occurs, reach, Hinges, Valid}
use Rattle.decomposition.specs.Lists.{NamesBelow, Plan}
use Rattle.decomposition.specs.Forest.{Forest, Finished, Progress, finished, joinable}
use Rattle.decomposition.specs.Laws.{NeverStuckLaw}
use Rattle.decomposition.proofs.Sums.{bit_positive, sum_some_term}
use Rattle.decomposition.proofs.Trees.{leaf_names, leaf_names_only, some_name, reach_step, reach_lower, reach_higher, reach_more, ends_differ}
use Rattle.decomposition.proofs.Hinges.{a_in_first, a_in_second, b_in_second, b_in_third, c_in_third, c_in_first, hinged_swap, hinged_turn}
use Rattle.decomposition.proofs.Overlap.{whole_names, same_tree, shares_one}

-- three trees in any order

-- three different live trees that one step can join
record Three (lower higher : ℕ → ℕ) (len : ℕ) (F : ℕ → Tree) (live : ℕ → Bool) : Type 0 where
  i : ℕ
  j : ℕ
  k : ℕ
  i_below : i < len
  j_below : j < len
  k_below : k < len
  i_live : live i ≡ true
  j_live : live j ≡ true
  k_live : live k ≡ true
  i≢j : i ≢ j
  j≢k : j ≢ k
  k≢i : k ≢ i
  hinges : Hinges lower higher (F i) (F j) (F k)

module _ (lower higher : ℕ → ℕ) (len : ℕ) (F : ℕ → Tree) (live : ℕ → Bool) where
  -- the first two change places
  three_swap : Three lower higher len F live → Three lower higher len F live
  three_swap q = let h = q.hinges in record {
    i = q.j;
    j = q.i;
    k = q.k;
    i_below = q.j_below;
    j_below = q.i_below;
    k_below = q.k_below;
    i_live = q.j_live;
    j_live = q.i_live;
    k_live = q.k_live;
    i≢j = λ e. q.i≢j (sym e);
    j≢k = λ e. q.k≢i (sym e);
    k≢i = λ e. q.j≢k (sym e);
    hinges = (h.0, h.2, h.1, hinged_swap h.3);
  }

  -- the first goes behind the others
  three_turn : Three lower higher len F live → Three lower higher len F live
  three_turn q = let h = q.hinges in record {
    i = q.j;
    j = q.k;
    k = q.i;
    i_below = q.j_below;
    j_below = q.k_below;
    k_below = q.i_below;
    i_live = q.j_live;
    j_live = q.k_live;
    k_live = q.i_live;
    i≢j = q.j≢k;
    j≢k = q.k≢i;
    k≢i = q.i≢j;
    hinges = (h.1, h.2, h.0, hinged_turn h.3);
  }

  -- three in rising order are a next step
  rising : (n : ℕ) (q : Three lower higher len F live) → q.i < q.j → q.j < q.k → Progress lower higher n len F live
  rising n q h l = joinable q.i q.j q.k (record {
    i<j = h;
    j<k = l;
    k_below = q.k_below;
    i_live = q.i_live;
    j_live = q.j_live;
    k_live = q.k_live;
    hinges = q.hinges;
  })

  -- and any three can be put into rising order
  ordered : (n : ℕ) → Three lower higher len F live → Progress lower higher n len F live
  unfolding three_swap three_turn
  ordered n q =
      elim (cases_lt q.i q.j) [
        | inl ij ↦
            elim (cases_lt q.j q.k) [
              | inl jk ↦ rising n q ij jk
              | inr jk ↦
                  elim (cases_lt q.i q.k) [
                    | inl ik ↦ rising n (three_swap (three_turn (three_turn q))) ik (omega (arith, q.j≢k))
                    | inr ik ↦ rising n (three_turn (three_turn q)) (omega (arith, q.k≢i)) ij
                  ]
            ]
        | inr ij ↦
            elim (cases_lt q.i q.k) [
              | inl ik ↦ rising n (three_swap q) (omega (arith, q.i≢j)) ik
              | inr ik ↦
                  elim (cases_lt q.j q.k) [
                    | inl jk ↦ rising n (three_turn q) jk (omega (arith, q.k≢i))
                    | inr jk ↦ rising n (three_swap (three_turn q)) (omega (arith, q.j≢k)) (omega (arith, q.i≢j))
                  ]
            ]
      ]

-- up the tree P

-- some live tree reaches all that t reaches
record Held (lower higher : ℕ → ℕ) (len : ℕ) (F : ℕ → Tree) (live : ℕ → Bool) (t : Tree) : Type 0 where
  i : ℕ
  i_below : i < len
  i_live : live i ≡ true
  holds : (x : ℕ) → reach lower higher t x ≡ true → reach lower higher (F i) x ≡ true

module _ (lower higher : ℕ → ℕ) (n m len : ℕ) (P : Tree) (F : ℕ → Tree) (live : ℕ → Bool) (plan : Plan lower higher n m P)
    (forest : Forest lower higher n m len F live) where
  -- each of the m edges is in a live tree
  held_leaf : (d : ℕ) → d < m → Held lower higher len F live (leaf d)
  held_leaf d l =
      let r = sum_some_term len (λ i. bit (live i) * occurs d (F i)) (omega (arith, forest.once d l)) in
      let p = bit_positive (live r.0) (occurs d (F r.0)) r.2 in
      record {
        i = r.0;
        i_below = r.1;
        i_live = p.0;
        holds = reach_more lower higher (leaf d) (F r.0) (λ e h. subst (λ c. 0 < occurs c (F r.0)) (sym (leaf_names_only e d h)) p.1);
      }

  -- what a tree reaches the same tree reaches under another name
  move : (x : ℕ) {i j : ℕ} → i ≡ j → reach lower higher (F i) x ≡ true → reach lower higher (F j) x ≡ true
  move x e h = subst (λ i. reach lower higher (F i) x ≡ true) e h

  -- where one live tree holds all three children it holds the step
  held_step : (t u v : Tree) (p : Held lower higher len F live t) (q : Held lower higher len F live u) (r : Held lower higher len F live v)
      → q.i ≡ p.i → r.i ≡ p.i → Held lower higher len F live (step t u v)
  held_step t u v p q r d e = record {
    i = p.i;
    i_below = p.i_below;
    i_live = p.i_live;
    holds = reach_step lower higher t u v (reach lower higher (F p.i)) p.holds (λ x h. move x d (q.holds x h)) (λ x h. move x e (r.holds x h));
  }

  -- two holders that share two different elements are one
  same_holder : {t u : Tree} (p : Held lower higher len F live t) (q : Held lower higher len F live u) (x y : ℕ) → x ≢ y
      → reach lower higher (F p.i) x ≡ true → reach lower higher (F p.i) y ≡ true
      → reach lower higher (F q.i) x ≡ true → reach lower higher (F q.i) y ≡ true → p.i ≡ q.i
  same_holder p q = same_tree lower higher n m len P F live plan forest p.i q.i p.i_below q.i_below p.i_live q.i_live

  -- two different holders that share an element share no other
  holders_share_one : {t u : Tree} (p : Held lower higher len F live t) (q : Held lower higher len F live u) → p.i ≢ q.i
      → (x : ℕ) → reach lower higher (F p.i) x ≡ true → reach lower higher (F q.i) x ≡ true
      → (y : ℕ) → (reach lower higher (F p.i) y && reach lower higher (F q.i) y) ≡ eqb y x
  holders_share_one p q = shares_one lower higher n m len P F live plan forest p.i q.i p.i_below q.i_below p.i_live q.i_live

  -- the live trees that hold the children of a step are one, or can be joined
  held_or_three : (t u v : Tree) → Hinges lower higher t u v
      → Held lower higher len F live t → Held lower higher len F live u → Held lower higher len F live v
      → Held lower higher len F live (step t u v) ⊎ Three lower higher len F live
  held_or_three t u v g p q r =
      let a : ℕ = g.0 in
      let b : ℕ = g.1 in
      let c : ℕ = g.2 in
      let h = g.3 in
      let pa = p.holds a (a_in_first h) in
      let pc = p.holds c (c_in_first h) in
      let qa = q.holds a (a_in_second h) in
      let qb = q.holds b (b_in_second h) in
      let rb = r.holds b (b_in_third h) in
      let rc = r.holds c (c_in_third h) in
      elim (cases_eq q.i p.i) [
        | inl e ↦ inl (held_step t u v p q r e (same_holder r p b c h.b≢c rb rc (move b e qb) pc))
        | inr qp ↦
            elim (cases_eq r.i p.i) [
              | inl e ↦ inl (held_step t u v p q r (same_holder q p a b h.a≢b qa qb pa (move b e rb)) e)
              | inr rp ↦
                  elim (cases_eq r.i q.i) [
                    | inl e ↦ absurd (qp (same_holder q p c a h.c≢a (move c e rc) qa pc pa))
                    | inr rq ↦
                        inr
                        (record {
                          i = p.i;
                          j = q.i;
                          k = r.i;
                          i_below = p.i_below;
                          j_below = q.i_below;
                          k_below = r.i_below;
                          i_live = p.i_live;
                          j_live = q.i_live;
                          k_live = r.i_live;
                          i≢j = λ e. qp (sym e);
                          j≢k = λ e. rq (sym e);
                          k≢i = rp;
                          hinges = (
                            a,
                            b,
                            c,
                            record {
                              ab = holders_share_one p q (λ e. qp (sym e)) a pa qa;
                              bc = holders_share_one q r (λ e. rq (sym e)) b qb rb;
                              ca = holders_share_one r p rp c rc pc;
                              a≢b = h.a≢b;
                              b≢c = h.b≢c;
                              c≢a = h.c≢a;
                            },
                          );
                        })
                  ]
            ]
      ]

  -- a tree whose edges are among the m is held by a live tree, or three live trees can be joined
  walk : (t : Tree) → Valid lower higher t → NamesBelow m t → Held lower higher len F live t ⊎ Three lower higher len F live
  walk (leaf d) ok h = elim (cases_lt d m) [ inl l ↦ inl (held_leaf d l) | inr l ↦ absurd (omega (arith, h d l, leaf_names d)) ]
  walk (step t u v) ok h =
      elim (walk t ok.0 (λ d l. omega (arith, h d l))) [
        | inr j ↦ inr j
        | inl p ↦
            elim (walk u ok.1 (λ d l. omega (arith, h d l))) [
              | inr j ↦ inr j
              | inl q ↦
                  elim (walk v ok.2 (λ d l. omega (arith, h d l))) [
                    | inr j ↦ inr j
                    | inl r ↦ held_or_three t u v ok.3 p q r
                  ]
            ]
      ]

  -- a live tree that holds P is the only one
  held_alone : (p : Held lower higher len F live P) (j : ℕ) → j < len → live j ≡ true → j ≡ p.i
  held_alone p j l e =
      let r = some_name (F j) in
      let d : ℕ = r.0 in
      let k = whole_names lower higher n m len P F live plan forest j l e d r.1 in
      same_tree lower higher n m len P F live plan forest j p.i l p.i_below e p.i_live (lower d) (higher d)
      (ends_differ lower higher (F j) (forest.valid j l e) d r.1)
      (reach_lower lower higher (F j) d r.1)
      (reach_higher lower higher (F j) d r.1)
      (p.holds (lower d) (reach_lower lower higher P d k))
      (p.holds (higher d) (reach_higher lower higher P d k))

  held_finished : (p : Held lower higher len F live P) → Finished lower higher n len F live p.i
  held_finished p = record { below = p.i_below; left = p.i_live; alone = held_alone p; reaches = λ x l. p.holds x (plan.spans x l) }

pub never_stuck : NeverStuckLaw
never_stuck lower higher n m len P F live plan forest =
    elim (walk lower higher n m len P F live plan forest P plan.valid plan.only) [
      | inl p ↦ finished p.i (held_finished lower higher n m len P F live plan forest p)
      | inr q ↦ ordered lower higher len F live n q
    ]
