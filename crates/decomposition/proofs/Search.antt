-- The lowest three that a step can join, found by trying one number after another.
use Rattle.std.proofs.Common.{◌≡◌, ℕ, ◌<◌, Bool, true, ◌&&◌, ltb, List, Some, None, Option, sym, subst, inl, inr, arith}
use Rattle.std.proofs.lemmas.Bool.{cases_order, both_ways, ltb-true, lt-ltb, and_parts, and_from}
use Rattle.decomposition.specs.Sets.{Subset, any}
use Rattle.decomposition.specs.Lowest.{lowest, Clear}
use Rattle.decomposition.specs.Trees.{reach, hinge_test, Bounded}
use Rattle.decomposition.specs.Tables.{Node, unnamed, node, tree_at}
use Rattle.decomposition.specs.Merging.{CanJoin, Upto, Lowest}
use Rattle.decomposition.proofs.Sums.{any_some, some_any}
use Rattle.decomposition.proofs.Lowest.{Says, lowest_says}
use Rattle.decomposition.proofs.HingeTest.{test_hinged, hinged_test}

-- where some number passes not all are clear
any_clear : (n : ℕ) (S : Subset) → any n S ≡ true → Clear n S → ⊥
any_clear n S h clear = let r = any_some n S h in both_ways (S r.0) (clear r.0 r.1) r.2

module _ (lower higher : ℕ → ℕ) (n : ℕ) (table : List Node) (k : ℕ) where
  -- a step at k can join a, b and c
  abbrev third? : ℕ → ℕ → ℕ → Bool
  third? a b c =
      ltb a b
      && (ltb b c
      && (ltb c k
      && (unnamed (node table) k a
      && (unnamed (node table) k b
      && (unnamed (node table) k c
      && hinge_test n (reach lower higher (tree_at table a)) (reach lower higher (tree_at table b)) (reach lower higher (tree_at table c)))))))

  -- with some third, and with some second and third
  abbrev second? : ℕ → ℕ → Bool
  second? a b = any k (third? a b)

  abbrev first? : ℕ → Bool
  first? a = any k (second? a)

  -- the lowest third, the lowest second with it, and the lowest three, where there are any
  abbrev with_third : ℕ → ℕ → Option ℕ → Option (ℕ × ℕ × ℕ)
  with_third a b None = None
  with_third a b (Some c) = Some (a, b, c)

  abbrev with_second : ℕ → Option ℕ → Option (ℕ × ℕ × ℕ)
  with_second a None = None
  with_second a (Some b) = with_third a b (lowest k (third? a b))

  abbrev with_first : Option ℕ → Option (ℕ × ℕ × ℕ)
  with_first None = None
  with_first (Some a) = with_second a (lowest k (second? a))

  abbrev pub search : Option (ℕ × ℕ × ℕ)
  search = with_first (lowest k first?)

  -- what that says
  abbrev pub Finds : Option (ℕ × ℕ × ℕ) → Type 0
  Finds None = (x y z : ℕ) → CanJoin lower higher table k x y z → ⊥
  Finds (Some t) = Lowest lower higher table k t.0 t.1 t.2

  module _ (bounded : (e : ℕ) → e < k → Bounded lower higher n (tree_at table e)) where
    passes : (a b c : ℕ) → third? a b c ≡ true → CanJoin lower higher table k a b c
    passes a b c h =
        let p = and_parts (ltb a b) _ h in
        let q = and_parts (ltb b c) _ p.1 in
        let r = and_parts (ltb c k) _ q.1 in
        let s = and_parts (unnamed (node table) k a) _ r.1 in
        let t = and_parts (unnamed (node table) k b) _ s.1 in
        let u = and_parts (unnamed (node table) k c) _ t.1 in
        let ab = ltb-true a b p.0 in
        let bc = ltb-true b c q.0 in
        let ck = ltb-true c k r.0 in
        record {
          i<j = ab;
          j<k = bc;
          k_below = ck;
          i_live = s.0;
          j_live = t.0;
          k_live = u.0;
          hinges = test_hinged n _ _ _ (bounded a (omega arith)) (bounded b (omega arith)) (bounded c ck) u.1;
        }

    passed : (a b c : ℕ) → CanJoin lower higher table k a b c → third? a b c ≡ true
    passed a b c h =
        let ab = h.i<j in
        let bc = h.j<k in
        let ck = h.k_below in
        let g = h.hinges in
        and_from (ltb a b) _ (lt-ltb a b ab)
        (and_from (ltb b c) _ (lt-ltb b c bc)
        (and_from (ltb c k) _ (lt-ltb c k ck)
        (and_from (unnamed (node table) k a) _ h.i_live
        (and_from (unnamed (node table) k b) _ h.j_live
        (and_from (unnamed (node table) k c) _ h.k_live
        (hinged_test n _ _ _ (bounded a (omega arith)) (bounded b (omega arith)) (bounded c ck) g.0 g.1 g.2 g.3))))))

    has_third : (a b c : ℕ) → CanJoin lower higher table k a b c → second? a b ≡ true
    has_third a b c h = some_any k (third? a b) c h.k_below (passed a b c h)

    has_second : (a b c : ℕ) → CanJoin lower higher table k a b c → first? a ≡ true
    has_second a b c h =
        let bc = h.j<k in
        let ck = h.k_below in
        some_any k (second? a) b (omega arith) (has_third a b c h)

    -- what comes before each of the three is clear, so no lower three can be joined
    upto : (a b c x y z : ℕ) → Clear a first? → Clear b (second? a) → Clear c (third? a b) → CanJoin lower higher table k x y z → Upto a b c x y z
    upto a b c x y z p q r h =
        elim (cases_order a x) [
          | inr s ↦ elim s [ inl l ↦ inl l | inr l ↦ absurd (both_ways (first? x) (p x l) (has_second x y z h)) ]
          | inl e ↦
              (let h' = subst (λ i. CanJoin lower higher table k i y z) (sym e) h in
              inr (
                e,
                elim (cases_order b y) [
                  | inr s ↦ elim s [ inl l ↦ inl l | inr l ↦ absurd (both_ways (second? a y) (q y l) (has_third a y z h')) ]
                  | inl d ↦
                      (let h'' = subst (λ i. CanJoin lower higher table k a i z) (sym d) h' in
                      inr (
                        d,
                        elim (cases_order c z) [
                          | inl g ↦ omega arith
                          | inr s ↦ elim s [ inl l ↦ omega arith | inr l ↦ absurd (both_ways (third? a b z) (r z l) (passed a b z h'')) ]
                        ],
                      ))
                ],
              ))
        ]

    finds_third : (a b : ℕ) → Clear a first? → Clear b (second? a) → second? a b ≡ true → (o : Option ℕ) → Says k (third? a b) o → Finds (with_third a b o)
    finds_third a b p q h None s = absurd (any_clear k (third? a b) h s)
    finds_third a b p q h (Some c) s = record { can = passes a b c s.1; lowest = λ x y z can. upto a b c x y z p q s.2 can }

    finds_second : (a : ℕ) → Clear a first? → first? a ≡ true → (o : Option ℕ) → Says k (second? a) o → Finds (with_second a o)
    finds_second a p h None s = absurd (any_clear k (second? a) h s)
    finds_second a p h (Some b) s = finds_third a b p s.2 s.1 (lowest k (third? a b)) (lowest_says k (third? a b))

    finds_first : (o : Option ℕ) → Says k first? o → Finds (with_first o)
    finds_first None s =
        λ x y z h.
        let xy = h.i<j in
        let yz = h.j<k in
        let zk = h.k_below in
        both_ways (first? x) (s x (omega arith)) (has_second x y z h)
    finds_first (Some a) s = finds_second a s.2 s.1 (lowest k (second? a)) (lowest_says k (second? a))

    pub finds : Finds search
    finds = finds_first (lowest k first?) (lowest_says k first?)
