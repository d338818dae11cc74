-- What the searches of the library find, by the lowest number that passes a test and by how many do.
use Rattle.std.proofs.Common.{◌≡◌, ℕ, zero, suc, ◌<◌, ◌≤◌, Bool, true, false, cond, not, ◌||◌, List, length, take, Some, None, Option, sym, refl, ap, ◌∙◌, inl, inr, MatchOption, MatchBool, add-one, arith, get_or}
use Rattle.std.specs.List.{list_any, enumerate_from, range_with_len, AllWithin, HoldsAt, position, position_or_len, count_by, FoldsTo}
use Rattle.std.specs.Fn.{Called, CalledAt}
use Rattle.std.specs.Iterator.{YieldsThen}
use Rattle.std.proofs.iter.Yields.{fronts, nat_range_steps}
use Rattle.std.proofs.lemmas.Iterator.{first_from_Range, cases_from_all, YieldsList-from_range, YieldsList-from_slice}
use Rattle.std.proofs.lemmas.Iterator.Search.{position_from_yields_List}
use Rattle.std.specs.Slice.Iter.{iter_rest}
use Rattle.std.proofs.lemmas.List.{take_all}
use Rattle.std.proofs.lemmas.List.FromFn.{length-enumerate_from, get_or-enumerate_from, length-range_with_len, get_or-range_with_len}
use Rattle.std.proofs.lemmas.List.Folds.{list_any_more}
use Rattle.std.proofs.lemmas.List.Sums.{fails_before_first, passes_at_first, count_by_more_yes, count_by_more_no}
use Rattle.std.proofs.lemmas.Bool.{cases_lt, cases_Bool, both_ways, lt-ltb, le-ltb}
use denote.Param.Members.{Mut}
use denote.Ref.{Bor}
use Rattle.decomposition.specs.Sets.{bit, count}
use Rattle.decomposition.specs.Lowest.{or_else, lowest, present}
use Rattle.decomposition.proofs.Lowest.{Says, said_lowest, lowest_agree, absent_clear, clear_absent}

-- a search through a range
pub lowest_from_find : {F : Type 0} {g : Mut F (Bor ℕ × Unit {0}) Bool} (n : ℕ) (test : ℕ → Bool) (u : _) (f : F) (r : Option ℕ)
    → (xs : List ℕ)
    × (j : F)
    × YieldsThen nat_range_steps (record { start = 0; end = n }) xs r u
    × FoldsTo (λ p x q. CalledAt g p x false q) f xs j
    × MatchOption r (Unit {0}) (λ x. (h : F) × CalledAt g j x true h)
    → ((x : ℕ) (b : Bool) (q : F) → CalledAt g f x b q → (q ≡ f) × (b ≡ test x))
    → r ≡ lowest n test
lowest_from_find n test u f r ran gives =
    said_lowest n test r (
    by r
    (first_from_Range _ u f r (λ x. true ≡ test x) (λ x. false ≡ test x) ran (λ x q c. (gives x true q c).1) (λ x q. gives x false q))
    )
  where
    by : (o : Option ℕ)
        → MatchOption o ((k : ℕ) → 0 ≤ k → k < n → false ≡ test k) (λ i. (0 ≤ i) × (i < n) × (true ≡ test i) × ((k : ℕ) → 0 ≤ k → k < i → false ≡ test k))
        → Says n test o
    by None h = λ k l. sym (h k (omega arith) l)
    by (Some i) h = (h.1, sym h.2, λ k l. sym (h.3 k (omega arith) l))

found_present : (n k : ℕ) (test : ℕ → Bool) → k < n → test k ≡ true → present (lowest n test) ≡ true
found_present n k test l t =
    elim (cases_Bool (present (lowest n test))) [ inl p ↦ p | inr p ↦ absurd (both_ways (test k) (absent_clear n test p k l) t) ]

-- every number of a range passes
pub absent_from_all : {F : Type 0} {g : Mut F (ℕ × Unit {0}) Bool} (n : ℕ) (test : ℕ → Bool) (u : _) (f : F) (r : Bool)
    → (xs : List ℕ)
    × (o : Option ℕ)
    × (j : F)
    × YieldsThen nat_range_steps (record { start = 0; end = n }) xs o u
    × FoldsTo (λ p x q. Called g p (x, tt) true q) f xs j
    × MatchOption o (r ≡ true) (λ x. (r ≡ false) × ((h : F) × Called g j (x, tt) false h))
    → ((x : ℕ) (b : Bool) (q : F) → Called g f (x, tt) b q → (q ≡ f) × (b ≡ test x))
    → r ≡ not (present (lowest n (λ k. not (test k))))
absent_from_all n test u f r ran gives =
    by r
    (cases_from_all u f r (λ x. true ≡ test x) (λ x. false ≡ test x) ran (YieldsList-from_range 0 n n refl (omega arith))
    (λ x q c. gives x true q c) (λ x q c. (gives x false q c).1))
  where
    all : List ℕ
    all = range_with_len 0 n

    at : (k : ℕ) → k < n → get_or all k 0 ≡ k
    at k l = get_or-range_with_len 0 n k 0 l ∙ omega arith

    by : (b : Bool)
        → MatchBool b (AllWithin (λ x. true ≡ test x) all 0 (length all)) ((k : ℕ) × (k < length all) × HoldsAt (λ x. false ≡ test x) all k)
        → b ≡ not (present (lowest n (λ k. not (test k))))
    by true h =
        let size = length-range_with_len 0 n in
        sym (ap not (clear_absent n (λ k. not (test k)) (λ k l. ap not (ap test (sym (at k l)) ∙ sym (h k 0 (omega arith) (omega arith))))))
    by false h =
        let size = length-range_with_len 0 n in
        let l : h.0 < n = omega (arith, h.1) in
        sym (ap not (found_present n h.0 (λ k. not (test k)) l (ap not (ap test (sym (at h.0 l)) ∙ sym (h.2 0)))))

one_more : (o : Option ℕ) (k : ℕ) (b : Bool) → (present o || b) ≡ present (or_else o (cond b (Some k) None))
one_more (Some q) k b = refl
one_more None k true = refl
one_more None k false = refl

module _ {X : Type 0} (p : X → Bool) (xs : List X) (d : X) where
  -- through a list
  pub lowest_position : position p xs ≡ lowest (length xs) (λ i. p (get_or xs i d))
  lowest_position =
      let first = position_or_len p xs in
      elim (cases_lt first (length xs)) [
        | inl l ↦
            ap (λ b. cond b (Some first) None) (lt-ltb first (length xs) l)
            ∙ said_lowest _ _ (Some first) (l, passes_at_first p xs d l, λ k h. fails_before_first p xs k d h)
        | inr g ↦
            ap (λ b. cond b (Some first) None) (le-ltb first (length xs) g)
            ∙ said_lowest _ _ None (λ k (h : k < length xs). fails_before_first p xs k d (omega arith))
      ]

  -- whether any of the first k passes
  pub any_present : (k : ℕ) → k ≤ length xs → list_any p (take k xs) ≡ present (lowest k (λ i. p (get_or xs i d)))
  any_present zero l = refl
  any_present (suc k) l =
      ap (λ n. list_any p (take n xs)) (sym (add-one k)) ∙ list_any_more p xs k d l
      ∙ ap (λ b. b || p (get_or xs k d)) (any_present k (omega arith))
      ∙ one_more (lowest k (λ i. p (get_or xs i d))) k (p (get_or xs k d))

  counted : (k : ℕ) → k ≤ length xs → count_by p (take k xs) ≡ count k (λ i. p (get_or xs i d))
  counted zero l = refl
  counted (suc k) l =
      ap (λ n. count_by p (take n xs)) (sym (add-one k))
      ∙ elim (cases_Bool (p (get_or xs k d))) [
        | inl t ↦ count_by_more_yes p xs k d l t ∙ omega (arith, counted k (omega arith), ap bit t)
        | inr f ↦ count_by_more_no p xs k d l f ∙ omega (arith, counted k (omega arith), ap bit f)
      ]

  -- how many pass
  pub count_from_count_by : count_by p xs ≡ count (length xs) (λ i. p (get_or xs i d))
  count_from_count_by = ap (count_by p) (sym (take_all (length xs) xs (omega arith))) ∙ counted (length xs) (omega arith)

-- a search through a slice
pub lowest_from_position : {A F : Type 0} {g : Mut F (Bor A × Unit {0}) Bool} {s : _} (test : A → Bool) (d : A) (all : List A) (u : _) (f : F) (r : Option ℕ)
    → (xs : List (Bor A))
    × (o : Option (Bor A))
    × (j : F)
    × YieldsThen fronts s xs o u
    × FoldsTo (λ p x q. Called g p (x, tt) false q) f xs j
    × MatchOption o (r ≡ None) (λ x. (r ≡ Some (length xs)) × ((h : F) × Called g j (x, tt) true h))
    → iter_rest s ≡ all
    → ((x : Bor A) (b : Bool) (q : F) → Called g f (x, tt) b q → (q ≡ f) × (b ≡ test x.now))
    → r ≡ lowest (length all) (λ i. test (get_or all i d))
lowest_from_position test d all u f r ran rest gives =
    position_from_yields_List test u f r ran (YieldsList-from_slice all rest) gives ∙ lowest_position test all d

-- a search through a slice that tells the place
pub lowest_enumerated : {X : Type 0} (test : ℕ → X → Bool) (d : X) (all : List X)
    → position (λ p. test p.0 p.1) (enumerate_from 0 all) ≡ lowest (length all) (λ i. test i (get_or all i d))
lowest_enumerated test d all =
    lowest_position (λ p. test p.0 p.1) (enumerate_from 0 all) (0, d)
    ∙ ap (λ n. lowest n (λ i. test (get_or (enumerate_from 0 all) i (0, d)).0 (get_or (enumerate_from 0 all) i (0, d)).1)) (length-enumerate_from 0 all)
    ∙ lowest_agree (length all) _ (λ i. test i (get_or all i d)) (λ i l. ap (λ p. test p.0 p.1) (get_or-enumerate_from 0 all i (0, d) l ∙ ap (λ k. (k, get_or all i d)) (omega arith)))
