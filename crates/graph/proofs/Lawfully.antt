-- No row of a list holds anywhere exactly where the list is lawful.
use Rattle.std.proofs.Common.{◌≡◌, ℕ, zero, suc, ◌<◌, false, ltb, leb, ◌↔◌, List, length, get_or, Ok, Result, sym, ap, ◌∙◌, inl, inr, arith}
use Rattle.std.proofs.lemmas.Bool.{cases_order, or_parts, or_from, ltb-false, le-ltb, leb-false, lt-leb}
use Rattle.std.proofs.lemmas.Bool.Decides.{nat_tests}
use Rattle.graph.specs.Rows.{AllClear, first_refusal, answered, told}
use Rattle.graph.specs.Lists.{at, lower_of, higher_of, wrong_count, same_pair, list_rows, Lawful}
use Rattle.graph.specs.ListFaults.{list_refusal}
use Rattle.graph.specs.declared.dimension.Dimension.{Dimension}
use Rattle.graph.specs.declared.faults.ListFault.{ListFault}
use Rattle.decomposition.proofs.Lowest.{absent_clear, clear_absent}
use Rattle.graph.proofs.Reading.{none_clear, clear_none}
use Rattle.graph.proofs.Told.{told_ok, answered_ok}

other_pair : (c d : Dimension) → same_pair c d ≡ false → c.lower ≡ d.lower → c.higher ≡ d.higher → ⊥
other_pair c d h p q = grind (arith, nat_tests)

pair_other : (c d : Dimension) → (c.lower ≡ d.lower → c.higher ≡ d.higher → ⊥) → same_pair c d ≡ false
pair_other c d h = grind (arith, nat_tests)

module _ (ks : List ℕ) (ds : List Dimension) where
  pub clear_lawful : AllClear (list_rows ks ds) → Lawful ks ds
  clear_lawful clear =
      let size = or_parts (ltb (length ks) 2) (ltb 64 (length ks)) (clear.0 0 (omega arith)) in
      record {
        enough = ltb-false (length ks) 2 size.0;
        few = ltb-false 64 (length ks) size.1;
        short = ltb-false 125 (length ds) (clear.0 1 (omega arith));
        kinds = λ i l. ltb-false 1 (get_or ks i 0) (clear.1.0 i l);
        proper = record {
          rising = λ d l. leb-false (higher_of ds d) (lower_of ds d) (clear.1.1.1.0 d l);
          within = λ d l.
              leb-false (length ks) (higher_of ds d)
              (or_parts (leb (length ks) (lower_of ds d)) (leb (length ks) (higher_of ds d)) (clear.1.1.0 d l)).1;
          apart = λ d e l k p q.
              elim (cases_order d e) [
                | inl is ↦ is
                | inr o ↦ elim o [ inl h ↦ absurd (apart d e h k p q) | inr h ↦ absurd (apart e d h l (sym p) (sym q)) ]
              ];
        };
      }
    where
      apart : (c d : ℕ) → c < d → d < length ds → lower_of ds c ≡ lower_of ds d → higher_of ds c ≡ higher_of ds d → ⊥
      apart c d g l = other_pair (at ds c) (at ds d) (absent_clear d (λ k. same_pair (at ds k) (at ds d)) (clear.1.1.1.1.0 d l) c g)

  pub lawful_clear : Lawful ks ds → AllClear (list_rows ks ds)
  lawful_clear h = (
    sizes,
    (
      λ i l. le-ltb 1 (get_or ks i 0) (h.kinds i l),
      (
        λ d l.
            let r = h.proper.rising d l in
            let w = h.proper.within d l in
            or_from (leb (length ks) (lower_of ds d)) (leb (length ks) (higher_of ds d))
            (lt-leb (length ks) (lower_of ds d) (omega arith)) (lt-leb (length ks) (higher_of ds d) w),
        (
          λ d l. lt-leb (higher_of ds d) (lower_of ds d) (h.proper.rising d l),
          (
            λ d l.
                clear_absent d (λ k. same_pair (at ds k) (at ds d))
                (λ c g. pair_other (at ds c) (at ds d) (λ p q. let e = h.proper.apart c d (omega arith) l p q in omega arith)),
            tt,
          ),
        ),
      ),
    ),
  )
    where
      sizes : (p : ℕ) → p < 2 → wrong_count ks ds p ≡ false
      sizes zero l = or_from (ltb (length ks) 2) (ltb 64 (length ks)) (le-ltb (length ks) 2 h.enough) (le-ltb 64 (length ks) h.few)
      sizes (suc p) l = le-ltb 125 (length ds) h.short

  -- the answer is Ok exactly where the list is lawful
  pub judged : (r : Result (Unit {0}) ListFault) → told list_refusal r ≡ answered (first_refusal (list_rows ks ds)) tt → (r ≡ Ok tt) ↔ Lawful ks ds
  judged r e = (
    λ is. clear_lawful (none_clear (list_rows ks ds) (answered_ok _ tt tt (sym e ∙ ap (told list_refusal) is)).0),
    λ h. told_ok list_refusal r tt (e ∙ ap (λ o. answered o tt) (clear_none (list_rows ks ds) (lawful_clear h))),
  )
