-- A plan in the making gains a leaf, or the step of the lowest three.
use Rattle.std.proofs.Common.{◌≡◌, ℕ, zero, suc, ◌+◌, ◌<◌, ◌≤◌, Bool, true, false, not, ◌&&◌, ◌||◌, eqb, List, [], ◌∷◌, ◌++◌, map, length, get_or, Some, sym, refl, ap, ◌∙◌, ap₂, subst, inl, inr, arith}
use Rattle.std.proofs.lemmas.Bool.{cases_lt, ne_eqb, lt-ltb}
use Rattle.std.proofs.lemmas.List.{length-set, length_push, map_push, get_or_append_left, get_or_push}
use Rattle.std.proofs.Math.Bool.{and-false}
use Rattle.std.proofs.Math.ListN.{get_or-map}
use Rattle.std.proofs.Math.Seq.{map-set_same}
use lib.Dec.{eqb-zero-suc, eqb-suc-zero, eqb-suc-suc}
use Rattle.decomposition.specs.Sets.{bit}
use Rattle.decomposition.specs.Trees.{reach}
use Rattle.decomposition.specs.Tables.{Node, names, joins, mentions, named_by, node, tree_at}
use Rattle.decomposition.specs.Merging.{Lowest, Underway}
use Rattle.decomposition.proofs.Entries.{tree_leaf, tree_step}
use Rattle.decomposition.proofs.Underway.{underway_rising, underway_short}
use Rattle.decomposition.proofs.MergedExists.{underway_start, underway_more}
use Rattle.graph.specs.ElementSets.{members}
use Rattle.graph.specs.Lists.{at, lower_of, higher_of}
use Rattle.graph.specs.declared.dimension.Dimension.{Dimension}
use Rattle.graph.specs.declared.element_set.ElementSet.{ElementSet}
use Rattle.graph.specs.declared.list.LawfulList.{LawfulList}
use Rattle.plan.specs.Reach.{IsEnds}
use Rattle.plan.specs.Drafts.{part, new_part, drafted, count, draft_table, part_at, reach_at, with_named, Joined, LowestThree, Drafted}
use Rattle.plan.specs.declared.entry.Entry.TheVariants.{Leaf, Step}
use Rattle.plan.specs.declared.draft.Draft.{Draft}
use Rattle.plan.specs.declared.draft.Part.{Part}
use Rattle.plan.specs.declared.draft.Three.{Three}
use Rattle.plan.proofs.Exactly.{list_small}
use Rattle.plan.proofs.Drafting.{table_length, size', newest, tree_stays, unnamed_more, draft_push}
use Rattle.plan.proofs.Fitting.{fit_joins, joins_fit}
use Rattle.plan.proofs.Naming.{Small}

-- a part past the end
abbrev pub blank : Part
blank = part (Leaf 0) (record { bits = 0 }) false

-- parts behind which one more stands
module _ (ps : List Part) (p : Part) where
  part_older : (e : ℕ) → e < length ps → part_at (ps ++ p ∷ []) e ≡ part_at ps e
  part_older e l = get_or_append_left ps (p ∷ []) blank e l

  part_newest : part_at (ps ++ p ∷ []) (length ps) ≡ p
  part_newest = get_or_push ps p blank (length ps) refl

-- what naming leaves as it was, and what it changes
named_entries : (ps : List Part) (j : ℕ) → map (λ (p : Part). p.entry) (with_named ps j) ≡ map (λ (p : Part). p.entry) ps
named_entries ps j = map-set_same (λ (p : Part). p.entry) ps j _ blank refl

named_reach : (ps : List Part) (j e : ℕ) → (part_at (with_named ps j) e).reach ≡ (part_at ps e).reach
named_reach ps j e =
    let f : Part → ElementSet = (λ p. p.reach) in
    sym (get_or-map f (with_named ps j) e blank)
    ∙ ap (λ xs. get_or xs e (f blank)) (map-set_same f ps j _ blank refl)
    ∙ get_or-map f ps e blank

named_flag : (ps : List Part) (j e : ℕ) → (part_at (with_named ps j) e).unnamed ≡ (not (eqb e j) && (part_at ps e).unnamed)
named_flag [] j e = sym (and-false (not (eqb e j)))
named_flag (p ∷ ps) zero zero = refl
named_flag (p ∷ ps) zero (suc e) = sym (ap (λ b. not b && (part_at ps e).unnamed) (eqb-suc-zero e))
named_flag (p ∷ ps) (suc j) zero = sym (ap (λ b. not b && p.unnamed) (eqb-zero-suc j))
named_flag (p ∷ ps) (suc j) (suc e) = named_flag ps j e ∙ sym (ap (λ b. not b && (part_at ps e).unnamed) (eqb-suc-suc e j))

-- a flag after three entries are named
more_names : (n k : ℕ) → 0 < k → false ≡ eqb (n + k) 0
more_names n k l = sym (ne_eqb (n + k) 0 (λ z. omega arith))

flag_three : (p q r : Bool) (n : ℕ) → (not r && (not q && (not p && eqb n 0))) ≡ eqb (n + (bit p + bit q + bit r)) 0
flag_three p q true n = more_names n (bit p + bit q + 1) (omega arith)
flag_three p true false n = more_names n (bit p + 1 + 0) (omega arith)
flag_three true false false n = more_names n 1 (omega arith)
flag_three false false false n = ap (λ x. eqb x 0) (omega arith)

module _ (lawful : LawfulList) where
  abbrev ds : List Dimension
  ds = lawful.list.dimensions.now

  small : Small ds
  small = list_small lawful

  short : length ds ≤ 125
  short = lawful.lawful.short

  -- one more leaf
  module _ (i : ℕ) (d : Draft) (l : i < length ds) (h : Drafted i ds d) (is : count d ≡ i) where
    abbrev leaves : List Node
    leaves = draft_table d ++ names i ∷ []

    with_leaf : Underway (lower_of ds) (higher_of ds) (i + 1) leaves
    with_leaf =
        underway_start (lower_of ds) (higher_of ds) (i + 1) leaves (length_push (draft_table d) (names i) ∙ ap (λ k. k + 1) (table_length d ∙ is))
        (λ e k.
        elim (cases_lt e i) [
          | inl g ↦ get_or_append_left (draft_table d) (names i ∷ []) (names 0) e (omega (arith, table_length d)) ∙ h.underway.first e g
          | inr g ↦
              (let same : e ≡ i = omega arith in
              get_or_push (draft_table d) (names i) (names 0) e (table_length d ∙ is ∙ sym same) ∙ ap names (sym same))
        ])

    module _ (both : ElementSet) (ends : IsEnds (at ds i) both) (new : Draft)
        (pushed : new.parts.items ≡ d.parts.items ++ new_part (Leaf i) both ∷ []) where
      leaf_reach : (j : ℕ) → members both j ≡ reach (lower_of ds) (higher_of ds) (tree_at leaves (count d)) j
      leaf_reach j =
          let s = small i l in
          ends j
          ∙ ap₂ (λ p q. (p && eqb j (lower_of ds i)) || (q && eqb j (higher_of ds i))) (lt-ltb (lower_of ds i) 64 s.0) (lt-ltb (higher_of ds i) 64 s.1)
          ∙ sym (ap (λ t. reach (lower_of ds) (higher_of ds) t j)
          (tree_leaf (node leaves) (length leaves) (underway_rising (lower_of ds) (higher_of ds) (i + 1) leaves with_leaf) (count d) i
          (newest ds i (i + 1) d h (Leaf i))))

      pub draft_leaf : Drafted (i + 1) ds new
      draft_leaf =
          let at_old = part_older d.parts.items (new_part (Leaf i) both) in
          let at_new = ap (λ ps. part_at ps (count d)) pushed ∙ part_newest d.parts.items (new_part (Leaf i) both) in
          draft_push ds i (i + 1) d h (Leaf i) new (ap (map (λ (p : Part). p.entry)) pushed ∙ map_push (λ (p : Part). p.entry) d.parts.items _) with_leaf
          (λ e j k. ap (λ (p : Part). members p.reach j) (ap (λ ps. part_at ps e) pushed ∙ at_old e k))
          (λ j. ap (λ (p : Part). members p.reach j) at_new ∙ leaf_reach j)
          (λ e k.
          let z : named_by (node (draft_table d)) (count d) e ≡ named_by (node (draft_table d)) (count d) e + 0 = omega arith in
          ap (λ (p : Part). p.unnamed) (ap (λ ps. part_at ps e) pushed ∙ at_old e k)
          ∙ h.flags e k ∙ ap (λ x. eqb x 0) z ∙ sym (unnamed_more ds i (i + 1) d h (Leaf i) e))
          (ap (λ (p : Part). p.unnamed) at_new)

      pub leaf_count : count new ≡ i + 1
      leaf_count = ap length pushed ∙ length_push d.parts.items _ ∙ ap (λ k. k + 1) is

  -- one more step
  module _ (d : Draft) (h : Drafted (length ds) ds d) (t : Three) (lowest : LowestThree d (Some t)) where
    abbrev a : ℕ
    a = t.first

    abbrev b : ℕ
    b = t.second

    abbrev c : ℕ
    c = t.third

    abbrev steps : List Node
    steps = draft_table d ++ joins a b c ∷ []

    with_step : Underway (lower_of ds) (higher_of ds) (length ds) steps
    with_step =
        underway_more (lower_of ds) (higher_of ds) (length ds) (draft_table d) a b c h.underway
        (subst (λ k. Lowest (lower_of ds) (higher_of ds) (draft_table d) k a b c) (sym (table_length d))
        (record {
          can = fit_joins ds small (length ds) (omega arith) d h a b c lowest.0;
          lowest = λ x y z can. lowest.1 x y z (joins_fit ds small (length ds) (omega arith) d h x y z can);
        }))

    -- the three are entries
    pub three_below : (a < count d) × (b < count d) × (c < count d)
    three_below = let ab = lowest.0.a<b in let bc = lowest.0.b<c in let ck = lowest.0.c<k in (omega arith, omega arith, ck)

    pub step_room : count d < 187
    step_room =
        let longer = length_push (draft_table d) (joins a b c) in
        omega (arith, short, table_length d, underway_short (lower_of ds) (higher_of ds) (length ds) steps with_step (omega (arith, short)))

    abbrev ps : List Part
    ps = d.parts.items

    abbrev named : List Part
    named = with_named (with_named (with_named ps a) b) c

    entries_stay : map (λ (p : Part). p.entry) named ≡ drafted d
    entries_stay = named_entries _ c ∙ named_entries _ b ∙ named_entries ps a

    length_stays : length named ≡ count d
    length_stays = length-set _ c _ ∙ length-set _ b _ ∙ length-set ps a _

    reach_stays : (e : ℕ) → (part_at named e).reach ≡ (part_at ps e).reach
    reach_stays e = named_reach _ c e ∙ named_reach _ b e ∙ named_reach ps a e

    -- the flags say which entries are named now
    flags : (e : ℕ) → e < count d → (part_at named e).unnamed ≡ eqb (named_by (node (draft_table d)) (count d) e + mentions (joins a b c) e) 0
    flags e l =
        named_flag _ c e
        ∙ ap (λ x. not (eqb e c) && x) (named_flag _ b e ∙ ap (λ x. not (eqb e b) && x) (named_flag ps a e ∙ ap (λ x. not (eqb e a) && x) (h.flags e l)))
        ∙ flag_three (eqb e a) (eqb e b) (eqb e c) (named_by (node (draft_table d)) (count d) e)

    -- what the step reaches
    step_reach : (i : ℕ) → (reach_at d a i || (reach_at d b i || reach_at d c i)) ≡ reach (lower_of ds) (higher_of ds) (tree_at steps (count d)) i
    step_reach i =
        let below = three_below in
        ap₂ ◌||◌ (same a below.0) (ap₂ ◌||◌ (same b below.1) (same c below.2))
        ∙ sym (ap (λ t. reach (lower_of ds) (higher_of ds) t i)
        (tree_step (node steps) (length steps) (underway_rising (lower_of ds) (higher_of ds) (length ds) steps with_step) (count d) a b c
        (omega (arith, size' ds (length ds) (length ds) d h (Step a b c))) (newest ds (length ds) (length ds) d h (Step a b c))))
      where
        same : (e : ℕ) → e < count d → reach_at d e i ≡ reach (lower_of ds) (higher_of ds) (tree_at steps e) i
        same e l = h.reaches e i l ∙ ap (λ t. reach (lower_of ds) (higher_of ds) t i) (tree_stays ds (length ds) (length ds) d h (Step a b c) e l)

    pub draft_step : (new : Draft) → Joined d t new → Drafted (length ds) ds new
    draft_step new joined =
        let p = new_part (Step a b c) joined.0 in
        let at_old : (e : ℕ) → e < count d → part_at new.parts.items e ≡ part_at named e =
        (λ e l. ap (λ ps. part_at ps e) joined.2 ∙ part_older named p e (omega (arith, length_stays))) in
        let at_new : part_at new.parts.items (count d) ≡ p =
        ap (λ ps. part_at ps (count d)) joined.2 ∙ ap (part_at (named ++ p ∷ [])) (sym length_stays) ∙ part_newest named p in
        draft_push ds (length ds) (length ds) d h (Step a b c) new
        (ap (map (λ (p : Part). p.entry)) joined.2 ∙ map_push (λ (p : Part). p.entry) named p ∙ ap (λ xs. xs ++ Step a b c ∷ []) entries_stay) with_step
        (λ e i l. ap (λ (p : Part). members p.reach i) (at_old e l) ∙ ap (λ s. members s i) (reach_stays e))
        (λ i. ap (λ (p : Part). members p.reach i) at_new ∙ joined.1 i ∙ step_reach i)
        (λ e l. ap (λ (p : Part). p.unnamed) (at_old e l) ∙ flags e l ∙ sym (unnamed_more ds (length ds) (length ds) d h (Step a b c) e))
        (ap (λ (p : Part). p.unnamed) at_new)

    pub step_count : (new : Draft) → Joined d t new → count new ≡ count d + 1
    step_count new joined = ap length joined.2 ∙ length_push named _ ∙ ap (λ k. k + 1) length_stays
