-- The three entries that the search takes are those that the merging rule can join.
use Rattle.std.proofs.Common.{◌≡◌, ℕ, ◌<◌, ◌≤◌, true, List, length, sym, ◌∙◌, arith}
use Rattle.std.proofs.lemmas.Bool.{and_parts, and_from}
use Rattle.decomposition.specs.Trees.{reach}
use Rattle.decomposition.specs.Tables.{Node, tree_at}
use Rattle.decomposition.specs.Merging.{CanJoin}
use Rattle.decomposition.proofs.Hinges.{hinged_same}
use Rattle.decomposition.proofs.Underway.{underway_bounded}
use Rattle.graph.specs.Lists.{lower_of, higher_of}
use Rattle.graph.specs.declared.dimension.Dimension.{Dimension}
use Rattle.plan.specs.Hinges.{hinges}
use Rattle.plan.specs.Drafts.{count, draft_table, reach_at, unnamed_at, Fit, Drafted}
use Rattle.plan.specs.declared.draft.Draft.{Draft}
use Rattle.plan.proofs.Hinging.{hinges_shares, hinges_hinged, hinged_hinges}
use Rattle.plan.proofs.Drafting.{table_length}
use Rattle.plan.proofs.Naming.{Small}

module _ (ds : List Dimension) (small : Small ds) (m : ℕ) (within : m ≤ length ds) (d : Draft) (h : Drafted m ds d) where
  abbrev table : List Node
  table = draft_table d

  -- the set that is kept of an entry, and what its tree reaches
  same : (e : ℕ) → e < count d → (i : ℕ) → reach_at d e i ≡ reach (lower_of ds) (higher_of ds) (tree_at table e) i
  same e l i = h.reaches e i l

  below : (e : ℕ) → e < count d → (i : ℕ) → reach_at d e i ≡ true → i < 64
  below e l i t =
      let size = table_length d in
      underway_bounded (lower_of ds) (higher_of ds) m table h.underway 64 (λ j k. small j (omega arith)) e (omega arith) i (sym (same e l i) ∙ t)

  pub fit_joins : (a b c : ℕ) → Fit d a b c → CanJoin (lower_of ds) (higher_of ds) table (count d) a b c
  fit_joins a b c f =
      let ab = f.a<b in
      let bc = f.b<c in
      let la : a < count d = omega (arith, f.c<k) in
      let lb : b < count d = omega (arith, f.c<k) in
      let lc = f.c<k in
      let p = and_parts (unnamed_at d b) _ f.meeting in
      let q = and_parts (unnamed_at d c) _ f.closing in
      let r = hinges_hinged (reach_at d a) (reach_at d b) (reach_at d c) (below a la) (below b lb) (below c lc) q.1 in
      record {
        i<j = ab;
        j<k = bc;
        k_below = lc;
        i_live = sym (h.flags a la) ∙ f.opens;
        j_live = sym (h.flags b lb) ∙ p.0;
        k_live = sym (h.flags c lc) ∙ q.0;
        hinges = (r.0, r.1, r.2, hinged_same (same a la) (same b lb) (same c lc) r.3);
      }

  pub joins_fit : (a b c : ℕ) → CanJoin (lower_of ds) (higher_of ds) table (count d) a b c → Fit d a b c
  joins_fit a b c j =
      let ab = j.i<j in
      let bc = j.j<k in
      let lc = j.k_below in
      let la : a < count d = omega arith in
      let lb : b < count d = omega arith in
      let g = j.hinges in
      let all : hinges (reach_at d a) (reach_at d b) (reach_at d c) ≡ true =
      hinged_hinges (reach_at d a) (reach_at d b) (reach_at d c) (below a la) (below b lb) (below c lc) g.0 g.1 g.2
      (hinged_same (λ i. sym (same a la i)) (λ i. sym (same b lb i)) (λ i. sym (same c lc i)) g.3) in
      record {
        a<b = ab;
        b<c = bc;
        c<k = lc;
        opens = h.flags a la ∙ j.i_live;
        meeting = and_from (unnamed_at d b) _ (h.flags b lb ∙ j.j_live) (hinges_shares (reach_at d a) (reach_at d b) (reach_at d c) all);
        closing = and_from (unnamed_at d c) _ (h.flags c lc ∙ j.k_live) all;
      }
