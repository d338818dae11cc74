-- Every tree decomposition of a list's graph is written down by a plan that check accepts.
use Rattle.std.proofs.Common.{◌≡◌, ℕ, ◌≤◌, List, [], ◌∷◌, map, length, sym, refl, ap, ◌∙◌, subst, arith}
use Rattle.std.proofs.lemmas.List.{get_or_past}
use Rattle.decomposition.specs.Tables.{Node, names, joins, WritesDown, Accepted}
use Rattle.decomposition.proofs.Writing.{written}
use Rattle.graph.specs.Lists.{dimension, lower_of, higher_of}
use Rattle.graph.specs.declared.dimension.Dimension.{Dimension}
use Rattle.plan.specs.Entries.{nodes, steps}
use Rattle.plan.specs.Check.{Completing}
use Rattle.plan.specs.declared.entry.Entry.{Entry}
use Rattle.plan.specs.declared.entry.Entry.TheVariants.{Leaf, Step}
use Rattle.plan.proofs.Exactly.{answer_ok}

-- a table as a plan
abbrev pub entry_of : Node → Entry
entry_of (names d) = Leaf d
entry_of (joins a b c) = Step a b c

pub entries_back : (table : List Node) → nodes (map entry_of table) ≡ table
entries_back [] = refl
entries_back (names d ∷ table) = ap (λ l. names d ∷ l) (entries_back table)
entries_back (joins a b c ∷ table) = ap (λ l. joins a b c ∷ l) (entries_back table)

pub nodes_back : (plan : List Entry) → map entry_of (nodes plan) ≡ plan
nodes_back [] = refl
nodes_back (Leaf d ∷ plan) = ap (λ l. Leaf d ∷ l) (nodes_back plan)
nodes_back (Step a b c ∷ plan) = ap (λ l. Step a b c ∷ l) (nodes_back plan)

-- past the list there is no edge
beyond : (ds : List Dimension) (d : ℕ) → length ds ≤ d → lower_of ds d ≡ higher_of ds d
beyond ds d l = let e = get_or_past ds d (dimension 0 0 0) l in ap (λ (x : Dimension). x.lower) e ∙ sym (ap (λ (x : Dimension). x.higher) e)

pub completing : (ks : List ℕ) (ds : List Dimension) → Completing ks ds
completing ks ds lawful t h =
    let short = lawful.short in
    let w = written (lower_of ds) (higher_of ds) 187 (length ks) (length ds) lawful.proper (omega arith) (beyond ds) t h in
    let plan : List Entry = map entry_of w.0 in
    let back = sym (entries_back w.0) in (
      plan,
      subst (λ l. WritesDown (length ds) l t) back w.1,
      (answer_ok ks ds plan (steps plan)).1 (
        lawful,
        subst (Accepted (lower_of ds) (higher_of ds) 187 (length ks) (length ds)) back w.2,
        refl,
      ),
    )
