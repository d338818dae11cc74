-- The entries of a plan as those of a table, and what the row on names says.
use Rattle.std.proofs.Common.{◌≡◌, ℕ, ◌<◌, false, List, length, sym, refl, ◌∙◌, subst, arith}
use lib.ListN.{length-map, get_or-map}
use Rattle.std.proofs.lemmas.Bool.Decides.{nat_tests}
use Rattle.decomposition.specs.Tables.{Node, names, joins, node}
use Rattle.graph.specs.Rows.{Clear}
use Rattle.graph.specs.Lists.{lower_of, higher_of}
use Rattle.graph.specs.declared.dimension.Dimension.{Dimension}
use Rattle.plan.specs.Entries.{entry_at, node_of, nodes}
use Rattle.plan.specs.PlanRows.{misnames, misnamed}
use Rattle.plan.specs.declared.entry.Entry.{Entry}
use Rattle.plan.specs.declared.entry.Entry.TheVariants.{Leaf, Step}

-- the ends of every dimension fit a set of elements
abbrev pub Small : List Dimension → Type 0
Small ds = (i : ℕ) → i < length ds → (lower_of ds i < 64) × (higher_of ds i < 64)

-- the table has the plan's entries
pub node_at : (plan : List Entry) (e : ℕ) → node (nodes plan) e ≡ node_of (entry_at plan e)
node_at plan e = get_or-map node_of plan e (Leaf 0)

pub nodes_length : (plan : List Entry) → length (nodes plan) ≡ length plan
nodes_length plan = length-map plan node_of

-- what an entry may name, of m dimensions and at the number e
abbrev pub Fits : ℕ → ℕ → Node → Type 0
Fits m e (names d) = d < m
Fits m e (joins a b c) = (a < b) × (b < c) × (c < e)

fits_from : (m e : ℕ) (x : Entry) → misnames m e x ≡ false → Fits m e (node_of x)
fits_from m e (Leaf d) h = grind (arith, nat_tests)
fits_from m e (Step a b c) h = (grind (arith, nat_tests), grind (arith, nat_tests), grind (arith, nat_tests))

fits_to : (m e : ℕ) (x : Entry) → Fits m e (node_of x) → misnames m e x ≡ false
fits_to m e (Leaf d) h = grind (arith, nat_tests)
fits_to m e (Step a b c) h = let p = h.0 in let q = h.1 in let r = h.2 in grind (arith, nat_tests)

fits_both : (m e : ℕ) (x : Node) → ((d : ℕ) → x ≡ names d → d < m) → ((a b c : ℕ) → x ≡ joins a b c → (a < b) × (b < c) × (c < e))
    → Fits m e x
fits_both m e (names d) p q = p d refl
fits_both m e (joins a b c) p q = q a b c refl

-- where the names of the table are in order no leaf or step misnames
pub names_clear : (ds : List Dimension) (plan : List Entry)
    → ((e d : ℕ) → e < length (nodes plan) → node (nodes plan) e ≡ names d → d < length ds)
    → ((e a b c : ℕ) → e < length (nodes plan) → node (nodes plan) e ≡ joins a b c → (a < b) × (b < c) × (c < e))
    → Clear (length plan) (misnamed ds plan)
names_clear ds plan listed rising e l =
    let same_length = nodes_length plan in
    fits_to (length ds) e (entry_at plan e)
    (subst (Fits (length ds) e) (node_at plan e)
    (fits_both (length ds) e (node (nodes plan) e) (λ d q. listed e d (omega arith) q) (λ a b c q. rising e a b c (omega arith) q)))

module _ (ds : List Dimension) (plan : List Entry) (named : Clear (length plan) (misnamed ds plan)) where
  pub fits : (e : ℕ) → e < length plan → Fits (length ds) e (node_of (entry_at plan e))
  fits e l = fits_from (length ds) e (entry_at plan e) (named e l)

  -- by the entry that stands there
  pub fits_at : (e : ℕ) (x : Entry) → e < length plan → entry_at plan e ≡ x → Fits (length ds) e (node_of x)
  fits_at e x l q = subst (λ y. Fits (length ds) e (node_of y)) q (fits e l)

  -- by the entry of the table
  pub listed : (e d : ℕ) → e < length plan → node (nodes plan) e ≡ names d → d < length ds
  listed e d l q = subst (Fits (length ds) e) (sym (node_at plan e) ∙ q) (fits e l)

  pub rising : (e a b c : ℕ) → e < length plan → node (nodes plan) e ≡ joins a b c → (a < b) × (b < c) × (c < e)
  rising e a b c l q = subst (Fits (length ds) e) (sym (node_at plan e) ∙ q) (fits e l)
