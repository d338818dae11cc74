-- Contents that check accepts are contents that a file can hold.
use Rattle.std.proofs.Common.{◌≡◌, ℕ, ◌<◌, ◌≤◌, length, None, arith}
use Rattle.graph.specs.Rows.{first_refusal}
use Rattle.graph.proofs.Told.{answered_ok}
use Rattle.plan.specs.Entries.{entry_at, node_of, steps}
use Rattle.plan.specs.declared.entry.Entry.{Entry}
use Rattle.plan.specs.declared.entry.Entry.TheVariants.{Leaf, Step}
use Rattle.plan.proofs.Naming.{Fits, nodes_length, names_clear, fits}
use Rattle.plan.proofs.Exactly.{answer_ok}
use Rattle.file.specs.Contents.{Contents, largest, Within}
use Rattle.sketch.specs.Keeping.{contents_rows, Accepted}

-- no row refuses them
pub none_refuses : (c : Contents) → Accepted c → first_refusal (contents_rows c) ≡ None
none_refuses c h = (answered_ok (first_refusal (contents_rows c)) (steps c.plan) (steps c.plan) h).0

-- an entry that names what it may has small numbers
small_numbers : (m e : ℕ) (x : Entry) → m ≤ 125 → e < 187 → Fits m e (node_of x) → largest x < 256
small_numbers m e (Leaf d) p q h = omega arith
small_numbers m e (Step a b c) p q h = let r = h.0 in let s = h.1 in let t = h.2 in omega arith

pub accepted_within : (c : Contents) → Accepted c → Within c
accepted_within c h =
    let rules = (answer_ok c.kinds c.dimensions c.plan (steps c.plan)).0 h in
    let lawful = rules.0 in
    let order = rules.1.in_order in
    let long = nodes_length c.plan in
    let short = rules.1.short in
    let some = order.some in
    record {
      enough_kinds = lawful.enough;
      few_kinds = lawful.few;
      few_dimensions = lawful.short;
      enough_entries = omega arith;
      few_entries = omega arith;
      numbers = λ e l.
          small_numbers (length c.dimensions) e (entry_at c.plan e) lawful.short (omega arith)
          (fits c.dimensions c.plan (names_clear c.dimensions c.plan order.listed order.rising) e l);
    }
