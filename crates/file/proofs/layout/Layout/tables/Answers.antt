use Rattle.std.proofs.Common.{◌≡◌, ◌+◌, ◌++◌, drop, replicate, sym, ap, ◌∙◌, arith, length-drop}
use Rattle.graph.specs.Limits.{most_elements, most_dimensions, most_entries}
use Rattle.graph.specs.Lists.{dimension}
use Rattle.plan.specs.declared.entry.Entry.TheVariants.{Leaf}
use Rattle.file.specs.Files.{byte, dimensions_at, entries_at, get_all, get_dimension, get_entry, held}
use Rattle.file.specs.StoredTypes.{kind_laws, dimension_laws, entry_laws}
use Rattle.file.proofs.Values.{table_read, kinds_read}
use Rattle.file.proofs.WrittenSo.{ends, kinds_long, dimensions_long, plan_long}
use Rattle.file.proofs.Storing.{padded_front}
use Rattle.file.proofs.layout.Layout.tables.Goals as goal

pub returns : goal.returns
returns c =
    let bs = c.args.self.bytes.now in
    let layout = c.args.self in
    let free = c.requires in
    let end = ends bs free in
    let da : layout.dimensions ≡ dimensions_at bs = layout.laid.0 in
    let ea : layout.entries ≡ entries_at bs = layout.laid.1 in
    let kinds = sym (kinds_long bs free) in
    let dimensions = sym (dimensions_long bs free) in
    let entries = sym (plan_long bs free) in
    let k =
    padded_front most_elements 0 _ (held bs).kinds _ (byte bs 3)
    (table_read kind_laws bs 4 (byte bs 3) _ _ _ c.get_table.ensures (omega arith) (omega arith))
    (kinds_read (byte bs 3) (drop 4 bs) (rw length-drop (omega arith))) kinds in
    let d =
    padded_front most_dimensions (dimension 0 0 0) _ (held bs).dimensions _ (byte bs (dimensions_at bs))
    (table_read dimension_laws bs (layout.dimensions + 1) (byte bs (dimensions_at bs)) _ _ _ c.get_table-2.ensures (omega arith) (omega arith)
    ∙ ap (λ u. get_all get_dimension 3 (byte bs (dimensions_at bs)) (drop (layout.dimensions + 1) bs) ++ drop (byte bs (dimensions_at bs)) (replicate most_dimensions u)) c.plain-dimensions.ensures)
    (ap (λ p. get_all get_dimension 3 (byte bs (dimensions_at bs)) (drop (p + 1) bs)) da) dimensions in
    let e =
    padded_front most_entries (Leaf 0) _ (held bs).plan _ (byte bs (entries_at bs))
    (table_read entry_laws bs (layout.entries + 1) (byte bs (entries_at bs)) _ _ _ c.get_table-3.ensures (omega arith) (omega arith))
    (ap (λ p. get_all get_entry 4 (byte bs (entries_at bs)) (drop (p + 1) bs)) ea) entries in
    let n = c.from.ensures ∙ c.byte_at.ensures ∙ kinds in
    let m = c.from-2.ensures ∙ c.byte_at-2.ensures ∙ ap (byte bs) da ∙ dimensions in
    let z = c.from-3.ensures ∙ c.byte_at-3.ensures ∙ ap (byte bs) ea ∙ entries in
    λ i. record { kinds = k i; dimensions = d i; plan = e i; counts = record { elements = n i; dimensions = m i; entries = z i } }
