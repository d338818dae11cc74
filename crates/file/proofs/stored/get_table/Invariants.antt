use Rattle.std.proofs.Common.{◌≡◌, ℕ, ◌+◌, ◌*◌, ◌++◌, length, take, drop}
use Rattle.std.specs.Slice.Iter.{chunks_exact_rest, chunks_exact_size}
use Rattle.file.specs.Files.{get_all}
use Rattle.file.proofs.stored.get_table.Given as goal

abbrev pub invariant-loop-value : goal.invariant-loop-value
invariant-loop-value g l =
    let t = g.T.Stored in
    let rest = chunks_exact_rest l.value-iterator in
    let items = take l.count l.table in
    (chunks_exact_size l.value-iterator ≡ t.WIDTH)
    × (t.WIDTH * length items + length rest ≡ length l.bytes)
    × ((k : ℕ) → get_all t.read t.WIDTH (length items + k) l.bytes ≡ items ++ get_all t.read t.WIDTH k rest)
    × (length items ≡ l.count)
    × (drop l.count l.table ≡ drop l.count l.initial.table)
    × (length l.table ≡ length l.initial.table)
