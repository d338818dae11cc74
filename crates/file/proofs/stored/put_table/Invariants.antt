use Rattle.std.proofs.Common.{◌≡◌, ◌+◌, ◌*◌, ◌++◌, length, take}
use Rattle.std.specs.List.{flat_map}
use Rattle.file.proofs.stored.put_table.Given as goal

abbrev pub invariant-loop-value : goal.invariant-loop-value
invariant-loop-value g l =
    let t = g.T.Stored in
    (l.file.items ≡ l.initial.file.items ++ flat_map t.written (take l.value-index l.values))
    × (length l.file.items ≡ length l.initial.file.items + t.WIDTH * l.value-index)
