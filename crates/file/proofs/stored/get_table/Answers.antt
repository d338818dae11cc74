use Rattle.std.proofs.Common.{◌≡◌, ◌+◌, ◌*◌, ◌++◌, length, take, drop, set, sym, ap, ◌∙◌, append-nil, add-zero, arith, length-set, length-append, take-append-drop}
use Rattle.std.proofs.lemmas.List.{take_more_set, drop-set-lt, drop-drop, length_push}
use Rattle.std.specs.Slice.Iter.{chunks_exact_rest}
use Rattle.file.specs.Files.{get_all}
use Rattle.file.proofs.Values.{room_left, same_count, left_more, read_more}
use Rattle.file.proofs.stored.get_table.Goals as goal

pub loop-value-preserved : goal.loop-value-preserved
loop-value-preserved g c =
    let w = g.T.Stored.WIDTH in
    let l = c.loop-value in
    let held = l.invariant in
    let items = take l.count l.table in
    let more = take (l.count + 1) (set l.table l.count c.get.result) in
    let left = chunks_exact_rest l.value-iterator in
    let rest = chunks_exact_rest c.next.new.self in
    let piece = c.in-Some.value.now in
    let step = c.in-Some.ensures.steps in
    let wide = step.1.1 ∙ held.0 in
    let count : length items ≡ l.count = held.3 in
    let behind : drop l.count l.table ≡ drop l.count c.args.table.now = held.4 in
    let long : length l.table ≡ length c.args.table.now = held.5 in
    let room = room_left w (length l.table) (length items) (length left) (length c.args.bytes.now) g.met.T.Stored.laws.some held.1
    (omega (arith, ap (λ n. w * n) long, c.requires)) (omega (arith, ap length step.1.0, length-append piece rest)) in
    let one = take_more_set l.table l.count c.get.result (omega arith) in (
      step.0 ∙ held.0,
      left_more w left piece rest items more c.get.result step.1.0 wide one ∙ held.1,
      read_more g.met.T.Stored.laws c.args.bytes.now left piece rest items more c.get.result held.2 step.1.0 wide c.get.ensures one,
      ap length one ∙ length_push items c.get.result ∙ omega arith,
      drop-set-lt (l.count + 1) l.table l.count c.get.result (omega arith)
          ∙ sym (drop-drop 1 l.count l.table) ∙ ap (drop 1) behind ∙ drop-drop 1 l.count c.args.table.now,
      length-set l.table l.count c.get.result ∙ long,
    )

pub returns : goal.returns
returns g c =
    let t = g.T.Stored in
    let l = c.loop-value in
    let held = l.invariant in
    let items = take l.count l.table in
    let left = chunks_exact_rest l.value-iterator in
    let step = c.in-None.ensures.steps in
    λ n h.
    let same : length items ≡ n = same_count t.WIDTH (length items) n (length left) (omega arith) (held.1 ∙ h) in
    let count : l.count ≡ n = sym held.3 ∙ same in
    let front : items ≡ get_all t.read t.WIDTH n c.args.bytes.now =
    sym (append-nil items) ∙ sym (held.2 0) ∙ ap (λ m. get_all t.read t.WIDTH m c.args.bytes.now) (add-zero (length items) ∙ same) in
    sym (take-append-drop l.count l.table) ∙ (λ i. front i ++ held.4 i) ∙ ap (λ m. get_all t.read t.WIDTH n c.args.bytes.now ++ drop m c.args.table.now) count
