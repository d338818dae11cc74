use Rattle.std.proofs.Common.{◌≡◌, ◌+◌, [], drop, ap, ◌∙◌, rules, tests}
use Rattle.std.proofs.lemmas.Iterator.Search.{position_from_yields_List}
use Rattle.std.proofs.lemmas.List.{take_rest}
use Rattle.graph.proofs.Found.{lowest_position}
use Rattle.file.specs.Files.{bad_entry, entries_at}
use Rattle.file.proofs.Pieces.{pieces, YieldsList-from_pieces, lowest_piece}
use Rattle.file.proofs.layout.Layout.first_bad_entry.Goals as goal

pub returns : goal.returns
returns c =
    let bs = c.args.self.bytes.now in
    let e : drop (c.args.self.entries + 1) bs ≡ drop (entries_at bs + 1) bs = ap (λ p. drop (p + 1) bs) c.args.self.laid.1 in
    position_from_yields_List bad_entry _ _ c.position.result c.position.ensures.ran
    (YieldsList-from_pieces _ (c.chunks_exact.ensures.rest ∙ take_rest bs (c.args.self.entries + 1) ∙ e) c.chunks_exact.ensures.size)
    (λ x b q k. search (rules, tests))
    ∙ lowest_position bad_entry (pieces (drop (entries_at bs + 1) bs)) [] ∙ lowest_piece bs c.requires
