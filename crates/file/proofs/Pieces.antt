-- The entries of a file as pieces of four bytes, and the first that is none.
use Rattle.std.proofs.Common.{◌≡◌, ℕ, suc, ◌+◌, ◌*◌, ◌/◌, ◌<◌, Some, List, [], ◌∷◌, ◌++◌, length, get_or, take, drop, sym, refl, ap, ◌∙◌, subst, arith, length-append, length-drop}
use Rattle.std.specs.Slice.Iter.{chunks_exact_rest, chunks_exact_size, chunks_exact_steps}
use Rattle.std.proofs.lemmas.Iterator.{YieldsList}
use Rattle.std.proofs.lemmas.Iterator.Splits.{YieldsList-from_shown_while}
use Rattle.std.proofs.lemmas.List.{take_at, drop_at, drop-drop}
use denote.Ref.{Bor}
use Rattle.graph.specs.Rows.{lowest}
use Rattle.decomposition.proofs.Lowest.{Says, lowest_says, lowest_agree}
use Rattle.file.specs.Files.{byte, get_all, bad_entry, entries_at, end_at, wrong_entry}
use Rattle.file.proofs.Values.{length_get_all, get_all_at}

-- the pieces of four bytes
abbrev pub pieces : List ℕ → List (List ℕ)
pieces bs = get_all (take 4) 4 (length bs / 4) bs

piece_more : (x r : List ℕ) → length x ≡ 4 → pieces (x ++ r) ≡ x ∷ pieces r
piece_more x r h =
    let n : length (x ++ r) / 4 ≡ suc (length r / 4) = omega (arith, length-append x r) in
    rw (n, take_at x r 4 h, drop_at x r 4 h)

pub YieldsList-from_pieces : {s : _} (bs : List ℕ) → chunks_exact_rest s ≡ bs → chunks_exact_size s ≡ 4
    → YieldsList (chunks_exact_steps {A = ℕ}) (λ x. x.now) s (pieces bs)
YieldsList-from_pieces {s} bs rest size =
    subst (λ l. YieldsList chunks_exact_steps (λ (x : Bor (List ℕ)). x.now) s (pieces l)) rest
    (YieldsList-from_shown_while chunks_exact_steps (λ (x : Bor (List ℕ)). x.now) (λ t. pieces (chunks_exact_rest t)) (λ t. chunks_exact_size t ≡ 4)
    (λ t u size e. length_get_all (take 4) 4 _ _ ∙ omega arith)
    (λ t x u size e. (e.0 ∙ size, ap pieces e.1.0 ∙ piece_more x.now (chunks_exact_rest u) (e.1.1 ∙ size)))
    s size)

bad_front : (e : List ℕ) → bad_entry (take 4 e) ≡ bad_entry e
bad_front [] = refl
bad_front (a ∷ []) = refl
bad_front (a ∷ b ∷ []) = refl
bad_front (a ∷ b ∷ c ∷ []) = refl
bad_front (a ∷ b ∷ c ∷ d ∷ e) = refl

-- the first piece that is no entry, where the file ends as it should
pub lowest_piece : (bs : List ℕ) → end_at bs ≡ length bs
    → (let ps = pieces (drop (entries_at bs + 1) bs) in lowest (length ps) (λ i. bad_entry (get_or ps i []))) ≡ lowest (byte bs (entries_at bs)) (wrong_entry bs)
lowest_piece bs ends =
    let first = entries_at bs + 1 in
    let n : length (drop first bs) / 4 ≡ byte bs (entries_at bs) = omega (arith, length-drop first bs) in
    let ps = pieces (drop first bs) in
    ap (λ k. lowest k (λ i. bad_entry (get_or ps i []))) (length_get_all (take 4) 4 (length (drop first bs) / 4) (drop first bs) ∙ n)
    ∙ lowest_agree (byte bs (entries_at bs)) (λ i. bad_entry (get_or ps i [])) (wrong_entry bs) (λ k (l : k < byte bs (entries_at bs)).
    ap bad_entry (get_all_at (take 4) 4 (length (drop first bs) / 4) (drop first bs) k [] (omega arith))
    ∙ bad_front (drop (4 * k) (drop first bs)) ∙ ap bad_entry (drop-drop (4 * k) first bs))

-- a bad entry is one of those that are counted
pub bad_below : (bs : List ℕ) (e : ℕ) → Some e ≡ lowest (byte bs (entries_at bs)) (wrong_entry bs) → e < byte bs (entries_at bs)
bad_below bs e h = (subst (Says (byte bs (entries_at bs)) (wrong_entry bs)) (sym h) (lowest_says (byte bs (entries_at bs)) (wrong_entry bs))).0
