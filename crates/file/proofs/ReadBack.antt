-- What is written within the limits is read back.
use Rattle.std.proofs.Common.{◌≡◌, ℕ, zero, suc, ◌+◌, ◌*◌, ◌<◌, ◌≤◌, false, List, [], ◌∷◌, ◌++◌, length, take, drop, sym, refl, ap, ◌∙◌, append_assoc, append-nil, arith, length-append}
use Rattle.std.specs.List.{flat_map}
use Rattle.std.proofs.lemmas.List.{get_or_at, drop_at, take_at, drop-drop}
use Rattle.std.proofs.lemmas.Bool.{eq-eqb, le-ltb, not_from_true, or_from, and_right}
use Rattle.graph.specs.Rows.{answered, AllClear}
use Rattle.graph.specs.declared.dimension.Dimension.{Dimension}
use Rattle.graph.proofs.Reading.{clear_none}
use Rattle.plan.specs.declared.entry.Entry.{Entry}
use Rattle.file.specs.FileLimits.{fewest_file_entries, most_file_entries, most_file_dimensions}
use Rattle.file.specs.Contents.{Contents, holding, Within}
use Rattle.file.specs.Files.{dimension_bytes, entry_bytes, write, byte, get_dimension, get_entry, get_all}
use Rattle.file.specs.Files.{dimensions_at, entries_at, end_at, bad_entry, wrong_count, file_rows, held}
use Rattle.file.specs.FileLaws.{ReadBack}
use Rattle.file.specs.StoredTypes.{dimension_laws, entry_laws}
use Rattle.file.proofs.Values.{length_joined, get_put, good_entries}

drop_past : (l r : List ℕ) (x p : ℕ) → length l ≡ p → drop (p + 1) (l ++ x ∷ r) ≡ r
drop_past l r x p e = sym (drop-drop 1 p (l ++ x ∷ r)) ∙ ap (drop 1) (drop_at l (x ∷ r) p e)

module _ (c : Contents) where
  abbrev ks : List ℕ
  ks = c.kinds

  abbrev ds : List Dimension
  ds = c.dimensions

  abbrev es : List Entry
  es = c.plan

  abbrev D : List ℕ
  D = flat_map dimension_bytes ds

  abbrev E : List ℕ
  E = flat_map entry_bytes es

  abbrev bs : List ℕ
  bs = write c

  -- the bytes before the second count, and before the third
  abbrev head2 : List ℕ
  head2 = take 3 bs ++ (length ks ∷ ks)

  abbrev head3 : List ℕ
  head3 = head2 ++ (length ds ∷ D)

  lengths : (length D ≡ 3 * length ds) × (length E ≡ 4 * length es)
  lengths = (length_joined dimension_laws ds, length_joined entry_laws es)

  len2 : length head2 ≡ dimensions_at bs
  len2 = omega arith

  at2 : byte bs (dimensions_at bs) ≡ length ds
  at2 = get_or_at head2 (length ds) (D ++ (length es ∷ E)) 0 (dimensions_at bs) len2

  drop2 : drop (dimensions_at bs + 1) bs ≡ D ++ (length es ∷ E)
  drop2 = drop_past head2 (D ++ (length es ∷ E)) (length ds) (dimensions_at bs) len2

  split3 : bs ≡ head3 ++ (length es ∷ E)
  split3 = sym (append_assoc head2 (length ds ∷ D) (length es ∷ E))

  len3 : length head3 ≡ entries_at bs
  len3 = length-append head2 (length ds ∷ D) ∙ omega (arith, at2, lengths.0, len2)

  at3 : byte bs (entries_at bs) ≡ length es
  at3 = ap (λ l. byte l (entries_at bs)) split3 ∙ get_or_at head3 (length es) E 0 (entries_at bs) len3

  drop3 : drop (entries_at bs + 1) bs ≡ E
  drop3 = ap (drop (entries_at bs + 1)) split3 ∙ drop_past head3 E (length es) (entries_at bs) len3

  end3 : end_at bs ≡ length bs
  end3 = sym (ap length split3 ∙ length-append head3 (length es ∷ E) ∙ omega (arith, at3, len3, lengths.1))

  held_back : held bs ≡ c
  held_back =
      let k : (held bs).kinds ≡ ks = take_at ks (length ds ∷ (D ++ (length es ∷ E))) (length ks) refl in
      let d : (held bs).dimensions ≡ ds =
      (λ i. get_all get_dimension 3 (at2 i) (drop2 i)) ∙ get_put dimension_laws ds (length es ∷ E) in
      let e : (held bs).plan ≡ es =
      (λ i. get_all get_entry 4 (at3 i) ((drop3 ∙ sym (append-nil E)) i)) ∙ get_put entry_laws es [] in
      λ i. holding (k i) (d i) (e i)

  counts_clear : Within c → (k : ℕ) → k < 3 → wrong_count bs k ≡ false
  counts_clear h zero lt = and_right _ _ (or_from _ _ (le-ltb _ _ h.enough_kinds) (le-ltb _ _ h.few_kinds))
  counts_clear h (suc zero) lt = and_right _ _ (le-ltb most_file_dimensions (byte bs (dimensions_at bs)) (omega (arith, at2, h.few_dimensions)))
  counts_clear h (suc (suc k)) lt =
      let few : fewest_file_entries ≤ byte bs (entries_at bs) = omega (arith, at3, h.enough_entries) in
      let most : byte bs (entries_at bs) ≤ most_file_entries = omega (arith, at3, h.few_entries) in
      and_right _ _ (or_from _ _ (le-ltb _ _ few) (le-ltb _ _ most))

  entries_clear : (i : ℕ) → i < byte bs (entries_at bs) → bad_entry (drop (entries_at bs + 1 + 4 * i) bs) ≡ false
  entries_clear i lt =
      ap bad_entry (sym (drop-drop (4 * i) (entries_at bs + 1) bs) ∙ ap (drop (4 * i)) drop3) ∙ good_entries es i (omega (arith, at3))

  all_clear : Within c → AllClear (file_rows bs)
  all_clear h = (
    λ _ _. le-ltb (length bs) 3 (omega arith),
    (
      λ _ _. refl,
      (
        λ _ _. not_from_true _ (eq-eqb _ _ (omega arith)),
        (
          counts_clear h,
          (
            λ _ _. not_from_true _ (eq-eqb _ _ end3),
            (entries_clear, tt),
          ),
        ),
      ),
    ),
  )

pub read_write : ReadBack
read_write c h = λ i. answered (clear_none (file_rows (write c)) (all_clear c h) i) (held_back c i)
