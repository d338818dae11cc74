-- A file that no row refuses: its counts, and that what it holds is written as that file.
use Rattle.std.proofs.Common.{◌≡◌, ℕ, ◌+◌, ◌-◌, ◌*◌, ◌/◌, ◌%◌, ◌<◌, ◌≤◌, Bool, true, false, ◌&&◌, List, [], ◌∷◌, ◌++◌, length, take, drop, None, sym, refl, ap, ◌∙◌, subst, arith, length-drop, take-append-drop}
use Rattle.std.specs.List.{flat_map}
use Rattle.std.proofs.lemmas.List.{drop-drop, drop_more, take_all, length-take-le}
use Rattle.std.proofs.lemmas.Bool.{eqb-true, not-false, ltb-false, lt-ltb, or_parts}
use Rattle.graph.specs.Rows.{first_refusal, AllClear}
use Rattle.graph.proofs.Reading.{none_clear}
use Rattle.graph.proofs.Told.{answered_ok}
use Rattle.file.specs.FileLimits.{version, fewest_kinds, most_kinds, fewest_file_entries, most_file_entries, most_file_dimensions, byte_values}
use Rattle.file.specs.Files.{dimension_bytes, entry_bytes, body, framed, write, byte, Bytes, get_dimension, get_entry}
use Rattle.file.specs.Files.{dimensions_at, entries_at, end_at, count_at, bad_count, bad_entry, file_rows, held}
use Rattle.file.specs.FileLaws.{WrittenSo}
use Rattle.file.proofs.Values.{length_get_all, put_get, put_get_dimension, put_get_entry}

front_three : (bs : List ℕ) → 3 ≤ length bs → bs ≡ byte bs 0 ∷ byte bs 1 ∷ byte bs 2 ∷ drop 3 bs
front_three [] h = absurd (omega arith)
front_three (a ∷ []) h = absurd (omega arith)
front_three (a ∷ b ∷ []) h = absurd (omega arith)
front_three (a ∷ b ∷ c ∷ bs) h = refl

rejoined : (n p : ℕ) (bs : List ℕ) → take n (drop p bs) ++ drop (p + n) bs ≡ drop p bs
rejoined n p bs = ap (λ l. take n (drop p bs) ++ l) (sym (drop-drop n p bs)) ∙ take-append-drop n (drop p bs)

after_true : (x y : Bool) → x ≡ true → (x && y) ≡ false → y ≡ false
after_true x y e h = subst (λ b. (b && y) ≡ false) e h

module _ (bs : List ℕ) (free : first_refusal (file_rows bs) ≡ None) where
  abbrev da : ℕ
  da = dimensions_at bs

  abbrev ea : ℕ
  ea = entries_at bs

  clear : AllClear (file_rows bs)
  clear = none_clear (file_rows bs) free

  long : 3 ≤ length bs
  long = ltb-false _ _ (clear.0 0 (omega arith))

  is_version : byte bs 0 ≡ version
  is_version = eqb-true _ _ (not-false _ (clear.1.0 0 (omega arith)))

  counted : byte bs 1 * byte_values + byte bs 2 ≡ length bs - 3
  counted = eqb-true _ _ (not-false _ (clear.1.1.0 0 (omega arith)))

  pub ends : end_at bs ≡ length bs
  ends = eqb-true _ _ (not-false _ (clear.1.1.1.1.0 0 (omega arith)))

  -- a count that the file has is within its range
  in_range : (k : ℕ) → k < 3 → count_at bs k < length bs → bad_count k (byte bs (count_at bs k)) ≡ false
  in_range k h lt = after_true _ _ (lt-ltb _ _ lt) (clear.1.1.1.0 k h)

  pub kinds_range : (fewest_kinds ≤ byte bs 3) × (byte bs 3 ≤ most_kinds)
  kinds_range =
      let z = or_parts _ _ (in_range 0 (omega arith) (omega (arith, ends))) in
      (ltb-false _ _ z.0, ltb-false _ _ z.1)

  pub dimensions_range : byte bs da ≤ most_file_dimensions
  dimensions_range = ltb-false _ _ (in_range 1 (omega arith) (omega (arith, ends)))

  pub entries_range : (fewest_file_entries ≤ byte bs ea) × (byte bs ea ≤ most_file_entries)
  entries_range =
      let z = or_parts _ _ (in_range 2 (omega arith) (omega (arith, ends))) in
      (ltb-false _ _ z.0, ltb-false _ _ z.1)

  -- the lengths of what it holds
  pub kinds_long : length (held bs).kinds ≡ byte bs 3
  kinds_long = length-take-le (byte bs 3) (drop 4 bs) (rw length-drop (omega (arith, ends)))

  pub dimensions_long : length (held bs).dimensions ≡ byte bs da
  dimensions_long = length_get_all get_dimension 3 (byte bs da) (drop (da + 1) bs)

  pub plan_long : length (held bs).plan ≡ byte bs ea
  plan_long = length_get_all get_entry 4 (byte bs ea) (drop (ea + 1) bs)

  entries_back : flat_map entry_bytes (held bs).plan ≡ drop (ea + 1) bs
  entries_back =
      put_get entry_bytes get_entry 4 (λ l. bad_entry l ≡ false) put_get_entry (byte bs ea) (drop (ea + 1) bs)
      (rw length-drop (omega (arith, ends)))
      (λ i lt. ap bad_entry (drop-drop (4 * i) (ea + 1) bs) ∙ clear.1.1.1.1.1.0 i lt)
      ∙ take_all (4 * byte bs ea) (drop (ea + 1) bs) (rw length-drop (omega (arith, ends)))

  dimensions_back : flat_map dimension_bytes (held bs).dimensions ≡ take (3 * byte bs da) (drop (da + 1) bs)
  dimensions_back =
      put_get dimension_bytes get_dimension 3 (λ _. Unit {0}) put_get_dimension (byte bs da) (drop (da + 1) bs)
      (rw length-drop (omega (arith, ends)))
      (λ _ _. tt)

  -- a byte before what stands behind it
  before : (p : ℕ) → p < length bs → byte bs p ∷ drop (p + 1) bs ≡ drop p bs
  before p h = sym (drop_more bs p 0 h)

  body_back : body (held bs) ≡ drop 3 bs
  body_back =
      let es = entries_back in
      let ds = dimensions_back in
      let e1 = before ea (omega (arith, ends)) in
      let e2 = rejoined (3 * byte bs da) (da + 1) bs in
      let e3 = before da (omega (arith, ends)) in
      let e4 = rejoined (byte bs 3) 4 bs in
      let e5 = before 3 (omega (arith, ends)) in
      rw (kinds_long, dimensions_long, plan_long, es, e1, ds, e2, e3, e4, e5)

  framed_back : byte bs 2 < byte_values → framed (drop 3 bs) ≡ bs
  framed_back low =
      let n : length (drop 3 bs) ≡ byte bs 1 * byte_values + byte bs 2 = length-drop 3 bs ∙ sym counted in
      let hi : length (drop 3 bs) / byte_values ≡ byte bs 1 = omega arith in
      let lo : length (drop 3 bs) % byte_values ≡ byte bs 2 = omega arith in
      let v : version ≡ byte bs 0 = sym is_version in
      (λ i. v i ∷ hi i ∷ lo i ∷ drop 3 bs) ∙ sym (front_three bs long)

  pub held_written : Bytes bs → write (held bs) ≡ bs
  held_written bytes = ap framed body_back ∙ framed_back (bytes 2)

pub write_read : WrittenSo
write_read bs c bytes e =
    let got = answered_ok (first_refusal (file_rows bs)) (held bs) c e in
    ap write (sym got.1) ∙ held_written bs got.0 bytes
