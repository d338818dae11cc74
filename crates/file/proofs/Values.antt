-- Tables of values of w bytes each: what is written is read back, and what is read was written.
use Rattle.std.proofs.Common.{◌≡◌, ℕ, zero, suc, ◌+◌, ◌*◌, ◌<◌, ◌≤◌, false, ltb, List, [], ◌∷◌, ◌++◌, length, get_or, take, drop, sym, refl, ap, ◌∙◌, subst, append_assoc, mul-zero, mul-suc, arith, length-append, length-drop, take-add, take-take}
use Rattle.std.specs.List.{flat_map}
use Rattle.std.proofs.Math.Nat.{lt_of_mul-lt-mul_left, le_of_mul-le-mul_left}
use Rattle.std.proofs.lemmas.List.{drop-drop, drop-take, take_at, drop_at, length_push, length-take-le}
use Rattle.std.proofs.lemmas.Bool.{eqb-true, not-false, ltb-false, or_parts, and_parts}
use Rattle.plan.specs.declared.entry.Entry.{Entry}
use Rattle.plan.specs.declared.entry.Entry.TheVariants.{Leaf, Step}
use Rattle.file.specs.Files.{dimension_bytes, entry_bytes, get_dimension, get_entry, get_all, bad_entry}
use Rattle.file.specs.Stored.{StoredLaws, kind_bytes, get_kind}
use Rattle.file.specs.StoredTypes.{entry_laws}

-- how many values are read, and how many bytes are written

pub length_get_all : {X : Type 0} (get : List ℕ → X) (w n : ℕ) (bs : List ℕ) → length (get_all get w n bs) ≡ n
length_get_all get w zero bs = refl
length_get_all get w (suc n) bs = ap suc (length_get_all get w n (drop w bs))

-- each of the values that are read
pub get_all_at : {X : Type 0} (get : List ℕ → X) (w n : ℕ) (bs : List ℕ) (i : ℕ) (d : X) → i < n → get_or (get_all get w n bs) i d ≡ get (drop (w * i) bs)
get_all_at get w zero bs i d h = absurd (omega arith)
get_all_at get w (suc n) bs zero d h = rw mul-zero
get_all_at get w (suc n) bs (suc i) d h =
    let s : w * suc i ≡ w + w * i = omega (arith, mul-suc w i) in
    get_all_at get w n (drop w bs) i d (omega arith) ∙ ap get (drop-drop (w * i) w bs ∙ ap (λ k. drop k bs) (sym s))

-- how many values there are

pub room_left : (w n len left all : ℕ) → 0 < w → w * len + left ≡ all → all ≤ w * n → w ≤ left → len < n
room_left w n len left all p e h l = lt_of_mul-lt-mul_left w (omega arith)

pub same_count : (w a b left : ℕ) → left < w → w * a + left ≡ w * b → a ≡ b
same_count w a b left l e =
    let m = mul-suc w a in
    let low : a ≤ b = le_of_mul-le-mul_left {k = w} (omega arith) (omega arith) in
    let high : b < suc a = lt_of_mul-lt-mul_left w (omega arith) in
    omega arith

-- how many bytes are left behind a value more
pub left_more : {X : Type 0} (w : ℕ) (left piece rest : List ℕ) (xs ys : List X) (x : X)
    → left ≡ piece ++ rest → length piece ≡ w → ys ≡ xs ++ x ∷ [] → w * length ys + length rest ≡ w * length xs + length left
left_more w left piece rest xs ys x parts len is =
    let n : length ys ≡ suc (length xs) = omega (arith, ap length is, length_push xs x) in
    omega (arith, ap (λ k. w * k) n, mul-suc w (length xs), ap length parts, length-append piece rest)

-- kinds are their bytes
pub kinds_read : (n : ℕ) (bs : List ℕ) → n ≤ length bs → get_all get_kind 1 n bs ≡ take n bs
kinds_read zero bs h = refl
kinds_read (suc n) [] h = absurd (omega arith)
kinds_read (suc n) (b ∷ bs) h = ap (λ l. b ∷ l) (kinds_read n bs (omega arith))

pub kinds_joined : (ks : List ℕ) → flat_map kind_bytes ks ≡ ks
kinds_joined [] = refl
kinds_joined (k ∷ ks) = ap (λ l. k ∷ l) (kinds_joined ks)

module _ {X : Type 0} {w : ℕ} {put : X → List ℕ} {get : List ℕ → X} (laws : StoredLaws w put get) where
  -- how many bytes are written
  pub length_joined : (xs : List X) → length (flat_map put xs) ≡ w * length xs
  length_joined [] = sym (mul-zero w)
  length_joined (x ∷ xs) = rw (length-append, mul-suc) (omega (arith, laws.long x, length_joined xs))

  -- what is written is read back
  pub get_put : (xs : List X) (r : List ℕ) → get_all get w (length xs) (flat_map put xs ++ r) ≡ xs
  get_put [] r = refl
  get_put (x ∷ xs) r =
      let more = flat_map put xs ++ r in
      let one : get (put x ++ more) ≡ x = sym (laws.front (put x ++ more)) ∙ ap get (take_at (put x) more w (laws.long x)) ∙ laws.back x in
      rw (append_assoc, one, drop_at (put x) more w (laws.long x), get_put xs r)

  -- a value more is read, from a piece in front of those that are left
  pub read_more : (all left piece rest : List ℕ) (xs ys : List X) (x : X)
      → ((k : ℕ) → get_all get w (length xs + k) all ≡ xs ++ get_all get w k left)
      → left ≡ piece ++ rest → length piece ≡ w → x ≡ get piece → ys ≡ xs ++ x ∷ []
      → (k : ℕ) → get_all get w (length ys + k) all ≡ ys ++ get_all get w k rest
  read_more all left piece rest xs ys x so_far parts len got is k =
      let n : length ys + k ≡ length xs + suc k = omega (arith, ap length is, length_push xs x) in
      let first : get left ≡ x = ap get parts ∙ sym (laws.front (piece ++ rest)) ∙ ap get (take_at piece rest w len) ∙ sym got in
      let later : drop w left ≡ rest = ap (drop w) parts ∙ drop_at piece rest w len in
      ap (λ m. get_all get w m all) n ∙ so_far (suc k) ∙ (λ i. xs ++ (first i ∷ get_all get w k (later i)))
      ∙ sym (append_assoc xs (x ∷ []) (get_all get w k rest)) ∙ ap (λ l. l ++ get_all get w k rest) (sym is)

  -- only the bytes of the values are read
  get_all_front : (n : ℕ) (bs : List ℕ) → get_all get w n (take (w * n) bs) ≡ get_all get w n bs
  get_all_front zero bs = refl
  get_all_front (suc n) bs =
      let s : w * suc n ≡ w + w * n = omega (arith, mul-suc w n) in
      let first : get (take (w + w * n) bs) ≡ get bs =
      sym (laws.front (take (w + w * n) bs)) ∙ ap get (take-take w (w + w * n) bs (omega arith)) ∙ laws.front bs in
      rw (s, first, drop-take, get_all_front n (drop w bs))

  -- a table is read from its bytes, m of them, to the front of another
  pub table_read : (bs : List ℕ) (p n m : ℕ) (xs old : List X)
      → ((k : ℕ) → length (take m (drop p bs)) ≡ w * k → xs ≡ get_all get w k (take m (drop p bs)) ++ drop k old)
      → m ≡ w * n → p + m ≤ length bs → xs ≡ get_all get w n (drop p bs) ++ drop n old
  table_read bs p n m xs old said e h =
      let bytes : get_all get w n (take m (drop p bs)) ≡ get_all get w n (drop p bs) =
      ap (λ j. get_all get w n (take j (drop p bs))) e ∙ get_all_front n (drop p bs) in
      said n (length-take-le m (drop p bs) (rw length-drop (omega arith)) ∙ e) ∙ ap (λ l. l ++ drop n old) bytes

module _ {X : Type 0} (put : X → List ℕ) (get : List ℕ → X) (w : ℕ) where
  -- what is read was written, where each value passes
  pub put_get : (ok : List ℕ → Type 0) → ((bs : List ℕ) → w ≤ length bs → ok bs → put (get bs) ≡ take w bs)
      → (n : ℕ) (bs : List ℕ) → w * n ≤ length bs → ((i : ℕ) → i < n → ok (drop (w * i) bs))
      → flat_map put (get_all get w n bs) ≡ take (w * n) bs
  put_get ok one zero bs h k = rw mul-zero
  put_get ok one (suc n) bs h k =
      let e = mul-suc w n in
      let first : ok bs = subst (λ j. ok (drop j bs)) (mul-zero w) (k 0 (omega arith)) in
      let later : (i : ℕ) → i < n → ok (drop (w * i) (drop w bs)) =
      λ i lt. let s : w * suc i ≡ w + w * i = omega (arith, mul-suc w i) in rw (drop-drop, sym s) (k (suc i) (omega arith)) in
      let rest = put_get ok one n (drop w bs) (rw length-drop (omega arith)) later in
      let sum : w * suc n ≡ w + w * n = omega arith in
      rw (sum, take-add, one bs (omega arith) first, rest)

-- one dimension

pub put_get_dimension : (bs : List ℕ) → 3 ≤ length bs → Unit {0} → dimension_bytes (get_dimension bs) ≡ take 3 bs
put_get_dimension [] h k = absurd (omega arith)
put_get_dimension (a ∷ []) h k = absurd (omega arith)
put_get_dimension (a ∷ b ∷ []) h k = absurd (omega arith)
put_get_dimension (a ∷ b ∷ c ∷ bs) h k = refl

-- one entry

pub put_get_entry : (bs : List ℕ) → 4 ≤ length bs → bad_entry bs ≡ false → entry_bytes (get_entry bs) ≡ take 4 bs
put_get_entry [] h k = absurd (omega arith)
put_get_entry (a ∷ []) h k = absurd (omega arith)
put_get_entry (a ∷ b ∷ []) h k = absurd (omega arith)
put_get_entry (a ∷ b ∷ c ∷ []) h k = absurd (omega arith)
put_get_entry (zero ∷ b ∷ c ∷ d ∷ bs) h k =
    let z = and_parts _ _ (not-false _ k) in
    let p : 0 ≡ c = sym (eqb-true c 0 z.0) in
    let q : 0 ≡ d = sym (eqb-true d 0 z.1) in
    λ i. 0 ∷ b ∷ p i ∷ q i ∷ []
put_get_entry (suc zero ∷ b ∷ c ∷ d ∷ bs) h k = refl
put_get_entry (suc (suc a) ∷ b ∷ c ∷ d ∷ bs) h k =
    let le = ltb-false 1 (suc (suc a)) (or_parts (ltb 1 (suc (suc a))) _ k).0 in
    absurd (omega arith)

-- what is written passes
pub good_entries : (es : List Entry) (i : ℕ) → i < length es → bad_entry (drop (4 * i) (flat_map entry_bytes es)) ≡ false
good_entries [] i h = absurd (omega arith)
good_entries (Leaf d ∷ es) zero h = refl
good_entries (Step a b c ∷ es) zero h = refl
good_entries (e ∷ es) (suc i) h =
    let s : 4 * suc i ≡ 4 + 4 * i = omega arith in
    rw (s, sym (drop-drop (4 * i) 4 (flat_map entry_bytes (e ∷ es))), drop_at (entry_bytes e) (flat_map entry_bytes es) 4 (entry_laws.long e)) (good_entries es i (omega arith))
