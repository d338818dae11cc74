-- Contents at the front of arrays, and what a file that no row refuses holds.
use Rattle.std.proofs.Common.{◌≡◌, ℕ, zero, suc, ◌+◌, ◌-◌, ◌<◌, ◌≤◌, true, false, cond, eqb, List, ◌++◌, length, get_or, drop, replicate, None, Ok, Err, Result, sym, refl, ap, ◌∙◌, subst, arith, length-append}
use Rattle.std.proofs.lemmas.List.{get_or-drop, take_at, drop-replicate, length-replicate}
use Rattle.graph.specs.Limits.{most_elements, most_dimensions, most_entries}
use Rattle.graph.specs.Rows.{first_refusal}
use Rattle.graph.specs.declared.refusal.Refusal.{Refusal}
use Rattle.plan.specs.declared.entry.Entry.TheVariants.{Leaf, Step}
use Rattle.file.specs.FileLimits.{byte_values}
use Rattle.file.specs.Contents.{Contents, holding, largest, Within, contents, padded, stored}
use Rattle.file.specs.Files.{byte, Bytes, get_entry, get_all, entries_at, file_rows, held, read, write, stored_answer}
use Rattle.file.specs.declared.tables.Tables.{Tables}
use Rattle.file.proofs.WrittenSo.{kinds_range, dimensions_range, entries_range, kinds_long, dimensions_long, plan_long, held_written}

pub contents_stored : (c : Contents) → contents (stored c) ≡ c
contents_stored c =
    let k : (contents (stored c)).kinds ≡ c.kinds = take_at c.kinds _ _ refl in
    let d : (contents (stored c)).dimensions ≡ c.dimensions = take_at c.dimensions _ _ refl in
    let e : (contents (stored c)).plan ≡ c.plan = take_at c.plan _ _ refl in
    λ i. holding (k i) (d i) (e i)

length_padded : {X : Type 0} (n : ℕ) (u : X) (xs : List X) → length xs ≤ n → length (padded n u xs) ≡ n
length_padded n u xs h = length-append xs (replicate (n - length xs) u) ∙ omega (arith, length-replicate (n - length xs) u)

-- the arrays have their lengths
pub stored_long : (c : Contents) → Within c
    → (length (stored c).kinds ≡ most_elements) × (length (stored c).dimensions ≡ most_dimensions) × (length (stored c).plan ≡ most_entries)
stored_long c h = (
  length_padded _ _ c.kinds h.few_kinds,
  length_padded _ _ c.dimensions h.few_dimensions,
  length_padded _ _ c.plan h.few_entries,
)

-- what was read to the front of unused places
pub padded_front : {X : Type 0} (n : ℕ) (unused : X) (got ys xs : List X) (m : ℕ)
    → xs ≡ got ++ drop m (replicate n unused) → got ≡ ys → m ≡ length ys → xs ≡ padded n unused ys
padded_front n unused got ys xs m e is long =
    e ∙ (λ i. is i ++ drop (long i) (replicate n unused)) ∙ ap (λ l. ys ++ l) (drop-replicate (length ys) n unused)

-- what an answer says of what was read
pub stored_ok : (a : Result Contents Refusal) (t : Tables) → Ok t ≡ stored_answer a → (a ≡ Ok (contents t)) × (t ≡ stored (contents t))
stored_ok (Ok c) t e =
    let is : t ≡ stored c = cc in
    let same : c ≡ contents t = sym (ap contents is ∙ contents_stored c) in
    (ap Ok same, is ∙ ap stored same)
stored_ok (Err x) t e = let z : ◌≡◌ {A = ℕ} 0 1 = cc in absurd (omega arith)

pub stored_err : (a : Result Contents Refusal) (x : Refusal) → Err x ≡ stored_answer a → a ≡ Err x
stored_err (Ok c) x e = let z : ◌≡◌ {A = ℕ} 0 1 = cc in absurd (omega arith)
stored_err (Err y) x e = cc

-- the numbers in an entry of bytes are bytes

small_entry : (bs : List ℕ) → Bytes bs → largest (get_entry bs) < byte_values
small_entry bs bytes =
    elim (eqb (byte bs 0) 0) as (λ b. largest (cond b (Leaf (byte bs 1)) (Step (byte bs 1) (byte bs 2) (byte bs 3))) < byte_values)
    [ true ↦ bytes 1 | false ↦ omega (arith, bytes 1, bytes 2, bytes 3) ]

bytes_behind : (n : ℕ) (bs : List ℕ) → Bytes bs → Bytes (drop n bs)
bytes_behind n bs bytes p = rw get_or-drop (bytes (n + p))

small_entries : (n : ℕ) (bs : List ℕ) → Bytes bs → (e : ℕ) → largest (get_or (get_all get_entry 4 n bs) e (Leaf 0)) < byte_values
small_entries zero bs bytes e = omega arith
small_entries (suc n) bs bytes zero = small_entry bs bytes
small_entries (suc n) bs bytes (suc e) = small_entries n (drop 4 bs) (bytes_behind 4 bs bytes) e

-- a file that no row refuses
module _ (bs : List ℕ) (free : first_refusal (file_rows bs) ≡ None) where
  held_within : Bytes bs → Within (held bs)
  held_within bytes = record {
    enough_kinds = omega (arith, kinds_long bs free, kinds_range bs free);
    few_kinds = omega (arith, kinds_long bs free, kinds_range bs free);
    few_dimensions = omega (arith, dimensions_long bs free, dimensions_range bs free);
    enough_entries = omega (arith, plan_long bs free, entries_range bs free);
    few_entries = omega (arith, plan_long bs free, entries_range bs free);
    numbers = λ e h. small_entries (byte bs (entries_at bs)) (drop (entries_at bs + 1) bs) (bytes_behind (entries_at bs + 1) bs bytes) e;
  }

  -- what `decode` promises of its tables
  pub accepted : (t : Tables) → Bytes bs → t ≡ stored (held bs)
      → (Ok t ≡ stored_answer (read bs)) × Within (contents t) × (write (contents t) ≡ bs)
  accepted t bytes is =
      let same : held bs ≡ contents t = sym (ap contents is ∙ contents_stored (held bs)) in
      (rw free (ap Ok is), subst Within same (held_within bytes), sym (ap write same) ∙ held_written bs free bytes)
