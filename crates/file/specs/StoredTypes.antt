-- The laws of a stored type hold of kinds, of dimensions and of entries.
use Rattle.std.specs.Prelude.{◌≡◌, ℕ, List, [], ◌∷◌, length, take, refl}
use Rattle.std.proofs.Common.{lit<}
use Rattle.plan.specs.declared.entry.Entry.{Entry}
use Rattle.plan.specs.declared.entry.Entry.TheVariants.{Leaf, Step}
use Rattle.file.specs.Files.{dimension_bytes, entry_bytes, get_dimension, get_entry}
use Rattle.file.specs.Stored.{StoredLaws, kind_bytes, get_kind}

-- a kind is read from one byte
kind_front : (bs : List ℕ) → get_kind (take 1 bs) ≡ get_kind bs
kind_front [] = refl
kind_front (a ∷ bs) = refl

-- a dimension is read from three bytes
dimension_front : (bs : List ℕ) → get_dimension (take 3 bs) ≡ get_dimension bs
dimension_front [] = refl
dimension_front (a ∷ []) = refl
dimension_front (a ∷ b ∷ []) = refl
dimension_front (a ∷ b ∷ c ∷ bs) = refl

-- an entry is read from four bytes
entry_front : (bs : List ℕ) → get_entry (take 4 bs) ≡ get_entry bs
entry_front [] = refl
entry_front (a ∷ []) = refl
entry_front (a ∷ b ∷ []) = refl
entry_front (a ∷ b ∷ c ∷ []) = refl
entry_front (a ∷ b ∷ c ∷ d ∷ bs) = refl

-- an entry is written in four bytes
entry_long : (x : Entry) → length (entry_bytes x) ≡ 4
entry_long (Leaf d) = refl
entry_long (Step a b c) = refl

-- an entry is read as it was written
entry_back : (x : Entry) → get_entry (entry_bytes x) ≡ x
entry_back (Leaf d) = refl
entry_back (Step a b c) = refl

-- the laws of kinds
pub kind_laws : StoredLaws 1 kind_bytes get_kind
kind_laws = record { some = lit< tt; long = λ _. refl; front = kind_front; back = λ _. refl }

-- the laws of dimensions
pub dimension_laws : StoredLaws 3 dimension_bytes get_dimension
dimension_laws = record { some = lit< tt; long = λ _. refl; front = dimension_front; back = λ _. refl }

-- the laws of entries
pub entry_laws : StoredLaws 4 entry_bytes get_entry
entry_laws = record { some = lit< tt; long = entry_long; front = entry_front; back = entry_back }
