-- Values that a file stores, all of a type in the same number of bytes.
use Rattle.std.specs.Prelude.{◌≡◌, ℕ, ◌<◌, List, [], ◌∷◌, length, take}
use Rattle.file.specs.Files.{byte}

-- what holds of a type that a file stores
pub record StoredLaws {T : Type 0} (width : ℕ) (written : T → List ℕ) (read : List ℕ → T) : Type 0 where
  -- each value takes the same number of bytes, and not none
  pub some : 0 < width
  pub long : (x : T) → length (written x) ≡ width
  -- a value is read from the first bytes, and as it was written
  pub front : (bs : List ℕ) → read (take width bs) ≡ read bs
  pub back : (x : T) → read (written x) ≡ x

-- one byte for each kind
abbrev pub kind_bytes : ℕ → List ℕ
kind_bytes k = k ∷ []

-- the kind in the first byte
abbrev pub get_kind : List ℕ → ℕ
get_kind bs = byte bs 0
