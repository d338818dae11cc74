-- The pieces of a file, one after another.
use Rattle.std.proofs.Common.{◌≡◌, ℕ, ◌+◌, ◌*◌, ◌/◌, ◌%◌, List, [], ◌∷◌, ◌++◌, length, ap, ◌∙◌, append_assoc, arith, length-append}
use Rattle.std.specs.List.{flat_map}
use Rattle.file.specs.FileLimits.{version, byte_values}
use Rattle.file.specs.Contents.{Contents}
use Rattle.file.specs.Files.{dimension_bytes, entry_bytes, body, write}
use Rattle.file.specs.Stored.{kind_bytes}
use Rattle.file.specs.StoredTypes.{dimension_laws, entry_laws}
use Rattle.file.proofs.Values.{length_joined, kinds_joined}

module _ (c : Contents) where
  abbrev D : List ℕ
  D = flat_map dimension_bytes c.dimensions

  abbrev E : List ℕ
  E = flat_map entry_bytes c.plan

  pub length_body : length (body c) ≡ 3 + length c.kinds + 3 * length c.dimensions + 4 * length c.plan
  length_body =
      let d = length_joined dimension_laws c.dimensions in
      let e = length_joined entry_laws c.plan in
      omega (arith, length-append c.kinds (length c.dimensions ∷ (D ++ (length c.plan ∷ E))), length-append D (length c.plan ∷ E))

  -- the whole file; n bytes stand behind the length
  pub all_pieces : (n : ℕ) (f f1 f2 f3 f4 f5 f6 : List ℕ)
      → n ≡ length (body c) → f ≡ []
      → f1 ≡ f ++ version ∷ []
      → f2 ≡ f1 ++ n / byte_values ∷ []
      → f3 ≡ f2 ++ n % byte_values ∷ []
      → f4 ≡ f3 ++ length c.kinds ∷ flat_map kind_bytes c.kinds
      → f5 ≡ f4 ++ length c.dimensions ∷ D
      → f6 ≡ f5 ++ length c.plan ∷ E
      → f6 ≡ write c
  all_pieces n f f1 f2 f3 f4 f5 f6 len e e1 e2 e3 e4 e5 e6 =
      let head : List ℕ = version ∷ n / byte_values ∷ n % byte_values ∷ [] in
      let pieces : List ℕ = ((head ++ length c.kinds ∷ c.kinds) ++ length c.dimensions ∷ D) ++ length c.plan ∷ E in
      let k : f4 ≡ f3 ++ length c.kinds ∷ c.kinds = e4 ∙ ap (λ l. f3 ++ length c.kinds ∷ l) (kinds_joined c.kinds) in
      let all : f6 ≡ pieces = rw (e6, e5, k, e3, e2, e1, e) in
      let flat : pieces ≡ version ∷ n / byte_values ∷ n % byte_values ∷ body c = simp append_assoc in
      all ∙ flat ∙ ap (λ k. version ∷ k / byte_values ∷ k % byte_values ∷ body c) len
