-- The refusal table as data: a row is a test on the indices below a bound, with what is reported for each index.
-- Rows are tried in their order, and each at its lowest index first.
use Rattle.std.specs.Prelude.{◌≡◌, ℕ, ◌<◌, Bool, true, ◌↔◌, List, [], ◌∷◌, ◌++◌, map, Some, None, Ok, Err, Option, Result}
-- passed on to those who read rows
pub use Rattle.decomposition.specs.Lowest.{or_else, lowest, present, Clear}
use Rattle.graph.specs.declared.refusal.Refusal.{Refusal}

-- layer, number and place
abbrev pub refusal : ℕ → ℕ → ℕ → Refusal
refusal l n p = record { layer = l; number = n; place = p }

-- a row of the table
pub record Row : Type 0 where
  pub layer : ℕ
  -- the number that is reported for an index, and the place
  pub number : ℕ → ℕ
  pub place : ℕ → ℕ
  -- the indices below the bound are tried
  pub bound : ℕ
  pub test : ℕ → Bool

-- a row with one number
abbrev pub row_at : ℕ → ℕ → ℕ → (ℕ → Bool) → (ℕ → ℕ) → Row
row_at l n b t f = record { layer = l; number = λ _. n; place = f; bound = b; test = t }

-- a row with one number, whose places are its indices
abbrev pub row : ℕ → ℕ → ℕ → (ℕ → Bool) → Row
row l n b t = row_at l n b t (λ i. i)

-- what a row reports for an index
abbrev pub report : Row → ℕ → Refusal
report r i = refusal r.layer (r.number i) (r.place i)

-- what is reported for an index, where there is one
abbrev pub reported : Row → Option ℕ → Option Refusal
reported r (Some i) = Some (report r i)
reported r None = None

-- what a row refuses with
abbrev pub row_refusal : Row → Option Refusal
row_refusal r = reported r (lowest r.bound r.test)

-- the refusal of the first row that has one
abbrev pub first_refusal : List Row → Option Refusal
first_refusal [] = None
first_refusal (r ∷ rs) = or_else (row_refusal r) (first_refusal rs)

-- a refusal, or else x
abbrev pub answered : {X : Type 0} → Option Refusal → X → Result X Refusal
answered (Some f) x = Err f
answered None x = Ok x

-- an answer with its fault in numbers
abbrev pub told : {X F : Type 0} → (F → Refusal) → Result X F → Result X Refusal
told numbers (Ok x) = Ok x
told numbers (Err f) = Err (numbers f)

-- the layers and first numbers of rows
abbrev pub headings : List Row → List (ℕ × ℕ)
headings rs = map (λ (r : Row). (r.layer, r.number 0)) rs

-- how it is read

-- no row holds anywhere
abbrev pub AllClear : List Row → Type 0
AllClear [] = Unit {0}
AllClear (r ∷ rs) = Clear r.bound r.test × AllClear rs

-- a row holds at an index, at no lower one, and no earlier row holds anywhere; x is what it reports there
pub record Refuses (rows : List Row) (x : Refusal) : Type 0 where
  pub before : List Row
  pub by : Row
  pub behind : List Row
  pub parts : rows ≡ before ++ by ∷ behind
  pub index : ℕ
  pub below : index < by.bound
  pub holds : by.test index ≡ true
  pub lowest_index : Clear index by.test
  pub clear : AllClear before
  pub reports : report by index ≡ x

-- the first refusal of rows is what some row refuses with, and there is none exactly where no row holds anywhere
abbrev pub ReadingLaw : Type 0
ReadingLaw = (rows : List Row)
    → ((x : Refusal) → (first_refusal rows ≡ Some x) ↔ Refuses rows x)
    × ((first_refusal rows ≡ None) ↔ AllClear rows)
