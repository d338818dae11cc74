-- How the first refusal of rows is read.
use Rattle.std.proofs.Common.{◌≡◌, ℕ, ◌↔◌, List, [], ◌∷◌, ◌++◌, Some, None, Err, Option, Result, sym, refl, ap, ◌∙◌, subst}
use Rattle.graph.specs.Rows.{
  Row,
  report,
  reported,
  or_else,
  lowest,
  row_refusal,
  first_refusal,
  answered,
  Clear,
  AllClear,
  Refuses,
  ReadingLaw,
}
use Rattle.graph.specs.declared.refusal.Refusal.{Refusal}
use Rattle.decomposition.proofs.Lowest.{Lowest, Says, lowest_says, lowest_none, lowest_found}
use Rattle.graph.proofs.Told.{answered_err}

-- what an answer says of the rows
abbrev Reads : List Row → Option Refusal → Type 0
Reads rows (Some x) = Refuses rows x
Reads rows None = AllClear rows

hit : (r : Row) (rs : List Row) (i : ℕ) → Lowest r.bound r.test i → Refuses (r ∷ rs) (report r i)
hit r rs i s = record {
  before = [];
  by = r;
  behind = rs;
  parts = refl;
  index = i;
  below = s.0;
  holds = s.1;
  lowest_index = s.2;
  clear = tt;
  reports = refl;
}

later : (r : Row) (rs : List Row) (x : Refusal) → Clear r.bound r.test → Refuses rs x → Refuses (r ∷ rs) x
later r rs x c h = record {
  before = r ∷ h.before;
  by = h.by;
  behind = h.behind;
  parts = ap (λ l. r ∷ l) h.parts;
  index = h.index;
  below = h.below;
  holds = h.holds;
  lowest_index = h.lowest_index;
  clear = (c, h.clear);
  reports = h.reports;
}

reads_row : (r : Row) (rs : List Row) (o : Option ℕ) (rest : Option Refusal) → Says r.bound r.test o → Reads rs rest
    → Reads (r ∷ rs) (or_else (reported r o) rest)
reads_row r rs (Some i) rest s t = hit r rs i s
reads_row r rs None (Some x) s t = later r rs x s t
reads_row r rs None None s t = (s, t)

-- the answer says what it says
reads : (rows : List Row) → Reads rows (first_refusal rows)
reads [] = tt
reads (r ∷ rs) = reads_row r rs (lowest r.bound r.test) (first_refusal rs) (lowest_says r.bound r.test) (reads rs)

pub none_clear : (rows : List Row) → first_refusal rows ≡ None → AllClear rows
none_clear rows e = subst (Reads rows) e (reads rows)

-- and nothing else does
pub clear_none : (rows : List Row) → AllClear rows → first_refusal rows ≡ None
clear_none [] h = refl
clear_none (r ∷ rs) h = rw (lowest_none r.bound r.test h.0, clear_none rs h.1)

row_hit : (r : Row) (i : ℕ) → Lowest r.bound r.test i → row_refusal r ≡ Some (report r i)
row_hit r i s = ap (reported r) (sym (lowest_found r.bound i r.test (lowest_none i r.test s.2) s.1 s.0))

some_behind : (before : List Row) (r : Row) (rs : List Row) (x : Refusal) → AllClear before → row_refusal r ≡ Some x
    → first_refusal (before ++ r ∷ rs) ≡ Some x
some_behind [] r rs x c e = ap (λ o. or_else o (first_refusal rs)) e
some_behind (q ∷ qs) r rs x c e = rw (lowest_none q.bound q.test c.0, some_behind qs r rs x c.1 e)

refuses_some : (rows : List Row) (x : Refusal) → Refuses rows x → first_refusal rows ≡ Some x
refuses_some rows x h =
    ap first_refusal h.parts
    ∙ some_behind h.before h.by h.behind x h.clear
    (row_hit h.by h.index (h.below, h.holds, h.lowest_index) ∙ ap Some h.reports)

pub reading : ReadingLaw
reading rows = (
  λ x. (λ e. subst (Reads rows) e (reads rows), refuses_some rows x),
  (none_clear rows, clear_none rows),
)

-- an answer by rows is a refusal exactly where a row refuses with it
pub refusing : {X : Type 0} (rows : List Row) (x : X) (r : Result X Refusal) → r ≡ answered (first_refusal rows) x
    → (y : Refusal) → (r ≡ Err y) ↔ Refuses rows y
refusing rows x r e y = (
  λ is. ((reading rows).0 y).0 (answered_err (first_refusal rows) x y (sym e ∙ is)),
  λ h. e ∙ ap (λ o. answered o x) (refuses_some rows y h),
)

-- rows behind other rows

or_else_assoc : {X : Type 0} (x y z : Option X) → or_else x (or_else y z) ≡ or_else (or_else x y) z
or_else_assoc (Some x) y z = refl
or_else_assoc None y z = refl

pub refusal_append : (rs qs : List Row) → first_refusal (rs ++ qs) ≡ or_else (first_refusal rs) (first_refusal qs)
refusal_append [] qs = refl
refusal_append (r ∷ rs) qs =
    ap (or_else (row_refusal r)) (refusal_append rs qs) ∙ or_else_assoc (row_refusal r) (first_refusal rs) (first_refusal qs)
