-- A text written into a buffer that may be too short for it.
use Rattle.std.specs.Prelude.{ℕ, cond, List, ◌++◌, length, drop, Ok, Err, Result, nat_lt}
use Rattle.graph.specs.Rows.{refusal}
use Rattle.graph.specs.declared.refusal.Refusal.{Refusal}

-- the answer for a text and a buffer: the text's length, or the refusal of a short buffer, whose place is the bytes needed
abbrev pub put_answer : List ℕ → List ℕ → Result ℕ Refusal
put_answer text buffer = cond (nat_lt (length buffer) (length text)) (Err (refusal 4 26 (length text))) (Ok (length text))

-- what the buffer then holds: the text and the rest of the buffer, or all as it was where the buffer is short
abbrev pub put_after : List ℕ → List ℕ → List ℕ
put_after text buffer = cond (nat_lt (length buffer) (length text)) buffer (text ++ drop (length text) buffer)
