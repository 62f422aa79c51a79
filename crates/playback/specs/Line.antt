-- A line by value: its text, zeros after it, and its length.
use Rattle.std.specs.Prelude.{◌≡◌, ℕ, ◌+◌, ◌-◌, ◌≤◌, cond, List, [], ◌∷◌, ◌++◌, length, replicate, take, nat_lt, slice_set, Option, Some, None}
use Rattle.playback.specs.Types.{Line}

-- the line of a text
unfoldable pub line_of : List ℕ → Line
line_of text = record { bytes = text ++ replicate (80 - length text) 0; length = length text }

-- the text of a line
abbrev pub text_of : Line → List ℕ
text_of l = take l.length l.bytes

-- one byte more, and many; a full line stays as it is
unfoldable pub push : Line → ℕ → Line
push l b = cond (nat_lt l.length 80) (record { bytes = slice_set l.bytes l.length b; length = l.length + 1 }) l

unfoldable pub append : Line → List ℕ → Line
append l [] = l
append l (b ∷ bs) = append (push l b) bs

-- the promise of the code that makes a line: its text, whole
pub record Printed (text : List ℕ) (r : Line) : Type 0 where
  pub line : r ≡ line_of text
  pub fits : r.length ≤ length r.bytes

-- of a last line, if there is one: there is none where there is no text, and then alone
abbrev pub LastPrinted : List ℕ → Option Line → Type 0
LastPrinted text None = text ≡ []
LastPrinted text (Some l) = Printed text l × (text ≡ [] → ⊥)
