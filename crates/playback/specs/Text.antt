-- The texts of the printed lines, as bytes.
use Rattle.std.specs.Prelude.{ℕ, zero, suc, ◌+◌, ◌-◌, ◌/◌, ◌%◌, cond, List, [], ◌∷◌, ◌++◌, nat_lt}
use Rattle.playback.specs.Types.{Sense, Lba, Option, Some, None}

-- the sign of a hex digit: 0 to 9, then A to F
abbrev pub digit : ℕ → ℕ
digit d = cond (nat_lt d 10) (0x30 + d) (0x41 + (d - 10))

-- a number's decimal digits, at most so many, the first one 0 for the number 0 alone
unfoldable pub digits : ℕ → ℕ → List ℕ
digits zero n = []
digits (suc k) n = cond (nat_lt n 10) (digit n ∷ []) (digits k (n / 10) ++ (digit (n % 10) ∷ []))

-- twenty hold every number of 64 bits
abbrev pub decimal : ℕ → List ℕ
decimal n = digits 20 n

-- two capital hex digits
abbrev pub hex : ℕ → List ℕ
hex b = digit (b / 0x10) ∷ digit (b % 0x10) ∷ []

-- the tail's next writable address, or -
unfoldable pub next_text : Option Lba → List ℕ
next_text (Some a) = decimal a.0
next_text None = 0x2D ∷ []

-- words with a space between them, and the end of the line
unfoldable pub words : List ℕ → List (List ℕ) → List ℕ
words w [] = w ++ (0x0A ∷ [])
words w (v ∷ vs) = w ++ (0x20 ∷ words v vs)

-- a record's line: n op key asc ascq next
abbrev pub record_text : ℕ → ℕ → Sense → Option Lba → List ℕ
record_text n op s next =
    words (decimal n) (hex op ∷ decimal s.key ∷ hex s.asc ∷ hex s.ascq ∷ next_text next ∷ [])

-- the last line where a mark is wrong: n bad
abbrev pub bad_text : ℕ → List ℕ
bad_text n = words (decimal n) ((0x62 ∷ 0x61 ∷ 0x64 ∷ []) ∷ [])

-- and where the trace is cut short: n cut
abbrev pub cut_text : ℕ → List ℕ
cut_text n = words (decimal n) ((0x63 ∷ 0x75 ∷ 0x74 ∷ []) ∷ [])
