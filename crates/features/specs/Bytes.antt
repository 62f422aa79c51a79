-- Numbers as bytes, the highest byte first, and bytes stored one after another.
use Rattle.std.specs.Prelude.{ℕ, ◌+◌, ◌/◌, ◌%◌, List, [], ◌∷◌, set}

-- a number's low byte and the one above it
abbrev pub low : ℕ → ℕ
low n = n % 0x100

abbrev pub high : ℕ → ℕ
high n = n / 0x100 % 0x100

-- two and four bytes
abbrev pub bytes16 : ℕ → List ℕ
bytes16 n = high n ∷ low n ∷ []

abbrev pub bytes32 : ℕ → List ℕ
bytes32 n = (n / 0x1000000 % 0x100) ∷ (n / 0x10000 % 0x100) ∷ high n ∷ low n ∷ []

-- numbers stored one after another, from a place on
unfoldable pub stored : List ℕ → ℕ → List ℕ → List ℕ
stored l i [] = l
stored l i (b ∷ bs) = stored (set l i b) (i + 1) bs
