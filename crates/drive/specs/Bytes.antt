-- Stretches of bytes.
use Rattle.std.specs.Prelude.{ℕ, ◌+◌, ◌-◌, List, ◌++◌, length, take, drop, replicate}

-- n bytes 0
unfoldable pub zeros : ℕ → List ℕ
zeros n = replicate n 0

-- m, with x in the place of its bytes from index `at` on
unfoldable pub splice : List ℕ → ℕ → List ℕ → List ℕ
splice m at x = take at m ++ (x ++ drop (at + length x) m)

-- a block of sectors: what is missing of it is zero
unfoldable pub padded : List ℕ → List ℕ
padded x = x ++ zeros (32768 - length x)
