-- The first feature of a reply.
use Rattle.std.specs.Prelude.{ℕ, ◌+◌, ◌*◌, cond, List, length, get_or, ltb}

-- its number, in bytes 8 and 9; where there is none, FFFFh, which no feature has
abbrev pub first_feature : List ℕ → ℕ
first_feature bytes = cond (ltb (length bytes) 10) 0xFFFF (0x100 * get_or bytes 8 0 + get_or bytes 9 0)
