-- INQUIRY (12h): the standard data.
use Rattle.std.specs.Prelude.{ℕ, List, [], ◌∷◌, ◌++◌}

-- the texts, constants of ours, in printable ASCII and padded with spaces: "GLADHAMR", "DVD+R LOGGER    " and "1.00"
abbrev pub vendor : List ℕ
vendor = 0x47 ∷ 0x4C ∷ 0x41 ∷ 0x44 ∷ 0x48 ∷ 0x41 ∷ 0x4D ∷ 0x52 ∷ []

abbrev pub product : List ℕ
product =
    0x44 ∷ 0x56 ∷ 0x44 ∷ 0x2B ∷ 0x52 ∷ 0x20 ∷ 0x4C ∷ 0x4F ∷ 0x47 ∷ 0x47 ∷ 0x45 ∷ 0x52 ∷ 0x20 ∷ 0x20 ∷ 0x20 ∷ 0x20 ∷ []

abbrev pub revision : List ℕ
revision = 0x31 ∷ 0x2E ∷ 0x30 ∷ 0x30 ∷ []

-- the 36 bytes: the eight that request (ii) gives, then vendor (8), product (16) and revision (4)
unfoldable pub inquiry_bytes : List ℕ
inquiry_bytes = (0x05 ∷ 0x80 ∷ 0x00 ∷ 0x02 ∷ 0x1F ∷ 0x00 ∷ 0x00 ∷ 0x00 ∷ []) ++ vendor ++ product ++ revision
