-- Small requests and turns for the examples: what the vocabulary means.
use Rattle.std.specs.Prelude.{ℕ, ◌+◌, List, [], ◌∷◌, ◌++◌, replicate}
use Rattle.drive.specs.Step.{Drive, Request, request}
use Rattle.history.specs.Sequence.{Turn, result}
use Rattle.history.specs.Forms.{ten, twelve, write_cdb}
use Rattle.history.specs.Wide.{Portion, portion}

-- a sector whose bytes are all the same
abbrev pub sector : ℕ → List ℕ
sector x = replicate 2048 x

-- a WRITE of 2 sectors at an address, and its two parts, the second by WRITE (12)
abbrev pub whole_write : ℕ → Request
whole_write a = request (write_cdb ten a 2) (sector 7 ++ (sector 9 ++ [])) []

abbrev pub first_part : ℕ → Request
first_part a = request (write_cdb ten a 1) (sector 7) []

abbrev pub second_part : ℕ → Request
second_part a = request (write_cdb twelve (a + 1) 1) (sector 9) []

-- to follow the first part of a WRITE 0 of 2: the second sector after a gap, and over the first
abbrev pub part_after_gap : Request
part_after_gap = request (write_cdb ten 2 1) (sector 9) []

abbrev pub part_over_first : Request
part_over_first = request (write_cdb ten 0 1) (sector 9) []

-- a WRITE of no sector
abbrev pub empty_part : Request
empty_part = request (write_cdb ten 0 0) [] []

-- WRITE (12) 0 of 65,536 with some data, and its parts: by WRITE (10) as many sectors as that can name, by WRITE (12) the last one
abbrev pub long_write : List ℕ → Request
long_write x = request (write_cdb twelve 0 65536) x []

abbrev pub mixed_parts : List Portion
mixed_parts = portion ten 65535 ∷ portion twelve 1 ∷ []

-- the longest WRITE (12) at the address before the last, with some data, and its parts, whose addresses are the last two
abbrev pub far_write : List ℕ → Request
far_write x = request (write_cdb twelve 0xFFFFFFFE 4294967295) x []

abbrev pub far_parts : List Portion
far_parts = portion ten 1 ∷ portion twelve 4294967294 ∷ []

-- requests given as they are, with no byte changed from outside
abbrev pub as_left : Request → Drive → Turn
as_left q s = record { medium = s.medium; pending = s.pending; request = q }

unfoldable pub steady : List Request → Drive → List Turn
steady [] s = []
steady (q ∷ qs) s = as_left q s ∷ steady qs (result (as_left q s) s).after
