-- A sequence that meets every condition of demand 3: refusals of both kinds, a change of fragment with sectors pending, a WRITE that is cut,
-- a close.
use Rattle.std.specs.Prelude.{ℕ, List, [], ◌∷◌, ◌++◌, map, length, replicate}
use Rattle.protocol.specs.Answer.{number}
use Rattle.disc.specs.Blank.{blank}
use Rattle.commands.specs.Judge.{judge}
use Rattle.drive.specs.Bytes.{zeros}
use Rattle.drive.specs.Step.{Drive, drive, Request, request}
use Rattle.history.specs.Types.{Disc}
use Rattle.history.specs.Sequence.{Turn, result}
use Rattle.history.specs.Forms.{ten, write_cdb}
use Rattle.history.specs.Examples.{whole_write, first_part, second_part}

-- the numbers of a sequence's answers
unfoldable pub numbers : List Turn → Drive → List ℕ
numbers [] s = []
numbers (t ∷ ts) s = number (result t s).answer ∷ numbers ts (result t s).after

-- what of a request decides: its command block, and how long its data and its reply buffer are
pub record Shape : Type 0 where
  pub cdb : List ℕ
  pub payload : ℕ
  pub room : ℕ

abbrev pub shape : List ℕ → ℕ → ℕ → Shape
shape b n m = record { cdb = b; payload = n; room = m }

-- a request of that shape, its data all of one byte
abbrev pub filled : ℕ → Shape → Request
filled x h = request h.cdb (replicate h.payload x) (replicate h.room x)

abbrev pub shape_of : Request → Shape
shape_of q = shape q.cdb (length q.payload) (length q.buffer)

-- the answers' numbers by the shapes alone, and the disc after them
unfoldable pub disc_after : List Shape → Disc → Disc
disc_after [] d = d
disc_after (h ∷ hs) d = disc_after hs (judge d h.cdb h.payload h.room).disc

unfoldable pub judged : List Shape → Disc → List ℕ
judged [] d = []
judged (h ∷ hs) d =
    let v = judge d h.cdb h.payload h.room in
    number v.answer ∷ judged hs v.disc

-- a command block of three bytes (L1), a WRITE without its data (L4), an opcode that is not listed, RESERVE 48, WRITE 0 of 5 to the reserved
-- fragment, WRITE 64 of 20 to the tail while those five are pending, READ 0 of 16
abbrev pub before : List Shape
before =
    shape (0x2A ∷ 0 ∷ 0 ∷ []) 0 0 ∷ shape (write_cdb ten 0 1) 0 0 ∷ shape (0xFF ∷ replicate 11 0) 0 0
    ∷ shape (0x53 ∷ 0 ∷ 0 ∷ 0 ∷ 0 ∷ 0 ∷ 0 ∷ 0 ∷ 48 ∷ 0 ∷ 0 ∷ 0 ∷ []) 0 0 ∷ shape (write_cdb ten 0 5) 10240 0 ∷ shape (write_cdb ten 64 20) 40960 0
    ∷ shape (0x28 ∷ 0 ∷ 0 ∷ 0 ∷ 0 ∷ 0 ∷ 0 ∷ 0 ∷ 16 ∷ 0 ∷ 0 ∷ 0 ∷ []) 0 32768 ∷ []

-- WRITE 84 of 2, which is cut into WRITE 84 of 1 and WRITE (12) 85 of 1
abbrev pub cut_write : Request
cut_write = whole_write 84

abbrev pub cut_first : Request
cut_first = first_part 84

abbrev pub cut_second : Request
cut_second = second_part 84

-- CLOSE 001 of fragment 1, and 35h
abbrev pub rest : List Shape
rest = shape (0x5B ∷ 0 ∷ 1 ∷ 0 ∷ 0 ∷ 1 ∷ 0 ∷ 0 ∷ 0 ∷ 0 ∷ 0 ∷ 0 ∷ []) 0 0 ∷ shape (0x35 ∷ replicate 11 0) 0 0 ∷ []

-- a start on 300 blocks, every byte zero
abbrev pub zero_start : Drive
zero_start = drive (blank 300) (zeros 9830400) (zeros 32768)

-- the sequence, and the same again with the WRITE cut
abbrev pub first_run : List Request
first_run = map (filled 0) before ++ (cut_write ∷ map (filled 0) rest)

abbrev pub second_run : List Request
second_run = map (filled 0) before ++ (cut_first ∷ cut_second ∷ map (filled 0) rest)

-- WRITE 0 of 16, the 51h after it, and WRITE 16 of 16
abbrev pub first_block : Request
first_block = filled 7 (shape (write_cdb ten 0 16) 32768 0)

abbrev pub information_request : Request
information_request = filled 0 (shape (0x51 ∷ 0 ∷ 0 ∷ 0 ∷ 0 ∷ 0 ∷ 0 ∷ 0 ∷ 34 ∷ 0 ∷ 0 ∷ 0 ∷ []) 0 34)

abbrev pub second_block : Request
second_block = filled 9 (shape (write_cdb ten 16 16) 32768 0)
