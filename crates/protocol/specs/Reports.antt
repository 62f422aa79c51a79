-- The bytes of the reports: 03h REQUEST SENSE, 25h READ CAPACITY, 51h READ DISC INFORMATION, 52h READ TRACK INFORMATION.
use Rattle.std.specs.Prelude.{ℕ, ◌+◌, Bool, cond, List, [], ◌∷◌, ◌++◌, replicate}
use Rattle.fragments.specs.Address.{sectors_in}
pub use Rattle.features.specs.Bytes.{low, high, bytes32}
use Rattle.protocol.specs.Types.{Lba, Sense, DiscReport, TrackReport}

-- a number that counts where a test holds
abbrev pub when : Bool → ℕ → ℕ
when b n = cond b n 0

-- REQUEST SENSE (03h): the response code in byte 0, the key in 2, the additional length in 7, ASC in 12 and ASCQ in 13
unfoldable pub sense_bytes : Sense → List ℕ
sense_bytes s = 0x70 ∷ 0 ∷ s.key ∷ 0 ∷ 0 ∷ 0 ∷ 0 ∷ 0x0A ∷ 0 ∷ 0 ∷ 0 ∷ 0 ∷ s.asc ∷ s.ascq ∷ replicate 4 0

-- READ CAPACITY (25h): an address and the size of a sector
abbrev pub capacity_bytes : Lba → List ℕ
capacity_bytes a = bytes32 a.0 ++ bytes32 2048

-- READ DISC INFORMATION (51h): the length of what follows, the two states, the disc's first fragment, then of the last session its
-- number, its first and its last fragment: the low bytes in 4 to 6, the high ones in 9 to 11
unfoldable pub disc_bytes : DiscReport → List ℕ
disc_bytes x =
    0x00 ∷ 0x20 ∷ x.states ∷ 1 ∷ low x.sessions ∷ low x.first ∷ low x.last ∷ 0 ∷ 0 ∷ high x.sessions ∷ high x.first
    ∷ high x.last ∷ replicate 22 0

-- READ TRACK INFORMATION (52h): byte 6 has data mode 1, 80h if reserved, 40h if blank; byte 7 has 02h if some ECC block is recorded,
-- 01h if incomplete
abbrev pub flags_of : TrackReport → ℕ
flags_of x = 0x01 + when x.reserved 0x80 + when x.blank 0x40

abbrev pub valid_of : TrackReport → ℕ
valid_of x = when x.written 0x02 + when x.incomplete 0x01

-- its bytes: the length of what follows, number and session (low bytes in 2 and 3, high ones in 32 and 33), track mode, the flags, and from
-- byte 8 on first sector, next writable address, free sectors, blocking factor, size and last recorded sector
unfoldable pub track_bytes : TrackReport → List ℕ
track_bytes x =
    (0x00 ∷ 0x22 ∷ low x.number ∷ low x.session ∷ 0 ∷ 0x04 ∷ flags_of x ∷ valid_of x ∷ [])
    ++ bytes32 x.start.0 ++ bytes32 x.next.0 ++ bytes32 x.free ++ bytes32 (sectors_in 1) ++ bytes32 x.size
    ++ bytes32 x.last.0 ++ (high x.number ∷ high x.session ∷ 0 ∷ 0 ∷ [])
