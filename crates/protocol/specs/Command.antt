-- The fields of a command block. Numbers have their highest byte first, and no byte matters but those named here.
use Rattle.std.specs.Prelude.{ℕ, ◌+◌, ◌*◌, ◌%◌, cond, List, get_or, eqb}
use Rattle.protocol.specs.Types.{Command, TestUnitReady, RequestSense, Inquiry, ReadCapacity, Read, Write, SynchronizeCache, ReserveTrack, CloseTrackSession, GetConfiguration, ReadDiscInformation, ReadTrackInformation, Unlisted}
use Rattle.fragments.specs.Address.{lba}

abbrev pub byte_at : List ℕ → ℕ → ℕ
byte_at b i = get_or b i 0

-- two and four bytes from a place on, the highest first
abbrev pub word16 : List ℕ → ℕ → ℕ
word16 b i = 0x100 * byte_at b i + byte_at b (i + 1)

abbrev pub word32 : List ℕ → ℕ → ℕ
word32 b i = 0x10000 * word16 b i + word16 b (i + 2)

-- the opcode is byte 0; the low bits of a byte are its remainder by 2, 4 or 8. READ and WRITE have two forms: 28h and 2Ah, whose length has two
-- bytes, and A8h and AAh, whose length has four
unfoldable pub decode : List ℕ → Command
decode b =
    let opcode = byte_at b 0 in
    cond (eqb opcode 0x00) TestUnitReady
    (cond (eqb opcode 0x03) (RequestSense (byte_at b 4))
    (cond (eqb opcode 0x12) (Inquiry (byte_at b 1 % 2) (word16 b 3))
    (cond (eqb opcode 0x25) ReadCapacity
    (cond (eqb opcode 0x28) (Read (lba (word32 b 2)) (word16 b 7))
    (cond (eqb opcode 0x2A) (Write (lba (word32 b 2)) (word16 b 7))
    (cond (eqb opcode 0x35) SynchronizeCache
    (cond (eqb opcode 0x46) (GetConfiguration (byte_at b 1 % 4) (word16 b 2) (word16 b 7))
    (cond (eqb opcode 0x53) (ReserveTrack (word32 b 5))
    (cond (eqb opcode 0x5B) (CloseTrackSession (byte_at b 2 % 8) (word16 b 4))
    (cond (eqb opcode 0x51) (ReadDiscInformation (byte_at b 1 % 8) (word16 b 7))
    (cond (eqb opcode 0x52) (ReadTrackInformation (byte_at b 1 % 4) (word32 b 2) (word16 b 7))
    (cond (eqb opcode 0xA8) (Read (lba (word32 b 2)) (word32 b 6))
    (cond (eqb opcode 0xAA) (Write (lba (word32 b 2)) (word32 b 6))
    Unlisted)))))))))))))
