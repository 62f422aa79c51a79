-- The sense, and document 01's number and values for every answer.
use Rattle.std.specs.Prelude.{ℕ, ◌+◌, ◌*◌, Bool, false, ◌&&◌, ◌||◌, List, [], ◌∷◌, eqb}
use Rattle.protocol.specs.Types.{Sense, Answer, LinkRefusal, DriveRefusal, Accepted, Link, Drive, CommandBlockLength, MediumSize, UnsoundState, TransferLength, InvalidOperationCode, WriteProtected, InvalidFieldInCommand, AddressOutOfRange, BlankCheck, InvalidAddressForWrite, IncompleteTrackInSession, EmptyTrack, NoMoreReservations, EndOfUserArea}

-- sense key, additional sense code, its qualifier
abbrev pub sense : ℕ → ℕ → ℕ → Sense
sense k a q = record { key = k; asc = a; ascq = q }

-- 0/00/00, which an accepted command sets
abbrev pub no_sense : Sense
no_sense = sense 0x0 0x00 0x00

-- the sense that each drive refusal leaves: the first column of document 01's table
abbrev pub refusal_sense : DriveRefusal → Sense
refusal_sense InvalidOperationCode = sense 0x5 0x20 0x00
refusal_sense WriteProtected = sense 0x7 0x27 0x00
refusal_sense InvalidFieldInCommand = sense 0x5 0x24 0x00
refusal_sense AddressOutOfRange = sense 0x5 0x21 0x00
refusal_sense BlankCheck = sense 0x8 0x00 0x00
refusal_sense InvalidAddressForWrite = sense 0x5 0x21 0x02
refusal_sense IncompleteTrackInSession = sense 0x5 0x72 0x03
refusal_sense EmptyTrack = sense 0x5 0x72 0x04
refusal_sense NoMoreReservations = sense 0x5 0x72 0x05
refusal_sense EndOfUserArea = sense 0x5 0x63 0x00

-- document 01's L1 to L4
abbrev pub link_number : LinkRefusal → ℕ
link_number CommandBlockLength = 1
link_number MediumSize = 2
link_number UnsoundState = 3
link_number TransferLength = 4

-- key, ASC and ASCQ as one number, as 0x052102 for 5/21/02
abbrev pub sense_number : Sense → ℕ
sense_number s = 0x10000 * s.key + 0x100 * s.asc + s.ascq

-- the number of an answer: 0 for accepted, 1 to 4 for L1 to L4, the sense's for a drive refusal
abbrev pub number : Answer → ℕ
number Accepted = 0
number (Link r) = link_number r
number (Drive r) = sense_number (refusal_sense r)

-- every drive refusal, in the table's order
abbrev pub drive_refusals : List DriveRefusal
drive_refusals =
    InvalidOperationCode ∷ WriteProtected ∷ InvalidFieldInCommand ∷ AddressOutOfRange ∷ BlankCheck ∷ InvalidAddressForWrite
    ∷ IncompleteTrackInSession ∷ EmptyTrack ∷ NoMoreReservations ∷ EndOfUserArea ∷ []

abbrev pub same_sense : Sense → Sense → Bool
same_sense s t = eqb s.key t.key && eqb s.asc t.asc && eqb s.ascq t.ascq

unfoldable pub is_refusal_sense : Sense → List DriveRefusal → Bool
is_refusal_sense s [] = false
is_refusal_sense s (r ∷ rs) = same_sense s (refusal_sense r) || is_refusal_sense s rs

-- the senses that a state may have (part of L3): none, or a drive refusal's
unfoldable pub allowed_sense : Sense → Bool
allowed_sense s = same_sense s no_sense || is_refusal_sense s drive_refusals
