-- The commands that bring no data or get no reply, by their places among the variants.
use mathlib.Core.Path.{◌≡◌, refl}
use mathlib.Core.List.{List, [], ◌∷◌}
use Prim.Native.Nat.{ℕ}
use types.Run.{OneOf, miss}
use denote.Enum.Declared.{tag_of}
use Rattle.protocol.specs.contracts.command.Command.{the_type}
use Rattle.protocol.specs.Types.{Command, TestUnitReady, RequestSense, Inquiry, ReadCapacity, Read, Write, SynchronizeCache, ReserveTrack, CloseTrackSession, GetConfiguration, ReadDiscInformation, ReadTrackInformation, Unlisted}
use Rattle.protocol.specs.Lengths.{data_length, reply_room}

-- all but WRITE
abbrev pub without_data : List ℕ
without_data = 0 ∷ 1 ∷ 2 ∷ 3 ∷ 4 ∷ 6 ∷ 7 ∷ 8 ∷ 9 ∷ 10 ∷ 11 ∷ 12 ∷ []

pub no_data : (c : Command) → OneOf without_data (tag_of the_type c) → data_length c ≡ 0
unfolding data_length
no_data TestUnitReady h = refl
no_data (RequestSense n) h = refl
no_data (Inquiry p n) h = refl
no_data ReadCapacity h = refl
no_data (Read a n) h = refl
no_data (Write a n) h = absurd (miss without_data 5 tt h)
no_data SynchronizeCache h = refl
no_data (ReserveTrack n) h = refl
no_data (CloseTrackSession f n) h = refl
no_data (GetConfiguration t s n) h = refl
no_data (ReadDiscInformation t n) h = refl
no_data (ReadTrackInformation t n m) h = refl
no_data Unlisted h = refl

-- all but READ and the reports
abbrev pub without_reply : List ℕ
without_reply = 0 ∷ 5 ∷ 6 ∷ 7 ∷ 8 ∷ 12 ∷ []

pub no_reply_lem : (c : Command) → OneOf without_reply (tag_of the_type c) → reply_room c ≡ 0
unfolding reply_room
no_reply_lem TestUnitReady h = refl
no_reply_lem (RequestSense n) h = absurd (miss without_reply 1 tt h)
no_reply_lem (Inquiry p n) h = absurd (miss without_reply 2 tt h)
no_reply_lem ReadCapacity h = absurd (miss without_reply 3 tt h)
no_reply_lem (Read a n) h = absurd (miss without_reply 4 tt h)
no_reply_lem (Write a n) h = refl
no_reply_lem SynchronizeCache h = refl
no_reply_lem (ReserveTrack n) h = refl
no_reply_lem (CloseTrackSession f n) h = refl
no_reply_lem (GetConfiguration t s n) h = absurd (miss without_reply 9 tt h)
no_reply_lem (ReadDiscInformation t n) h = absurd (miss without_reply 10 tt h)
no_reply_lem (ReadTrackInformation t n m) h = absurd (miss without_reply 11 tt h)
no_reply_lem Unlisted h = refl
