-- The lengths of data and reply that a command asks for (L4).
use Rattle.std.specs.Prelude.{ℕ, ◌*◌, min, Bool, cond, ◌&&◌, length, eqb, leb}
use Rattle.features.specs.Configuration.{configuration_bytes}
use Rattle.protocol.specs.Types.{Command, TestUnitReady, RequestSense, Inquiry, ReadCapacity, Read, Write, SynchronizeCache, ReserveTrack, CloseTrackSession, GetConfiguration, ReadDiscInformation, ReadTrackInformation, Unlisted}

-- the bytes of the whole reports of REQUEST SENSE, INQUIRY, READ CAPACITY, READ DISC INFORMATION and READ TRACK INFORMATION
abbrev pub sense_length : ℕ
sense_length = 18

abbrev pub inquiry_length : ℕ
inquiry_length = 36

abbrev pub capacity_length : ℕ
capacity_length = 8

abbrev pub disc_information_length : ℕ
disc_information_length = 34

abbrev pub track_information_length : ℕ
track_information_length = 36

-- a WRITE brings its sectors, any other command nothing
unfoldable pub data_length : Command → ℕ
data_length TestUnitReady = 0
data_length (RequestSense n) = 0
data_length (Inquiry p n) = 0
data_length ReadCapacity = 0
data_length (Read a n) = 0
data_length (Write a n) = 2048 * n
data_length SynchronizeCache = 0
data_length (ReserveTrack n) = 0
data_length (CloseTrackSession f n) = 0
data_length (GetConfiguration t s n) = 0
data_length (ReadDiscInformation t n) = 0
data_length (ReadTrackInformation t n m) = 0
data_length Unlisted = 0

-- the room for the standard data of INQUIRY and for the reply of GET CONFIGURATION, cut to the allocation length; none where the drive refuses
-- them, with the page bit and for the fourth request type
unfoldable pub inquiry_room : ℕ → ℕ → ℕ
inquiry_room pageBit n = cond (eqb pageBit 0) (min inquiry_length n) 0

unfoldable pub configuration_room : ℕ → ℕ → ℕ → ℕ
configuration_room request_type start n = cond (eqb request_type 3) 0 (min (length (configuration_bytes request_type start)) n)

-- the least room for the reply: a READ's sectors, a report cut to its allocation length; any room does for the others
unfoldable pub reply_room : Command → ℕ
reply_room TestUnitReady = 0
reply_room (RequestSense n) = min sense_length n
reply_room (Inquiry p n) = inquiry_room p n
reply_room ReadCapacity = capacity_length
reply_room (Read a n) = 2048 * n
reply_room (Write a n) = 0
reply_room SynchronizeCache = 0
reply_room (ReserveTrack n) = 0
reply_room (CloseTrackSession f n) = 0
reply_room (GetConfiguration t s n) = configuration_room t s n
reply_room (ReadDiscInformation t n) = min disc_information_length n
reply_room (ReadTrackInformation t m n) = min track_information_length n
reply_room Unlisted = 0

-- whether the lent data and reply buffer have lengths that L4 lets through
unfoldable pub lengths_fit : Command → ℕ → ℕ → Bool
lengths_fit c dataLent replyLent = eqb dataLent (data_length c) && leb (reply_room c) replyLent
