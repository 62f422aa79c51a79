-- What the accepted WRITEs of a history brought, told by requests and answers alone; and what of it is on the disc: what is read is what was
-- written, and the "kept count" of each fragment as it is listed in the end.
use Rattle.std.specs.Prelude.{ℕ, zero, suc, ◌+◌, ◌-◌, ◌≤◌, ◌<◌, ◌≡◌, cond, List, [], ◌∷◌, ◌++◌, length}
use Rattle.fragments.specs.Address.{sectors_in}
use Rattle.protocol.specs.Command.{decode}
use Rattle.disc.specs.Records.{pending_in, numbered}
use Rattle.outcomes.specs.Recorded.{among}
use Rattle.drive.specs.Bytes.{zeros}
use Rattle.drive.specs.Step.{Drive, Request}
use Rattle.drive.specs.Alike.{Alike}
use Rattle.history.specs.Types.{Lba, Disc, Answer, Accepted, Link, Drive as by_drive, Command, TestUnitReady, RequestSense, Inquiry, ReadCapacity, Read, Write, SynchronizeCache, ReserveTrack, CloseTrackSession, GetConfiguration, ReadDiscInformation, ReadTrackInformation, Unlisted}
use Rattle.history.specs.Sequence.{Start, Turn, found, result, final, Admissible}
use Rattle.history.specs.Account.{Extent, extent_of, sector_at, account}

-- a WRITE: so many sectors from an address on, given by their bytes
pub record Written : Type 0 where
  pub address : ℕ
  pub count : ℕ
  pub payload : List ℕ

-- the WRITE that a command is, if it is one
unfoldable pub write_of : Command → List ℕ → List Written
write_of (Write a n) x = record { address = a.0; count = n; payload = x } ∷ []
write_of TestUnitReady x = []
write_of (RequestSense allocation) x = []
write_of (Inquiry pageBit allocation) x = []
write_of ReadCapacity x = []
write_of (Read a n) x = []
write_of SynchronizeCache x = []
write_of (ReserveTrack size) x = []
write_of (CloseTrackSession function n) x = []
write_of (GetConfiguration request_type start allocation) x = []
write_of (ReadDiscInformation dataType allocation) x = []
write_of (ReadTrackInformation addressType n allocation) x = []
write_of Unlisted x = []

-- if it is accepted
unfoldable pub accepted_write : Answer → Request → List Written
accepted_write Accepted q = write_of (decode q.cdb) q.payload
accepted_write (Link r) q = []
accepted_write (by_drive r) q = []

-- the accepted WRITEs of a sequence, in their order
unfoldable pub writes : List Turn → Drive → List Written
writes [] s = []
writes (t ∷ ts) s = accepted_write (result t s).answer t.request ++ writes ts (result t s).after

-- the sectors that WRITEs brought to an address
unfoldable pub brought_to : ℕ → List Written → List (List ℕ)
brought_to a [] = []
brought_to a (w ∷ ws) = cond (among w.address w.count a) (sector_at (a - w.address) w.payload ∷ brought_to a ws) (brought_to a ws)

-- what stands at an address then: the sector brought there, and the drive's zeros where there is none
unfoldable pub sole : List (List ℕ) → List ℕ
sole [] = zeros 2048
sole (x ∷ xs) = x

-- how many sectors WRITEs brought to n addresses from a on
unfoldable pub brought_in : ℕ → ℕ → List Written → ℕ
brought_in a zero ws = 0
brought_in a (suc n) ws = length (brought_to a ws) + brought_in (a + 1) n ws

-- for every capacity, every start, every sequence and every change of stale bytes, at every point
pub record ReadBack : Type 0 where
  -- no two accepted WRITEs brought anything to one address
  pub once : (c : ℕ) (s : Drive) → Start c s → (ts : List Turn) → Admissible ts s → (a : ℕ) → length (brought_to a (writes ts s)) ≤ 1
  -- every sector of an accepted READ, recorded or pending, is what an accepted WRITE brought to its address, or zeros where none brought
  -- anything
  pub back :
      (c : ℕ) (s : Drive) → Start c s → (ts : List Turn) → Admissible ts s → (t : Turn) → Alike (final ts s) (found t (final ts s))
      → (a : Lba) (n : ℕ) → decode t.request.cdb ≡ Read a n → (result t (final ts s)).answer ≡ Accepted
      → (i : ℕ) → i < n → sector_at i (result t (final ts s)).reply ≡ sole (brought_to (a.0 + i) (writes ts s))
  -- so, request by request: sector i of an accepted WRITE at a is sector j of every later accepted READ at b, where a + i = b + j
  pub later :
      (c : ℕ) (s : Drive) → Start c s → (ts : List Turn) (w : Turn) (us : List Turn) → Admissible (ts ++ (w ∷ us)) s
      → (a : Lba) (n : ℕ) → decode w.request.cdb ≡ Write a n → (result w (final ts s)).answer ≡ Accepted
      → (t : Turn) → Alike (final (ts ++ (w ∷ us)) s) (found t (final (ts ++ (w ∷ us)) s))
      → (b : Lba) (m : ℕ) → decode t.request.cdb ≡ Read b m → (result t (final (ts ++ (w ∷ us)) s)).answer ≡ Accepted
      → (i j : ℕ) → i < n → j < m → a.0 + i ≡ b.0 + j
      → sector_at j (result t (final (ts ++ (w ∷ us)) s)).reply ≡ sector_at i w.request.payload

-- the sectors that accepted WRITEs brought to the addresses of an extent
abbrev pub brought_into : Extent → List Written → ℕ
brought_into x ws = brought_in x.first x.sectors ws

-- the "kept count" of a fragment as it is listed: "sectors accepted there" are those whose addresses lie in it
pub record ListedKeeps (ws : List Written) (d : Disc) (n : ℕ) : Type 0 where
  pub kept : sectors_in (numbered d n).recorded ≡ brought_into (extent_of d n) ws - pending_in d n + (numbered d n).zeroed
  pub within : pending_in d n ≤ brought_into (extent_of d n) ws

pub record KeptAsListed : Type 0 where
  pub keeps : (c : ℕ) (s : Drive) → Start c s → (ts : List Turn) → Admissible ts s → (n : ℕ) → 1 ≤ n → ListedKeeps (writes ts s) (final ts s).disc n
  -- they are the sectors that the account has for its number
  pub accepted :
      (c : ℕ) (s : Drive) → Start c s → (ts : List Turn) → Admissible ts s → (n : ℕ) → 1 ≤ n
      → (account n ts s).accepted ≡ brought_into (extent_of (final ts s).disc n) (writes ts s)
