-- What the history says is recorded: a block and its sectors are recorded from the command that gathers its sixteenth sector, flushes it or
-- fills it with zeros. A fold over the accepted commands; of the disc it is told where a reserved fragment lies that is closed, nothing else.
use Rattle.std.specs.Prelude.{ℕ, zero, suc, ◌+◌, ◌-◌, ◌*◌, ◌/◌, ◌≡◌, Bool, true, false, cond, ◌&&◌, ◌||◌, List, [], ◌∷◌, eqb, length, get_or, take}
use Rattle.fragments.specs.Address.{lba}
use Rattle.protocol.specs.Command.{decode}
use Rattle.outcomes.specs.Recorded.{among}
use Rattle.disc.specs.Records.{is_recorded, is_pending}
use Rattle.drive.specs.Step.{Drive, Request}
use Rattle.drive.specs.Alike.{Alike}
use Rattle.history.specs.Types.{Disc, Answer, Accepted, Link, Drive as by_drive, Command, TestUnitReady, RequestSense, Inquiry, ReadCapacity, Read, Write, SynchronizeCache, ReserveTrack, CloseTrackSession, GetConfiguration, ReadDiscInformation, ReadTrackInformation, Unlisted}
use Rattle.history.specs.Sequence.{Start, Turn, found, result, final, Admissible}
use Rattle.history.specs.Account.{Extent, extent_of}

-- which blocks are recorded, how many accepted sectors of a block not yet recorded there are, and the address after the last accepted one
pub record Past : Type 0 where
  pub recorded : ℕ → Bool
  pub held : ℕ
  pub next : ℕ

abbrev pub beginning : Past
beginning = record { recorded = λ k. false; held = 0; next = 0 }

-- block b is recorded, and no sector is held any more
abbrev pub block_recorded : ℕ → Past → Past
block_recorded b h = record { recorded = λ k. h.recorded k || eqb k b; held = 0; next = h.next }

-- the sector at an address gathers: the sixteenth of a block records it
abbrev pub sector_held : ℕ → Past → Past
sector_held a h = record { recorded = h.recorded; held = h.held + 1; next = a + 1 }

abbrev pub sector_gathered : ℕ → Past → Past
sector_gathered a h = cond (eqb (h.held + 1) 16) (block_recorded (a / 16) (sector_held a h)) (sector_held a h)

-- n sectors from an address on, one after another
unfoldable pub sectors_gathered : ℕ → ℕ → Past → Past
sectors_gathered a zero h = h
sectors_gathered a (suc n) h = sectors_gathered (a + 1) n (sector_gathered a h)

-- a "flush" records the block that the held sectors are of; with none held nothing happens
unfoldable pub past_flushed : Past → Past
past_flushed h = cond (eqb h.held 0) h (block_recorded (h.next / 16) h)

-- all blocks of an extent are filled
abbrev pub past_filled : Extent → Past → Past
past_filled x h = record { recorded = λ k. h.recorded k || among x.first x.sectors (16 * k); held = h.held; next = h.next }

-- an accepted command. A WRITE that goes on after the held sectors adds to them; any other one is to another fragment and flushes them first
unfoldable pub past_after : Disc → Command → Past → Past
past_after d (Write a n) h = cond (eqb n 0) h (sectors_gathered a.0 n (cond (eqb a.0 h.next) h (past_flushed h)))
past_after d SynchronizeCache h = past_flushed h
past_after d (CloseTrackSession function n) h =
    cond (eqb function 0b001 && (extent_of d n).reserved) (past_filled (extent_of d n) (past_flushed h)) (past_flushed h)
past_after d TestUnitReady h = h
past_after d (RequestSense allocation) h = h
past_after d (Inquiry pageBit allocation) h = h
past_after d ReadCapacity h = h
past_after d (Read a n) h = h
past_after d (ReserveTrack size) h = h
past_after d (GetConfiguration request_type start allocation) h = h
past_after d (ReadDiscInformation dataType allocation) h = h
past_after d (ReadTrackInformation addressType n allocation) h = h
past_after d Unlisted h = h

-- a command by its answer: what is refused records nothing
unfoldable pub past_noted : Disc → Request → Answer → Past → Past
past_noted d q Accepted h = past_after d (decode q.cdb) h
past_noted d q (Link r) h = h
past_noted d q (by_drive r) h = h

-- over a sequence, from a past on and since blank
unfoldable pub past_from : List Turn → Drive → Past → Past
past_from [] s h = h
past_from (t ∷ ts) s h = past_from ts (result t s).after (past_noted s.disc t.request (result t s).answer h)

abbrev pub past : List Turn → Drive → Past
past ts s = past_from ts s beginning

-- document 01's "stale" bytes, by the history: two drives that differ at most in the bytes of unrecorded blocks and past the pending count
pub record StaleApart (h : Past) (s e : Drive) : Type 0 where
  pub disc : s.disc ≡ e.disc
  pub medium_length : length s.medium ≡ length e.medium
  pub pending_length : length s.pending ≡ length e.pending
  pub recorded : (i : ℕ) → h.recorded (i / 32768) ≡ true → get_or s.medium i 0 ≡ get_or e.medium i 0
  pub pending : take (2048 * h.held) s.pending ≡ take (2048 * h.held) e.pending

-- a sequence in which nothing but those bytes changes before any command
unfoldable pub StaleChanges : List Turn → Drive → Past → Type 0
StaleChanges [] s h = Unit {0}
StaleChanges (t ∷ ts) s h = StaleApart h s (found t s) × StaleChanges ts (result t s).after (past_noted s.disc t.request (result t s).answer h)

-- for every capacity, every start, every sequence and every change of stale bytes, at every point
pub record RecordedByHistory : Type 0 where
  -- what the state calls recorded and pending is so by the history; pending are the last sectors that were accepted
  pub recorded :
      (c : ℕ) (s : Drive) → Start c s → (ts : List Turn) → Admissible ts s → (a : ℕ) → is_recorded (final ts s).disc (lba a) ≡ (past ts s).recorded (a / 16)
  pub pending : (c : ℕ) (s : Drive) → Start c s → (ts : List Turn) → Admissible ts s → (final ts s).disc.pending ≡ (past ts s).held
  pub waiting :
      (c : ℕ) (s : Drive) → Start c s → (ts : List Turn) → Admissible ts s → (a : ℕ)
      → is_pending (final ts s).disc (lba a) ≡ among ((past ts s).next - (past ts s).held) (past ts s).held a
  -- so demand 3 is about exactly the sequences in which stale bytes alone are changed
  pub stale : (c : ℕ) (s : Drive) → Start c s → (ts : List Turn) → Admissible ts s → StaleChanges ts s beginning
  pub admissible : (c : ℕ) (s : Drive) → Start c s → (ts : List Turn) → StaleChanges ts s beginning → Admissible ts s
  -- and at its end the drives are alike exactly when they differ in stale bytes at most
  pub apart : (c : ℕ) (s : Drive) → Start c s → (ts : List Turn) → Admissible ts s → (e : Drive) → Alike (final ts s) e → StaleApart (past ts s) (final ts s) e
  pub alike : (c : ℕ) (s : Drive) → Start c s → (ts : List Turn) → Admissible ts s → (e : Drive) → StaleApart (past ts s) (final ts s) e → Alike (final ts s) e
