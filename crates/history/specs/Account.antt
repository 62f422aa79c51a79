-- What the history says of each fragment: a fold over the commands that were accepted, by document 01's rules. Of the disc it is told where
-- the fragments lie and nothing else: not W, not F, not the pending count.
use Rattle.std.specs.Prelude.{ℕ, ◌+◌, ◌-◌, ◌*◌, ◌/◌, ◌%◌, Bool, false, cond, ◌&&◌, ◌||◌, List, [], ◌∷◌, take, drop, eqb, ltb}
use Rattle.fragments.specs.Address.{lba, first_sector, sectors_in}
use Rattle.protocol.specs.Command.{decode}
use Rattle.fragments.specs.Fragment.{is_reserved}
use Rattle.outcomes.specs.Recorded.{among}
use Rattle.disc.specs.Records.{numbered, at_address}
use Rattle.drive.specs.Bytes.{zeros}
use Rattle.drive.specs.Step.{Drive, Request}
use Rattle.history.specs.Types.{Fragment, Disc, Option, Some, None, Answer, Accepted, Link, Drive as by_drive, Command, TestUnitReady, RequestSense, Inquiry, ReadCapacity, Read, Write, SynchronizeCache, ReserveTrack, CloseTrackSession, GetConfiguration, ReadDiscInformation, ReadTrackInformation, Unlisted}
use Rattle.history.specs.Sequence.{Turn, result, final}

-- where a fragment lies: its first sector, how many it has, and whether they were reserved
pub record Extent : Type 0 where
  pub first : ℕ
  pub sectors : ℕ
  pub reserved : Bool

abbrev pub extent : Fragment → Extent
extent f = record { first = (first_sector f.start).0; sectors = sectors_in f.length; reserved = is_reserved f.kind }

abbrev pub extent_of : Disc → ℕ → Extent
extent_of d n = extent (numbered d n)

-- the bytes of sector i of a run of sectors
abbrev pub sector_at : ℕ → List ℕ → List ℕ
sector_at i bytes = take 2048 (drop (2048 * i) bytes)

-- the account of one fragment, in sectors, and the bytes at each of its addresses: the sector that an accepted WRITE brought there, or the
-- drive's zeros
pub record Account : Type 0 where
  pub accepted : ℕ
  pub recorded : ℕ
  pub zero_filled : ℕ
  pub pending : ℕ
  pub content : ℕ → List ℕ

abbrev pub opened : Account
opened = record { accepted = 0; recorded = 0; zero_filled = 0; pending = 0; content = λ a. [] }

-- a WRITE of n sectors is accepted: they gather after the pending ones, each sixteen are recorded, and each sector stands at its address
unfoldable pub written : ℕ → ℕ → List ℕ → Account → Account
written address n payload k =
    record {
      accepted = k.accepted + n;
      recorded = k.recorded + 16 * ((k.pending + n) / 16);
      zero_filled = k.zero_filled;
      pending = (k.pending + n) % 16;
      content = λ a. cond (among address n a) (sector_at (a - address) payload) (k.content a);
    }

-- the drive records n sectors of zeros after the pending ones
abbrev pub zeroed : Extent → ℕ → Account → Account
zeroed x n k =
    record {
      accepted = k.accepted;
      recorded = k.recorded + k.pending + n;
      zero_filled = k.zero_filled + n;
      pending = 0;
      content = λ a. cond (among (x.first + k.recorded + k.pending) n a) (zeros 2048) (k.content a);
    }

-- the sectors that the pending block lacks
abbrev pub missing : Account → ℕ
missing k = 16 - k.pending

-- a "flush": they become zero; with none pending nothing happens
unfoldable pub flushed : Extent → Account → Account
flushed x k = cond (eqb k.pending 0) k (zeroed x (missing k) k)

-- a reserved fragment is closed: all its sectors not yet recorded become zero
unfoldable pub filled : Extent → Account → Account
filled x k = zeroed x (x.sectors - k.recorded) k

-- an accepted command, as it bears on the fragment with a number and an extent. A WRITE goes to the fragment that its address lies in, and
-- flushes every other one
unfoldable pub credited : ℕ → Extent → Command → List ℕ → Account → Account
credited n x (Write a count) payload k =
    cond (eqb count 0) k (cond (among x.first x.sectors a.0) (written a.0 count payload k) (flushed x k))
credited n x SynchronizeCache payload k = flushed x k
credited n x (CloseTrackSession function number) payload k =
    cond (eqb function 0b001 && eqb number n && x.reserved) (filled x (flushed x k)) (flushed x k)
credited n x TestUnitReady payload k = k
credited n x (RequestSense allocation) payload k = k
credited n x (Inquiry pageBit allocation) payload k = k
credited n x ReadCapacity payload k = k
credited n x (Read a count) payload k = k
credited n x (ReserveTrack size) payload k = k
credited n x (GetConfiguration request_type start allocation) payload k = k
credited n x (ReadDiscInformation dataType allocation) payload k = k
credited n x (ReadTrackInformation addressType number allocation) payload k = k
credited n x Unlisted payload k = k

-- a command by its answer: what is refused counts for nothing
unfoldable pub noted : ℕ → Extent → Request → Answer → Account → Account
noted n x q Accepted k = credited n x (decode q.cdb) q.payload k
noted n x q (Link r) k = k
noted n x q (by_drive r) k = k

-- the account of the fragment with a number, from an account on over a sequence
unfoldable pub account_from : ℕ → List Turn → Drive → Account → Account
account_from n [] s k = k
account_from n (t ∷ ts) s k =
    account_from n ts (result t s).after (noted n (extent_of s.disc n) t.request (result t s).answer k)

-- since blank
abbrev pub account : ℕ → List Turn → Drive → Account
account n ts s = account_from n ts s opened

-- what the history put at an address, whether in a block that it recorded, and whether it is still pending, after the recorded ones: by the
-- account of the fragment that the address lies in
unfoldable pub content_in : List Turn → Drive → ℕ → Option ℕ → List ℕ
content_in ts s a (Some n) = (account n ts s).content a
content_in ts s a None = []

unfoldable pub recorded_in : List Turn → Drive → ℕ → Option ℕ → Bool
recorded_in ts s a (Some n) = ltb a ((extent_of (final ts s).disc n).first + (account n ts s).recorded)
recorded_in ts s a None = false

unfoldable pub waits_in : List Turn → Drive → ℕ → Option ℕ → Bool
waits_in ts s a (Some n) = among ((extent_of (final ts s).disc n).first + (account n ts s).recorded) (account n ts s).pending a
waits_in ts s a None = false

abbrev pub content_at : List Turn → Drive → ℕ → List ℕ
content_at ts s a = content_in ts s a (at_address (final ts s).disc (lba a))

abbrev pub recorded_at : List Turn → Drive → ℕ → Bool
recorded_at ts s a = recorded_in ts s a (at_address (final ts s).disc (lba a))

abbrev pub pending_at : List Turn → Drive → ℕ → Bool
pending_at ts s a = waits_in ts s a (at_address (final ts s).disc (lba a))

-- a "readable" sector, by the history
abbrev pub readable_at : List Turn → Drive → ℕ → Bool
readable_at ts s a = recorded_at ts s a || pending_at ts s a
