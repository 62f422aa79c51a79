-- What of a drive's bytes counts: recorded sectors and pending sectors. All other bytes are "stale".
use Rattle.std.specs.Prelude.{ℕ, ◌*◌, ◌/◌, Bool, true, ◌≡◌, List, length, get_or, take}
use Rattle.fragments.specs.Address.{lba}
use Rattle.disc.specs.Records.{is_recorded}
use Rattle.drive.specs.Types.{Disc}
use Rattle.drive.specs.Step.{Drive}

-- byte i of the medium lies in a recorded sector
abbrev pub recorded_byte : Disc → ℕ → Bool
recorded_byte d i = is_recorded d (lba (i / 2048))

-- the bytes of the pending sectors
abbrev pub pending_sectors : Drive → List ℕ
pending_sectors s = take (2048 * s.disc.pending) s.pending

-- two drives that differ in stale bytes at most: the same disc with list and sense, buffers of the same lengths, the same recorded
-- bytes and the same pending sectors
pub record Alike (s t : Drive) : Type 0 where
  pub disc : s.disc ≡ t.disc
  pub medium_length : length s.medium ≡ length t.medium
  pub pending_length : length s.pending ≡ length t.pending
  pub recorded : (i : ℕ) → recorded_byte s.disc i ≡ true → get_or s.medium i 0 ≡ get_or t.medium i 0
  pub pending : pending_sectors s ≡ pending_sectors t
