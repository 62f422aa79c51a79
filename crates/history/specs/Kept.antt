-- What the history's account says of the drive, over whole sequences of commands from a blank disc: document 01's "kept count", and that
-- what is read is what was written.
use Rattle.std.specs.Prelude.{ℕ, ◌+◌, ◌-◌, ◌≤◌, ◌<◌, ◌≡◌, true, false, ◌⊎◌, List}
use Rattle.fragments.specs.Address.{lba, sectors_in, left_over}
use Rattle.protocol.specs.Command.{decode}
use Rattle.disc.specs.Records.{pending_in, numbered, is_recorded, is_pending}
use Rattle.drive.specs.Step.{Drive}
use Rattle.drive.specs.Alike.{Alike}
use Rattle.drive.specs.Requests.{ReadOf}
use Rattle.history.specs.Types.{Lba, Disc, LinkRefusal, CommandBlockLength, TransferLength, Accepted, Link, Drive as by_drive, BlankCheck, Read}
use Rattle.history.specs.Sequence.{Start, Turn, found, result, final, Admissible}
use Rattle.history.specs.Account.{Account, account, sector_at, content_at, recorded_at, pending_at, readable_at}

-- the "kept count" of the fragment with a number, and the state's own figures
pub record Keeps (k : Account) (d : Disc) (n : ℕ) : Type 0 where
  -- recorded sectors = sectors accepted there - pending there + zero-filled there
  pub kept : k.recorded ≡ k.accepted - k.pending + k.zero_filled
  -- pending sectors are accepted ones, so the difference is a plain one
  pub within : k.pending ≤ k.accepted
  -- 16W, F, and the pending count
  pub recorded : k.recorded ≡ sectors_in (numbered d n).recorded
  pub zero_filled : k.zero_filled ≡ (numbered d n).zeroed
  pub pending : k.pending ≡ pending_in d n

-- for every capacity, every start, every sequence and every change of stale bytes, at every point
pub record KeptAccount : Type 0 where
  -- the kept count of every fragment; numbers count from 1
  pub keeps :
      (c : ℕ) (s : Drive) → Start c s → (ts : List Turn) → Admissible ts s → (n : ℕ) → 1 ≤ n → Keeps (account n ts s) (final ts s).disc n
  -- with right buffers no link refusal but L1 and L4, which a command's own lengths decide, ever comes up: no L2 and no L3
  pub lengths :
      (c : ℕ) (s : Drive) → Start c s → (ts : List Turn) → Admissible ts s → (t : Turn) → Alike (final ts s) (found t (final ts s))
      → (x : LinkRefusal) → (result t (final ts s)).answer ≡ Link x → (x ≡ CommandBlockLength) ⊎ (x ≡ TransferLength)
  -- recorded are exactly the addresses in blocks that the history recorded, and pending those of its pending sectors
  pub recorded :
      (c : ℕ) (s : Drive) → Start c s → (ts : List Turn) → Admissible ts s → (a : ℕ) → is_recorded (final ts s).disc (lba a) ≡ recorded_at ts s a
  pub pending :
      (c : ℕ) (s : Drive) → Start c s → (ts : List Turn) → Admissible ts s → (a : ℕ) → is_pending (final ts s).disc (lba a) ≡ pending_at ts s a
  -- a pending sector stands in the pending buffer at the place that it has in its block, and is what the history put at its address
  pub held :
      (c : ℕ) (s : Drive) → Start c s → (ts : List Turn) → Admissible ts s → (a : ℕ) → pending_at ts s a ≡ true
      → sector_at (left_over a) (final ts s).pending ≡ content_at ts s a
  -- a READ of 1 up is accepted exactly when every sector of it is readable by the history, whatever stale bytes hold
  pub readable :
      (c : ℕ) (s : Drive) → Start c s → (ts : List Turn) → Admissible ts s → (t : Turn) → Alike (final ts s) (found t (final ts s))
      → (a : Lba) (n : ℕ) → ReadOf t.request a n → 1 ≤ n
      → (((i : ℕ) → i < n → readable_at ts s (a.0 + i) ≡ true) → (result t (final ts s)).answer ≡ Accepted)
      × ((result t (final ts s)).answer ≡ Accepted → (i : ℕ) → i < n → readable_at ts s (a.0 + i) ≡ true)
  -- and within the disc every other one is refused by 8/00/00
  pub blank :
      (c : ℕ) (s : Drive) → Start c s → (ts : List Turn) → Admissible ts s → (t : Turn) → Alike (final ts s) (found t (final ts s))
      → (a : Lba) (n : ℕ) → ReadOf t.request a n → a.0 + n ≤ sectors_in (final ts s).disc.capacity
      → (i : ℕ) → i < n → readable_at ts s (a.0 + i) ≡ false → (result t (final ts s)).answer ≡ by_drive BlankCheck
  -- every sector of an accepted READ, recorded or pending, is what the history put at its address
  pub back :
      (c : ℕ) (s : Drive) → Start c s → (ts : List Turn) → Admissible ts s → (t : Turn) → Alike (final ts s) (found t (final ts s))
      → (a : Lba) (n : ℕ) → decode t.request.cdb ≡ Read a n → (result t (final ts s)).answer ≡ Accepted
      → (i : ℕ) → i < n → sector_at i (result t (final ts s)).reply ≡ content_at ts s (a.0 + i)
