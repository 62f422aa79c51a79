-- The blocks that a plan records, and the sectors that it leaves pending.
use Rattle.std.specs.Prelude.{ℕ, ◌+◌, ◌/◌, ◌%◌, Bool, false, ◌&&◌, ◌||◌, eqb, leb, ltb}
use Rattle.outcomes.specs.Types.{Flush, Option, None, Some, Transfer, Nothing, Send, Gather, Fill, Plan, Disc}
use Rattle.fragments.specs.Fragment.{first_unrecorded}
use Rattle.disc.specs.Records.{numbered}

-- k is one of n blocks from block b on
abbrev pub among : ℕ → ℕ → ℕ → Bool
among b n k = leb b k && ltb k (b + n)

-- the pending block of a flush
unfoldable pub flushes : Option Flush → ℕ → Bool
flushes None k = false
flushes (Some f) k = eqb k f.block.0

-- the blocks whose sixteenth sector is gathered, or that are filled with zeros
unfoldable pub transfers : Transfer → ℕ → Bool
transfers Nothing k = false
transfers (Send a n i p) k = false
transfers (Gather b held n) k = among b.0 ((held + n) / 16) k
transfers (Fill b n) k = among b.0 n k

-- whether a plan records block k
unfoldable pub records_block : Plan → ℕ → Bool
records_block p k = flushes p.flush k || transfers p.transfer k

-- the pending sectors after a flush, and after the transfer after it
unfoldable pub flushed_count : Option Flush → ℕ → ℕ
flushed_count None pending = pending
flushed_count (Some f) pending = 0

unfoldable pub transferred_count : Transfer → ℕ → ℕ
transferred_count Nothing pending = pending
transferred_count (Send a n i k) pending = pending
transferred_count (Gather b held n) pending = (held + n) % 16
transferred_count (Fill b n) pending = pending

-- the block that the pending sectors will be recorded in
abbrev pub pending_block : Disc → ℕ
pending_block d = (first_unrecorded (numbered d d.owner)).0

-- and after a transfer
unfoldable pub transferred_block : Transfer → ℕ → ℕ
transferred_block Nothing b = b
transferred_block (Send a n i k) b = b
transferred_block (Gather c held n) b = c.0 + (held + n) / 16
transferred_block (Fill c n) b = b
