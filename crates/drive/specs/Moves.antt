-- What each part of a plan does to the medium and to the pending buffer.
use Rattle.std.specs.Prelude.{ℕ, ◌+◌, ◌*◌, ◌/◌, List, [], ◌++◌, take, drop}
use Rattle.drive.specs.Types.{Flush, Option, None, Some, Transfer, Nothing, Send, Gather, Fill, Plan}
use Rattle.drive.specs.Bytes.{zeros, splice, padded}

-- the pending sectors, then the data of a WRITE
unfoldable pub stream : ℕ → List ℕ → List ℕ → List ℕ
stream held pending payload = take (2048 * held) pending ++ payload

-- n sectors gather after those held for block b: each sixteen of them are recorded, from that block on
unfoldable pub gathered_medium : ℕ → ℕ → ℕ → List ℕ → List ℕ → List ℕ → List ℕ
gathered_medium b held n medium pending payload =
    splice medium (32768 * b) (take (32768 * ((held + n) / 16)) (stream held pending payload))

-- and the rest stays pending, with zeros after it
unfoldable pub gathered_pending : ℕ → ℕ → List ℕ → List ℕ → List ℕ
gathered_pending held n pending payload = padded (drop (32768 * ((held + n) / 16)) (stream held pending payload))

-- a "flush": the pending block is recorded, its missing sectors zero, and the pending buffer becomes all zero
unfoldable pub flushed_medium : Option Flush → List ℕ → List ℕ → List ℕ
flushed_medium None medium pending = medium
flushed_medium (Some f) medium pending = splice medium (32768 * f.block.0) (padded (take (2048 * f.sectors) pending))

unfoldable pub flushed_pending : Option Flush → List ℕ → List ℕ
flushed_pending None pending = pending
flushed_pending (Some f) pending = padded []

-- then the transfer, on medium and pending buffer as the flush leaves them
unfoldable pub transferred_medium : Transfer → List ℕ → List ℕ → List ℕ → List ℕ
transferred_medium Nothing medium pending payload = medium
transferred_medium (Send a n i k) medium pending payload = medium
transferred_medium (Gather b held n) medium pending payload = gathered_medium b.0 held n medium pending payload
transferred_medium (Fill b n) medium pending payload = splice medium (32768 * b.0) (zeros (32768 * n))

unfoldable pub transferred_pending : Transfer → List ℕ → List ℕ → List ℕ
transferred_pending Nothing pending payload = pending
transferred_pending (Send a n i k) pending payload = pending
transferred_pending (Gather b held n) pending payload = gathered_pending held n pending payload
transferred_pending (Fill b n) pending payload = pending

-- a whole plan
unfoldable pub moved_medium : Plan → List ℕ → List ℕ → List ℕ → List ℕ
moved_medium p medium pending payload =
    transferred_medium p.transfer (flushed_medium p.flush medium pending) (flushed_pending p.flush pending) payload

unfoldable pub moved_pending : Plan → List ℕ → List ℕ → List ℕ
moved_pending p pending payload = transferred_pending p.transfer (flushed_pending p.flush pending) payload
