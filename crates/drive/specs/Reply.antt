-- The bytes of a reply.
use Rattle.std.specs.Prelude.{ℕ, ◌+◌, ◌*◌, ◌≤◌, ◌≡◌, List, ◌++◌, length}
use Rattle.protocol.specs.Reply.{said, reply_bytes}
use Rattle.decisions.specs.Run.{stretch}
use Rattle.drive.specs.Types.{Lba, Reply, Transfer, Nothing, Send, Gather, Fill}

-- a READ's sectors, those of the medium and then those of the pending buffer, or the bytes that are sent of a report
unfoldable pub sent_bytes : Transfer → Reply → List ℕ → List ℕ → List ℕ
sent_bytes Nothing r medium pending = reply_bytes r
sent_bytes (Send a n i k) r medium pending = stretch a.0 n medium ++ stretch i k pending
sent_bytes (Gather b held n) r medium pending = reply_bytes r
sent_bytes (Fill b n) r medium pending = reply_bytes r

-- what the code that copies them asks: a READ's sectors lie in medium and pending buffer, and there is room for what is sent
pub record Sendable (medium pending : List ℕ) (t : Transfer) (r : Reply) (replyLent : ℕ) : Type 0 where
  pub within :
      (a : Lba) (n i k : ℕ) → t ≡ Send a n i k → (2048 * (a.0 + n) ≤ length medium) × (2048 * (i + k) ≤ length pending)
  pub room : length (sent_bytes t r medium pending) ≤ replyLent
  pub report : r.length ≤ replyLent
  pub whole : r.length ≤ length (said r.content)
