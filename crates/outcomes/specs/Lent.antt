-- What a plan asks of the lent buffers. Every plan that is decided on finds it there (proofs/Laws/Lent).
use Rattle.std.specs.Prelude.{ℕ, ◌+◌, ◌*◌, ◌/◌, ◌^◌, ◌≤◌, ◌<◌, ◌≡◌, length}
use Rattle.protocol.specs.Reply.{said}
use Rattle.outcomes.specs.Types.{Flush, Option, None, Some, Transfer, Nothing, Send, Gather, Fill, Verdict}

-- the pending block has 1 to 15 sectors, and its block lies in the medium
abbrev pub FlushFits : ℕ → Option Flush → Type 0
FlushFits mediumLent None = Unit {0}
FlushFits mediumLent (Some f) = (1 ≤ f.sectors) × (f.sectors < 16) × (32768 * (f.block.0 + 1) ≤ mediumLent)

-- the recorded sectors of a READ lie in the medium, its pending ones in the pending buffer; those of a WRITE are the data, and the blocks
-- that they fill lie in the medium, as do those filled with zeros. A block's number fits 32 bits
abbrev pub TransferFits : ℕ → ℕ → Transfer → Type 0
TransferFits mediumLent dataLent Nothing = Unit {0}
TransferFits mediumLent dataLent (Send a n i k) = (2048 * (a.0 + n) ≤ mediumLent) × (i + k ≤ 16)
TransferFits mediumLent dataLent (Gather b p n) =
    (p < 16) × (dataLent ≡ 2048 * n) × (b.0 + (p + n) / 16 < 2 ^ 32) × (32768 * (b.0 + (p + n) / 16) ≤ mediumLent)
TransferFits mediumLent dataLent (Fill b k) = (b.0 + k < 2 ^ 32) × (32768 * (b.0 + k) ≤ mediumLent)

-- the sectors that are sent fit the reply buffer
abbrev pub RunFits : ℕ → Transfer → Type 0
RunFits replyLent Nothing = Unit {0}
RunFits replyLent (Send a n i k) = 2048 * (n + k) ≤ replyLent
RunFits replyLent (Gather b p n) = Unit {0}
RunFits replyLent (Fill b k) = Unit {0}

-- what a verdict asks of a medium, data and a reply buffer of these lengths
pub record Fits (mediumLent dataLent replyLent : ℕ) (v : Verdict) : Type 0 where
  pub flush : FlushFits mediumLent v.plan.flush
  pub transfer : TransferFits mediumLent dataLent v.plan.transfer
  pub run : RunFits replyLent v.plan.transfer
  pub report : v.reply.length ≤ replyLent
  pub whole : v.reply.length ≤ length (said v.reply.content)
