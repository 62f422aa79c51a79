-- What a decision has the upper layer do to the bytes.
use Rattle.std.specs.Prelude.{ℕ}
use Rattle.decisions.specs.Types.{Block, Flush, Option, None, Transfer, Nothing, Plan}

-- the pending block recorded, so many sectors of it pending
abbrev pub recording : Block → ℕ → Flush
recording b n = record { block = b; sectors = n }

-- the flush first, if there is one, then the transfer
abbrev pub plan : Option Flush → Transfer → Plan
plan f t = record { flush = f; transfer = t }

-- nothing is done to the bytes
abbrev pub no_plan : Plan
no_plan = plan None Nothing
