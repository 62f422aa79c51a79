-- What a flush comes to, and a command that flushes and closes the last record.
use Rattle.std.specs.Prelude.{Bool}
use Rattle.decisions.specs.Types.{Entry, None, Nothing, Close, Flushing, Decision}
use Rattle.protocol.specs.Reply.{no_reply}
use Rattle.decisions.specs.Plan.{plan}
use Rattle.fragments.specs.Entry.{no_entry}
use Rattle.decisions.specs.Decision.{accepting}
use Rattle.fragments.specs.Tail.{tail_closed}

-- nothing is flushed
abbrev pub no_flushing : Flushing
no_flushing = record { entry = no_entry; plan = None; recorded = 0 }

-- a flush, the last record closed, a tail after it: what CLOSE of the session and of the disc are decided to where they are not refused
unfoldable pub closing_last : Flushing → Entry → Entry → Bool → Decision
closing_last flush last tail finalized =
    accepting (Close flush.entry (tail_closed last) tail finalized) flush.recorded no_reply (plan flush.plan Nothing)
