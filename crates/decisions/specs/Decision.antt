-- The three kinds of decision: accepted, refused by the drive, refused on the link.
use Rattle.std.specs.Prelude.{ℕ}
use Rattle.decisions.specs.Types.{Sense, Reply, Plan, DriveRefusal, LinkRefusal, Answer, Accepted, Link, Drive, Effect, Keep, Decision}
use Rattle.protocol.specs.Answer.{no_sense, refusal_sense}
use Rattle.protocol.specs.Reply.{no_reply}
use Rattle.decisions.specs.Plan.{no_plan}

-- accepted, with so many blocks recorded: the sense is cleared
unfoldable pub accepting : Effect → ℕ → Reply → Plan → Decision
accepting e n r p =
    record { answer = Accepted; change = record { sense = no_sense; effect = e }; reply = r; recorded = n; plan = p }

-- not accepted: nothing changes but the sense, if this is another one
abbrev pub declining : Answer → Sense → Decision
declining a s = record { answer = a; change = record { sense = s; effect = Keep }; reply = no_reply; recorded = 0; plan = no_plan }

-- refused by the drive: only the sense changes
unfoldable pub refusing : DriveRefusal → Decision
refusing r = declining (Drive r) (refusal_sense r)

-- refused on the link: nothing changes, the sense included
unfoldable pub refusing_link : Sense → LinkRefusal → Decision
refusing_link s r = declining (Link r) s
