-- The three kinds of verdict: accepted, refused by the drive, refused on the link.
use Rattle.std.specs.Prelude.{ℕ, ◌-◌}
use Rattle.disc.specs.Types.{Disc, DriveRefusal, LinkRefusal, Accepted, Link, Drive, Reply, Plan, Verdict}
use Rattle.protocol.specs.Answer.{no_sense, refusal_sense}
use Rattle.protocol.specs.Reply.{no_reply}
use Rattle.fragments.specs.List.{sum_recorded}
use Rattle.decisions.specs.Plan.{no_plan}
use Rattle.disc.specs.Records.{with_sense}

-- the number of blocks recorded: by how much the recorded blocks of all fragments rise
abbrev pub rise : Disc → Disc → ℕ
rise before after = sum_recorded after.fragments - sum_recorded before.fragments

-- accepted, with so many blocks recorded: the sense is cleared
unfoldable pub accepted : Disc → ℕ → Reply → Plan → Verdict
accepted after recorded r p =
    record { answer = Accepted; disc = with_sense after no_sense; reply = r; recorded = recorded; plan = p }

-- accepted; `before` and `after` are the disc before and after the command
unfoldable pub accept : Disc → Disc → Reply → Plan → Verdict
accept before after r p = accepted after (rise before after) r p

-- refused by the drive: only the sense changes
unfoldable pub refuse : Disc → DriveRefusal → Verdict
refuse d r =
    record { answer = Drive r; disc = with_sense d (refusal_sense r); reply = no_reply; recorded = 0; plan = no_plan }

-- refused on the link: nothing changes
unfoldable pub refuse_link : Disc → LinkRefusal → Verdict
refuse_link d r = record { answer = Link r; disc = d; reply = no_reply; recorded = 0; plan = no_plan }
