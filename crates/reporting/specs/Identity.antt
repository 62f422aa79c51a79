-- What the drive says it is, whatever its disc: 12h INQUIRY, 46h GET CONFIGURATION.
use Rattle.std.specs.Prelude.{ℕ, cond, eqb}
use Rattle.protocol.specs.Inquiry.{inquiry_bytes}
use Rattle.protocol.specs.Reply.{report, configuration_reply}
use Rattle.decisions.specs.Plan.{no_plan}
use Rattle.disc.specs.Verdict.{accept, refuse}
use Rattle.reporting.specs.Types.{Disc, Verdict, InvalidFieldInCommand}

-- INQUIRY: the standard data; with the page bit set it is refused
unfoldable pub inquiry : Disc → ℕ → ℕ → Verdict
inquiry d pageBit allocation = cond (eqb pageBit 0) (accept d d (report inquiry_bytes allocation) no_plan) (refuse d InvalidFieldInCommand)

-- GET CONFIGURATION: the fourth request type is refused
unfoldable pub get_configuration : Disc → ℕ → ℕ → ℕ → Verdict
get_configuration d request_type start allocation =
    cond (eqb request_type 3) (refuse d InvalidFieldInCommand) (accept d d (configuration_reply request_type start allocation) no_plan)
