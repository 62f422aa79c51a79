-- What a command's result comes to: a decision is applied to the disc, and a refusal changes the sense alone.
use Rattle.std.specs.Prelude.{Result, Ok, Err}
use Rattle.commands.specs.Types.{Disc, Verdict, Decision, DriveRefusal}
use Rattle.disc.specs.Apply.{decided}
use Rattle.disc.specs.Verdict.{refuse}

abbrev pub concluded : Disc → Result Decision DriveRefusal → Verdict
concluded d (Ok decision) = decided d decision
concluded d (Err refusal) = refuse d refusal
