use Rattle.std.proofs.Common.{subst}
use Rattle.std.specs.Io.KnownBytes.{Appends}
use Rattle.playback.proofs.Laws.Lines.{printed_text}
use Rattle.playback.proofs.input.finish.Goals as goal

pub returns-in_ok-print-2-clause-printed : goal.returns-in_ok-print-2-clause-printed
returns-in_ok-print-2-clause-printed g c =
    subst (Appends _ _) (printed_text _ _ (rw c.in-Some.is at c.last_line.ensures).0) c.in_ok-print.ensures

pub returns-in_ok-print-2-clause-told : goal.returns-in_ok-print-2-clause-told
returns-in_ok-print-2-clause-told g c =
    subst (Appends _ _) (printed_text _ _ (rw c.in-Some.is at c.last_line.ensures).0) c.in_ok-print-2.ensures
