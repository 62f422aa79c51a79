use mathlib.Core.Path.{◌≡◌}
use lib.Seq.{paste}
use Rattle.drive.proofs.bytes.put.Given as goal

abbrev pub invariant-loop-i : goal.invariant-loop-i
invariant-loop-i l = l.target ≡ paste l.initial.target l.at l.source l.i
