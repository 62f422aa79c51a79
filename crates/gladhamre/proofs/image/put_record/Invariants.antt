use mathlib.Core.Path.{◌≡◌}
use lib.Seq.{paste}
use Rattle.gladhamre.proofs.image.put_record.Given as goal

abbrev pub invariant-loop-i : goal.invariant-loop-i
invariant-loop-i l = l.words ≡ paste l.initial.words l.from l.word-items l.i
