use mathlib.Core.Path.{◌≡◌}
use lib.ListN.{take}
use Rattle.drive.specs.Bytes.{splice}
use Rattle.gladhamre.specs.Image.{list_words}
use Rattle.gladhamre.proofs.image.write_list.Given as goal

abbrev pub invariant-loop-i : goal.invariant-loop-i
invariant-loop-i l = l.words ≡ splice l.initial.words 7 (list_words (take l.i l.fragments))
