use mathlib.Core.Path.{◌≡◌}
use mathlib.Core.List.{◌++◌}
use lib.ListN.{length, drop, replicate}
use Rattle.fragments.specs.Fragment.{unused_record}
use Rattle.fragments.specs.List.{limit}
use Rattle.gladhamre.specs.Image.{list_of}
use Rattle.gladhamre.proofs.image.state.State.fragments.Given as goal

abbrev pub invariant-loop-i : goal.invariant-loop-i
invariant-loop-i l =
    (length l.fragments ≡ limit) × (l.fragments ≡ list_of l.i (drop 7 l.self.words.now) ++ drop l.i (replicate limit unused_record))
