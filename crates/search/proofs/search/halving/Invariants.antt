use Prim.Native.Nat.{◌-◌, ◌≤◌}
use mathlib.Core.Path.{◌≡◌}
use lib.ListN.{length}
use Rattle.fragments.specs.List.{limit}
use Rattle.search.specs.Search.{sought, halve, enough, halving}
use Rattle.search.proofs.Laws.Search.{after}
use Rattle.search.proofs.search.halving.Given as goal

abbrev pub invariant-loop-looks : goal.invariant-loop-looks
invariant-loop-looks l =
    (l.looks ≤ enough) × (l.low ≤ l.high) × (l.high ≤ limit) × (length l.fragments ≡ limit)
    × (sought l.fragments (halving l.address) ≡ after l.looks (sought l.fragments (halve (enough - l.looks) l.address l.low l.high)))

abbrev pub decreases-loop-looks : goal.decreases-loop-looks
decreases-loop-looks l = enough - l.looks
