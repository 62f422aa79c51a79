use Rattle.std.proofs.Common.{◌≡◌, ◌+◌, drop}
use Rattle.fragments.specs.Address.{later}
use Rattle.fragments.specs.List.{highest_readable}
use Rattle.fragments.proofs.list.highest_readable.Given as goal

abbrev pub invariant-loop-index : goal.invariant-loop-index
invariant-loop-index l =
    highest_readable l.pending l.owner 1 l.f-items
    ≡ later l.highest (highest_readable l.pending l.owner (l.index + 1) (drop l.index l.f-items))
