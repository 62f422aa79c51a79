use Rattle.std.proofs.Common.{◌≡◌, get_or, drop}
use Rattle.fragments.specs.Fragment.{unused_record}
use Rattle.fragments.specs.Check.{walk, list_sound}
use Rattle.fragments.proofs.check.list_is_sound.Given as goal

abbrev pub invariant-loop-index : goal.invariant-loop-index
invariant-loop-index l =
    list_sound l.capacity l.finalized l.fn.fragments
    ≡ walk l.capacity l.finalized l.incomplete (get_or l.fn.fragments l.index unused_record) (drop l.index l.others)
