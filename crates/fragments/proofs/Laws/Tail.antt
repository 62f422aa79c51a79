-- The tail that a command begins, where a block is left for it.
use Prim.Native.Nat.{ℕ, ◌<◌}
use mathlib.Core.Path.{◌≡◌}
use borrow.Author.Tests.{lt-ltb}
use Rattle.fragments.specs.Types.{Block}
use Rattle.fragments.specs.Fragment.{tail_from}
use Rattle.fragments.specs.Entry.{entry}
use Rattle.fragments.specs.Tail.{tail_entry}

pub tail_left :
    (capacity n session : ℕ) (start : Block) → start.0 < capacity
    → tail_entry capacity n session start ≡ entry n (tail_from capacity session start)
unfolding tail_entry
tail_left capacity n session start h = rw (lt-ltb start.0 capacity h)
