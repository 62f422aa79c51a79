use borrow.Author.Tests.{lt-ltb, le-ltb}
use Rattle.fragments.specs.Tail.{tail_after}
use Rattle.fragments.proofs.numbered.Entry.tail_after.Goals as goal

pub returns-then-number-ge-LIMIT : goal.returns-then-number-ge-LIMIT
unfolding tail_after
returns-then-number-ge-LIMIT c = rw (c.none.ensures, le-ltb _ _ c.if-number-ge-LIMIT.true)

pub returns : goal.returns
unfolding tail_after
returns c = rw (c.tail.ensures, c.next_start.ensures, lt-ltb _ _ c.if-number-ge-LIMIT.false)
