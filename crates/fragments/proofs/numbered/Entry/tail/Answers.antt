use native.Mathlib.Omega.{arith}
use borrow.Author.Tests.{lt-ltb, le-ltb}
use Rattle.fragments.specs.Tail.{tail_entry}
use Rattle.fragments.proofs.numbered.Entry.tail.Goals as goal

pub returns-then-start-from : goal.returns-then-start-from
unfolding tail_entry
returns-then-start-from c =
    rw (c.none.ensures, le-ltb c.args.start.0 c.args.capacity (omega (arith, c.from.ensures, c.if-start-from.true)))

pub returns : goal.returns
unfolding tail_entry
returns c = rw (c.new.ensures, lt-ltb c.args.start.0 c.args.capacity (omega (arith, c.from.ensures, c.if-start-from.false)))
