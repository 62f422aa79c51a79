use borrow.Author.Tests.{eq-eqb, ne_eqb}
use Rattle.fragments.specs.Tail.{tail_closed}
use mathlib.Core.Path.{sym, ◌∙◌}
use Rattle.fragments.proofs.numbered.Entry.tail_closed.Goals as goal

pub returns-then-not-is_tail : goal.returns-then-not-is_tail
unfolding tail_closed
returns-then-not-is_tail c = rw (c.none.ensures, sym c.is_tail.ensures ∙ c.if-not-is_tail.true)

pub returns-then-f-eq0 : goal.returns-then-f-eq0
unfolding tail_closed
returns-then-f-eq0 c = rw (c.new.ensures, c.unused.ensures, sym c.is_tail.ensures ∙ c.if-not-is_tail.false, eq-eqb _ _ c.if-f-eq0.true)

pub returns : goal.returns
unfolding tail_closed
returns c = rw (c.new-2.ensures, c.shortened.ensures, sym c.is_tail.ensures ∙ c.if-not-is_tail.false, ne_eqb _ _ c.if-f-eq0.false)
