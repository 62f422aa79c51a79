use Rattle.std.proofs.Common.{◌≡◌, length}
use Rattle.contents.specs.Sessions.{sessions_left}
use Rattle.contents.proofs.closed.SessionsIterator.next.Given as goal

abbrev pub invariant-loop-f : goal.invariant-loop-f
invariant-loop-f l = sessions_left l.self ≡ sessions_left l.initial.self

abbrev pub decreases-loop-f : goal.decreases-loop-f
decreases-loop-f l = length l.self.records.now
