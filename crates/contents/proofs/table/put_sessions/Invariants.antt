use Rattle.std.proofs.Common.{length}
use Rattle.contents.specs.Sessions.{sessions_left}
use Rattle.contents.specs.Contents.{session_entries}
use Rattle.contents.proofs.Laws.Contents.{Putting}
use Rattle.contents.proofs.table.put_sessions.Given as goal

abbrev pub invariant-loop-f : goal.invariant-loop-f
invariant-loop-f l =
    (goal.iterator-loop-f).can_next l.f-iterator × (goal.iterator-loop-f).is_finite l.f-iterator
    × Putting l.initial.reply (session_entries l.time l.start (sessions_left l.fn.sessions)) (session_entries l.time l.start (sessions_left l.f-iterator))
    (length (sessions_left l.f-iterator)) l.reply l.at
