use Rattle.std.proofs.Common.{length, sym, ◌∙◌, ap, rules}
use Rattle.contents.proofs.Laws.Sessions.{sessions-on, sessions-off, sessions_none}
use Rattle.contents.proofs.closed.SessionsIterator.next.Goals as goal

pub returns-then-begins-is_closed-clause-steps : goal.returns-then-begins-is_closed-clause-steps
returns-then-begins-is_closed-clause-steps c =
    let s = c.loop-f.self in
    sym c.loop-f.invariant ∙ sessions-on s.closing.finalized s.closing.last s.before s.records.now c.in-Some.others.now c.in-Some.f.now c.in-Some.ensures.cases.0 (rw c.is_closed.ensures at c.if-begins-is_closed.true)

pub returns-then-begins-is_closed-clause-goes : goal.returns-then-begins-is_closed-clause-goes
returns-then-begins-is_closed-clause-goes c =
    let s = c.loop-f.self in
    let more = ap length (sym c.loop-f.invariant ∙ sessions-on s.closing.finalized s.closing.last s.before s.records.now c.in-Some.others.now c.in-Some.f.now c.in-Some.ensures.cases.0 (rw c.is_closed.ensures at c.if-begins-is_closed.true)) in
    search (rules, more)

pub loop-f-preserved : goal.loop-f-preserved
loop-f-preserved c =
    let s = c.loop-f.self in
    sym (sessions-off s.closing.finalized s.closing.last s.before s.records.now c.in-Some.others.now c.in-Some.f.now c.in-Some.ensures.cases.0 (rw c.is_closed.ensures at c.if-begins-is_closed.false)) ∙ c.loop-f.invariant

pub returns-clause-steps : goal.returns-clause-steps
returns-clause-steps c =
    let s = c.loop-f.self in
    let none = sessions_none s.closing.finalized s.closing.last s.before s.records.now c.in_default.ensures.cases in
    (sym c.loop-f.invariant ∙ none, none)
