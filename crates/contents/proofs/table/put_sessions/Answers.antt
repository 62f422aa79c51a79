use Rattle.std.proofs.Common.{ap, ◌∙◌}
use Rattle.contents.specs.Sessions.{sessions_left}
use Rattle.contents.specs.Contents.{session_entries}
use Rattle.contents.specs.Entry.{entry}
use Rattle.contents.proofs.Laws.Contents.{putting_start, putting_on, putting_off, putting_done}
use Rattle.contents.proofs.table.put_sessions.Goals as goal

pub loop-f-init : goal.loop-f-init
loop-f-init c =
    rw c.into_iter-f-iterator.ensures.into_iter_gives
    (tt, tt, putting_start c.args.reply.now (session_entries c.args.time c.args.start (sessions_left c.args.sessions)) _ c.requires)

pub loop-f-preserved-then-start-f : goal.loop-f-preserved-then-start-f
loop-f-preserved-then-start-f c =
    let a = c.args in
    let w = c.loop-f in
    let made = c.entry.ensures ∙ ap (entry a.time c.in-Some.f.session) c.first_sector.ensures in
    (tt, tt, putting_on a.reply.now _ a.time a.start c.in-Some.f _ _ w.reply w.at c.in-Some.ensures.steps _ _ _ w.invariant.2 c.if-start-f.true made c.put-at.ensures.place c.put-at.ensures.bytes)

pub loop-f-preserved : goal.loop-f-preserved
loop-f-preserved c =
    let a = c.args in
    let w = c.loop-f in
    (tt, tt, putting_off a.reply.now _ a.time a.start c.in-Some.f _ _ w.reply w.at c.in-Some.ensures.steps w.invariant.2 c.if-start-f.false)

pub returns : goal.returns
returns c =
    let a = c.args in
    let w = c.loop-f in
    let b = putting_done a.reply.now _ a.time a.start _ w.reply w.at w.invariant.2 c.in-None.ensures.steps.0 in
    record { place = b.0; bytes = b.1.0; most = b.1.1 }
