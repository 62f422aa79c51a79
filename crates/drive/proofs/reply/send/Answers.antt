use lib.ListN.{length}
use Rattle.drive.specs.Bytes.{splice}
use Rattle.drive.proofs.Laws.Reply.{run-sent}
use mathlib.Core.Path.{◌∙◌, ap}
use native.Mathlib.Omega.{arith}
use Rattle.drive.proofs.reply.send.Goals as goal

pub send_run-requires : goal.send_run-requires
send_run-requires c =
    let e = run-sent c.args.medium.now c.args.pending.now c.args.transfer c.args.report (length c.args.reply.now) c.requires _ _ _ _ c.in-Send.is in
    omega (arith, ap length e, c.requires.room)

pub returns-in-Send : goal.returns-in-Send
returns-in-Send c =
    let e = run-sent c.args.medium.now c.args.pending.now c.args.transfer c.args.report (length c.args.reply.now) c.requires _ _ _ _ c.in-Send.is in
    record { value = c.send_run.ensures.value ∙ ap length e; reply = c.send_run.ensures.reply ∙ ap (splice c.args.reply.now 0) e }
