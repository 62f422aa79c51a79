use native.Mathlib.Omega.{arith}
use Rattle.drive.proofs.Laws.Bytes.{splice-splice}
use Rattle.drive.proofs.reply.send_run.Goals as goal

pub returns-clause-reply : goal.returns-clause-reply
returns-clause-reply c =
    rw (c.put-2.ensures, c.put.ensures, ← c.run-recorded.ensures, ← c.pending_run-held.ensures)
    (splice-splice c.args.reply.now 0 _ c.run-recorded.result.now c.pending_run-held.result.now (omega arith) (omega arith))
