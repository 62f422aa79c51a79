use native.Mathlib.Omega.{arith}
use Rattle.drive.proofs.Laws.Moves.{fill_none, fill_more}
use Rattle.drive.proofs.medium.fill.Goals as goal

pub loop-i-init : goal.loop-i-init
loop-i-init c = fill_none _ _

pub loop-i-preserved : goal.loop-i-preserved
loop-i-preserved c =
    fill_more c.args.medium.now c.loop-i.medium c.record_block.new.medium c.args.block.0 c.loop-i.i (omega arith) c.loop-i.invariant c.record_block.ensures
