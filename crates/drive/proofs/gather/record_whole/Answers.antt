use mathlib.Core.Path.{sym, ◌∙◌}
use native.Mathlib.Omega.{arith}
use Rattle.drive.proofs.Laws.Bytes.{splice_nil}
use Rattle.drive.proofs.Laws.Gather.{whole-more}
use Rattle.drive.proofs.gather.record_whole.Goals as goal

pub loop-i-init : goal.loop-i-init
loop-i-init c =
    let none = c.enumerate-i-items.ensures.count in
    record { size = grind arith; within = grind arith; left = grind arith; recorded = grind (arith, splice_nil) }

pub loop-i-preserved : goal.loop-i-preserved
loop-i-preserved c =
    let l = c.loop-i in
    let s = c.in-Some.ensures.steps in
    let w =
    whole-more c.args.block.0 l.i-iterator.count c.args.medium.now c.args.«data».now c.in-Some.content.now c.next.new.self.iter.rest.now l.medium c.record_block.new.medium
    (omega arith) l.invariant.within (sym l.invariant.left ∙ s.0.1.0) (s.0.1.1 ∙ l.invariant.size) l.invariant.recorded (rw s.1 at c.record_block.ensures) in
    rw s.2 record { size = s.0.0 ∙ l.invariant.size; within = w.0; left = w.1; recorded = w.2 }
