use Rattle.std.proofs.Common.{arith, sym, true}
use Rattle.fragments.proofs.Laws.Check.{rest_more, rest_all, same_zero}
use Rattle.fragments.proofs.check.are_zero.Goals as goal

pub loop-f-init : goal.loop-f-init
loop-f-init c = rw c.unused-joined.ensures

pub loop-f-preserved : goal.loop-f-preserved
loop-f-preserved c =
    let w = c.loop-f in
    rest_more c.args.records.now w.f-index _ w.joined c.joined-joined.result _ true (omega arith) w.invariant c.joined-joined.ensures

pub returns : goal.returns
returns c =
    let w = c.loop-f in
    let all = sym (rest_all c.args.records.now w.f-index w.joined _ true (omega arith) w.invariant) in
    rw (c.eq.ensures, c.unused.ensures) (rw all (same_zero w.joined))
