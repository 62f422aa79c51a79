use Rattle.std.proofs.Common.{◌+◌, sym, ◌∙◌, ap, arith}
use Rattle.fragments.specs.Address.{later}
use Rattle.fragments.proofs.Laws.Address.{zero_later, later_zero, max-later, later_next}
use Rattle.fragments.proofs.Laws.List.{highest-on, highest_end}
use Rattle.fragments.proofs.list.highest_readable.Goals as goal

pub loop-index-init : goal.loop-index-init
loop-index-init c = sym (zero_later _)

pub loop-index-preserved : goal.loop-index-preserved
loop-index-preserved c =
    let w = c.loop-index in
    let on = highest-on c.in_use-f-items.result.now w.index _ (omega arith) c.args.pending c.args.owner (w.index + 1) in
    later_next w.highest c.last_readable-readable.result c.max-highest.result _ _ _ w.invariant (rw (c.last_readable-readable.ensures, c.pending_of.ensures) on)
    (c.max-highest.ensures ∙ max-later _ _)

pub returns : goal.returns
returns c =
    let w = c.loop-index in
    let rs = c.in_use-f-items.result.now in
    rw (← c.in_use-f-items.ensures)
    (sym (w.invariant ∙ (ap (later w.highest) (highest_end rs w.index c.args.pending c.args.owner (w.index + 1) (omega arith)) ∙ later_zero w.highest)))
