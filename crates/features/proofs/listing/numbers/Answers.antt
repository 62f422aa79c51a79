use Rattle.features.proofs.Laws.Configuration.{named_start, named-on, named-off, named_all}
use Rattle.features.specs.Feature.{features}
use Rattle.std.proofs.Common.{sym, ◌∙◌}
use Rattle.features.proofs.listing.numbers.Goals as goal
use Rattle.features.proofs.listing.numbers.Goals.{then-is_asked, else-is_asked}

pub loop-f-init : goal.loop-f-init
loop-f-init c = named_start _ _

pub loop-f-preserved : goal.loop-f-preserved
unfolding features
loop-f-preserved c =
    let w = c.loop-f.invariant in
    let h = c.loop-f-test.true in
    let e = c.is_asked.ensures in
    elim c.if-is_asked.branch [
      | then-is_asked t ↦ rw (t.numbers-is, t.count-is, t.from.ensures) (named-on _ _ _ w h (sym e ∙ t.if-is_asked.true))
      | else-is_asked t ↦ rw (t.numbers-is, t.count-is) (named-off _ _ _ w h (sym e ∙ t.if-is_asked.false))
    ]

pub returns : goal.returns
returns c =
    let w = c.loop-f in
    named_all _ _ w.f-index w.numbers w.count w.invariant c.loop-f-test.false
