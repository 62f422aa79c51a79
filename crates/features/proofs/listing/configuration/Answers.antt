use Rattle.features.specs.Feature.{features}
use Rattle.features.proofs.Laws.Configuration.{listed_start, listed-on, listed_off, listed-all}
use Rattle.std.proofs.Common.{sym, ◌∙◌}
use Rattle.features.proofs.listing.configuration.Goals as goal
use Rattle.features.proofs.listing.configuration.Goals.{then-is_asked, else-is_asked}

pub loop-f-init : goal.loop-f-init
loop-f-init c = rw c.copy_from_slice.ensures.after (rw c.to_be_bytes.ensures (listed_start _ _))

pub loop-f-preserved : goal.loop-f-preserved
unfolding features
loop-f-preserved c =
    let w = c.loop-f.invariant in
    let h = c.loop-f-test.true in
    let e = c.is_asked.ensures in
    elim c.if-is_asked.branch [
      | then-is_asked t ↦
          rw (t.length-is, t.descriptor_length-length.ensures)
          (listed-on _ _ _ w h (sym e ∙ t.if-is_asked.true) t.bytes-is (t.copy_from_slice-then-is_asked.ensures.after ∙ t.descriptor.ensures))
      | else-is_asked t ↦ rw (t.bytes-is, t.length-is) (listed_off _ _ _ w h (sym e ∙ t.if-is_asked.false))
    ]

pub returns : goal.returns
returns c =
    let w = c.loop-f in
    listed-all _ _ w.f-index w.bytes _ w.length w.invariant c.loop-f-test.false (c.copy_from_slice-2.ensures.after ∙ c.to_be_bytes-2.ensures)
