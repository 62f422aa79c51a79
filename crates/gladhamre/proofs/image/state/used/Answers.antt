use Rattle.fragments.proofs.Laws.Bool.{cond_yes, cond_no}
use Rattle.gladhamre.proofs.Laws.Used.{words-tested}
use Rattle.gladhamre.specs.Image.{head_fits}
use Rattle.gladhamre.proofs.Laws.Image.{part_head}
use mathlib.Core.Path.{sym, ap, ◌∙◌}
use Rattle.gladhamre.proofs.image.state.used.Goals as goal

pub returns-then-fits-is_zero : goal.returns-then-fits-is_zero
returns-then-fits-is_zero c =
    sym (cond_yes _ _ _ c.if-fits-is_zero.true)
    ∙ words-tested c.args.words.now c.used_records-used.result c.fits.result c.is_zero.result c.told-words c.used_records-used.ensures.first (c.fits.ensures ∙ (ap head_fits c.head_of.ensures ∙ part_head c.args.words.now)) c.is_zero.ensures

pub returns : goal.returns
returns c =
    sym (cond_no _ _ _ c.if-fits-is_zero.false)
    ∙ words-tested c.args.words.now c.used_records-used.result c.fits.result c.is_zero.result c.told-words c.used_records-used.ensures.first (c.fits.ensures ∙ (ap head_fits c.head_of.ensures ∙ part_head c.args.words.now)) c.is_zero.ensures
