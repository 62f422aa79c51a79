use Rattle.playback.specs.Line.{append}
use Rattle.playback.proofs.Laws.Texts.{decimal_one, decimal_more}
use Rattle.playback.proofs.Laws.Lines.{append-push}
use Rattle.playback.proofs.line.Line.+decimal.Goals as goal

pub returns-then-number-lt10 : goal.returns-then-number-lt10
unfolding append
returns-then-number-lt10 t c = rw (c.push.ensures, c.sign.ensures, decimal_one _ c.if-number-lt10.true)

pub returns : goal.returns
returns t c =
    rw (c.push-2.ensures, c.sign-2.ensures, c.decimal.ensures, decimal_more _ c.ranges.number.fits c.if-number-lt10.false)
    (append-push _ _ _)
