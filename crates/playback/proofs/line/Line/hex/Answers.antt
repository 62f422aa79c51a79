use Rattle.playback.specs.Line.{append}
use Rattle.playback.proofs.line.Line.hex.Goals as goal

pub returns : goal.returns
unfolding append
returns c = rw (c.push-2.ensures, c.sign-2.ensures, c.push.ensures, c.sign.ensures)
