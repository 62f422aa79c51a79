use Rattle.playback.specs.Text.{next_text}
use Rattle.playback.specs.Line.{append}
use Rattle.playback.proofs.line.Line.next.Goals as goal

pub returns-in-Some : goal.returns-in-Some
unfolding next_text
returns-in-Some c = rw (c.decimal.ensures, c.in-Some.is)

pub returns-in-None : goal.returns-in-None
unfolding next_text append
returns-in-None c = rw (c.push.ensures, c.in-None.is)
