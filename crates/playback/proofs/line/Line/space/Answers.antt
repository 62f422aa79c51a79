use Rattle.playback.specs.Line.{append}
use Rattle.playback.proofs.line.Line.space.Goals as goal

pub returns : goal.returns
unfolding append
returns c = c.push.ensures
