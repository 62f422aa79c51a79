use Rattle.std.proofs.Common.{le-ltb, lt-ltb}
use Rattle.playback.specs.Line.{push}
use Rattle.playback.proofs.line.Line.push.Goals as goal

pub returns-then-at-lt-LIMIT : goal.returns-then-at-lt-LIMIT
unfolding push
returns-then-at-lt-LIMIT c = rw (lt-ltb _ _ c.if-at-lt-LIMIT.true)

pub returns : goal.returns
unfolding push
returns c = rw (le-ltb _ _ c.if-at-lt-LIMIT.false)
