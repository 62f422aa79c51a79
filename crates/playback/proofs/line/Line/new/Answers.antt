use Rattle.std.proofs.Common.{refl}
use Rattle.playback.specs.Line.{line_of}
use Rattle.playback.proofs.line.Line.new.Goals as goal

pub returns : goal.returns
unfolding line_of
returns c = refl
