use Rattle.std.proofs.Common.{◌∙◌}
use Rattle.playback.specs.Replay.{played}
use Rattle.playback.proofs.Laws.Lines.{printed_text}
use Rattle.playback.proofs.replay.Replay.play.Goals as goal

pub returns : goal.returns
unfolding played
returns c =
    let line = c.of_record-line.ensures in
    record {
      result = rw (line.line, c.tail_next.ensures, c.judge_as_asked.ensures.verdict);
      fits = line.fits;
      text = printed_text _ _ line ∙ rw (c.tail_next.ensures, c.judge_as_asked.ensures.verdict);
    }
