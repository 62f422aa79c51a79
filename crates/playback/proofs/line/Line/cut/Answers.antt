use Rattle.playback.specs.Text.{decimal, cut_text}
use Rattle.playback.proofs.Laws.Texts.{stop_fits}
use Rattle.playback.proofs.Laws.Lines.{two_words, printed}
use Rattle.playback.proofs.line.Line.cut.Goals as goal

pub returns : goal.returns
returns c =
    let n = c.args.number in
    printed (cut_text n) _ (stop_fits n 0x63 0x75 0x74)
    (rw (
      c.push-4.ensures,
      c.push-3.ensures,
      c.push-2.ensures,
      c.push.ensures,
      c.space.ensures,
      c.decimal.ensures,
      c.new.ensures,
    ) (two_words (decimal n) 0x63 0x75 0x74 (stop_fits n 0x63 0x75 0x74)))
