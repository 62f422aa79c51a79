use Rattle.playback.specs.Text.{decimal, bad_text}
use Rattle.playback.proofs.Laws.Texts.{stop_fits}
use Rattle.playback.proofs.Laws.Lines.{two_words, printed}
use Rattle.playback.proofs.line.Line.bad.Goals as goal

pub returns : goal.returns
returns c =
    let n = c.args.number in
    printed (bad_text n) _ (stop_fits n 0x62 0x61 0x64)
    (rw (
      c.push-4.ensures,
      c.push-3.ensures,
      c.push-2.ensures,
      c.push.ensures,
      c.space.ensures,
      c.decimal.ensures,
      c.new.ensures,
    ) (two_words (decimal n) 0x62 0x61 0x64 (stop_fits n 0x62 0x61 0x64)))
