use Rattle.playback.specs.Text.{decimal, hex, next_text, record_text}
use Rattle.playback.proofs.Laws.Texts.{record_fits_lem}
use Rattle.playback.proofs.Laws.Lines.{six_words, printed}
use Rattle.playback.proofs.line.Line.of_record.Goals as goal

pub returns : goal.returns
returns c =
    let a = c.args in
    let fits = record_fits_lem a.number a.opcode a.sense a.next in
    printed (record_text a.number a.opcode a.sense a.next) _ fits
    (rw (
      c.push.ensures,
      c.next.ensures,
      c.space-codes.ensures,
      c.hex-3.ensures,
      c.space-2.ensures,
      c.hex-2.ensures,
      c.space-key.ensures,
      c.decimal-2.ensures,
      c.from.ensures,
      c.space-command.ensures,
      c.hex.ensures,
      c.space.ensures,
      c.decimal.ensures,
      c.new.ensures,
    )
    (six_words (decimal a.number) (hex a.opcode) (decimal a.sense.key) (hex a.sense.asc) (hex a.sense.ascq) (next_text a.next) fits))
