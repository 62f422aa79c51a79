use mathlib.Core.Path.{sym}
use native.Mathlib.Omega.{arith}
use Rattle.fragments.specs.Fragment.{unused_record}
use Rattle.drive.proofs.Laws.Bytes.{splice_nil}
use Rattle.gladhamre.specs.Image.{list_words}
use Rattle.gladhamre.proofs.Laws.Image.{write_more, write-all}
use Rattle.gladhamre.proofs.image.write_list.Goals as goal

pub loop-i-init : goal.loop-i-init
unfolding list_words
loop-i-init c = sym (splice_nil c.args.words.now 7)

pub loop-i-preserved : goal.loop-i-preserved
loop-i-preserved c =
    write_more c.args.words.now c.loop-i.words _ c.args.fragments.now c.loop-i.i unused_record (omega arith) (omega arith) c.loop-i.invariant c.put_record.ensures

pub returns : goal.returns
returns c = write-all c.args.words.now c.loop-i.words c.args.fragments.now c.loop-i.i (omega arith) (omega arith) (omega arith) c.loop-i.invariant
