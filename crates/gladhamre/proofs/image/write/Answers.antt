use Rattle.fragments.proofs.Laws.List.{array_length}
use Rattle.gladhamre.proofs.Laws.Image.{write_both}
use native.Mathlib.Omega.{arith}
use Rattle.gladhamre.proofs.image.write.Goals as goal

pub returns : goal.returns
returns c =
    write_both c.args.words.now c.args.disc c.write.new.head c.write_list.new.words (omega arith) (search array_length) c.write.ensures c.write_list.ensures
