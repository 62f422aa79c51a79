use borrow.Author.Rules.{rules}
use mathlib.Core.Path.{◌≡◌}
use lib.ListN.{length}
use Rattle.configuration.proofs.Laws.Face.{words-written}
use Rattle.configuration.proofs.face.write.Goals as goal

pub returns : goal.returns
returns c =
    let long : length c.args.words.now ≡ 12 = search rules in
    rw c.copy_from_slice.ensures.after (words-written c.args.words.now _ _ _ long)
