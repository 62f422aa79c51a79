use Rattle.gladhamre.proofs.Laws.Update.{sense-put, state_image}
use Rattle.gladhamre.specs.Image.{decode}
use Rattle.disc.specs.Apply.{changed}
use Rattle.gladhamre.proofs.update.update.Goals as goal

pub returns : goal.returns
unfolding changed
returns c =
    let before = c.args.words.now in
    rw (c.from.ensures, c.from-2.ensures, c.from-3.ensures) (sense-put _ c.args.change.sense _ (c.put_effect.ensures (decode before) (state_image before c.requires))).words
