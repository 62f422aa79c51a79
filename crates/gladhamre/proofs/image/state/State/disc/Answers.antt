use Rattle.gladhamre.proofs.Laws.Image.{decoded}
use Rattle.gladhamre.proofs.image.state.State.disc.Goals as goal

pub returns : goal.returns
returns c = decoded c.args.self.words.now c.head_of.result.now _ c.head_of.ensures c.fragments-fragments.ensures
