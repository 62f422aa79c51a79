use Rattle.gladhamre.proofs.Laws.Update.{pending_put}
use Rattle.gladhamre.proofs.update.put_pending.Goals as goal

pub returns : goal.returns
returns c = rw (c.from.ensures, c.from-2.ensures) (λ d i. pending_put c.args.words.now c.args.pending c.args.owner d i)
