use Rattle.gladhamre.proofs.Laws.Update.{byte_flag, finalized-put}
use Rattle.disc.specs.Apply.{affected}
use Rattle.gladhamre.proofs.update.put_effect.Goals as goal

pub returns-in-Keep : goal.returns-in-Keep
unfolding affected
returns-in-Keep c = rw c.in-Keep.is (λ d i. i)

pub returns-in-Settle : goal.returns-in-Settle
unfolding affected
returns-in-Settle c = rw c.in-Settle.is c.settle.ensures

pub returns-in-Reserve : goal.returns-in-Reserve
unfolding affected
returns-in-Reserve c = rw c.in-Reserve.is c.put_both.ensures

pub returns-in-Close : goal.returns-in-Close
unfolding affected
returns-in-Close c = rw (c.in-Close.is, c.from.ensures, byte_flag) (λ d i. finalized-put _ _ _ (c.put_both-in-Close.ensures _ (c.settle-in-Close.ensures d i)))

pub returns-in-Grow : goal.returns-in-Grow
unfolding affected
returns-in-Grow c = rw c.in-Grow.is (λ d i. c.put_pending.ensures _ (c.put_both-in-Grow.ensures d i))
