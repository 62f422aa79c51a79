use Rattle.gladhamre.proofs.Laws.Update.{none-put, past-put, entry-put}
use Rattle.gladhamre.proofs.update.put.Goals as goal

pub returns-then-number-eq0 : goal.returns-then-number-eq0
returns-then-number-eq0 c = λ d i. none-put c.args.words.now c.args.entry d i c.if-number-eq0.true

pub returns-then-number-gt-LIMIT : goal.returns-then-number-gt-LIMIT
returns-then-number-gt-LIMIT c = λ d i. past-put c.args.words.now c.args.entry d i c.if-number-gt-LIMIT.true

pub returns : goal.returns
returns c = λ d i.
    entry-put c.args.words.now c.args.entry d i _ c.if-number-eq0.false c.if-number-gt-LIMIT.false c.put_record.ensures
