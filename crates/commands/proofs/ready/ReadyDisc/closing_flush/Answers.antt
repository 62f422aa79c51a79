use Rattle.commands.proofs.Laws.Effect.{flush-fragments}
use mathlib.Core.Path.{refl, sym, ◌∙◌}
use Rattle.commands.proofs.ready.ReadyDisc.closing_flush.Goals as goal

pub returns-then-stays_incomplete-clause-err : goal.returns-then-stays_incomplete-clause-err
returns-then-stays_incomplete-clause-err c =
    let tested = rw (c.flushing-first.ensures, flush-fragments c.args.self.now.disc c.args.self.now.ready) at c.stays_incomplete.ensures in
    (refl, sym tested ∙ c.if-stays_incomplete.true)

pub returns-clause-ok : goal.returns-clause-ok
returns-clause-ok c =
    let tested = rw (c.flushing-first.ensures, flush-fragments c.args.self.now.disc c.args.self.now.ready) at c.stays_incomplete.ensures in
    (c.flushing-first.ensures, sym tested ∙ c.if-stays_incomplete.false)
