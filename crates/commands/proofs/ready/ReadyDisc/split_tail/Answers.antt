use Rattle.fragments.proofs.Laws.Tail.{tail_left}
use Rattle.commands.proofs.Laws.Effect.{affected_split}
use mathlib.Core.Path.{refl, ap}
use Rattle.commands.proofs.ready.ReadyDisc.split_tail.Goals as goal

pub returns : goal.returns
returns c =
    let d = c.args.self.now.disc in
    let n = ap (λ l. l.number) c.requires.last_value in
    let f = rw c.requires.last_value at c.reserved-f.ensures in
    rw (c.tail-tail.ensures, c.next_start.ensures, c.new-reserved.ensures, f, n, tail_left _ _ _ _ c.requires.splitting.start)
    (affected_split d c.args.blocks _ _ c.requires.splitting.from refl refl)
