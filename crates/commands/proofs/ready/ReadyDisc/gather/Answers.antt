use Rattle.commands.proofs.Laws.Effect.{affected-gathered}
use Rattle.commands.proofs.ready.ReadyDisc.gather.Goals as goal

pub returns : goal.returns
returns c =
    rw (c.owner_of.ensures, c.new.ensures, c.grown.ensures, c.requires.record_value, c.left_over-left.ensures, c.from.ensures, c.pending_in.ensures, c.requires.flushed_value)
    (affected-gathered c.args.self.now.disc c.args.entry.number c.args.self.now.ready c.requires.gathering.from c.args.sectors)
