use Rattle.commands.proofs.Laws.Flush.{owner}
use native.Mathlib.Omega.{arith}
use Rattle.commands.proofs.ready.ReadyDisc.flushing.Goals as goal

pub first_unrecorded-block-requires : goal.first_unrecorded-block-requires
first_unrecorded-block-requires c =
    let o = owner c.args.self.now.disc c.args.self.now.ready c.if-sectors-eq0.false in
    rw (c.numbered-f.ensures, c.from-owner.ensures) (omega (arith, o.room, o.fits.ends))

pub flushed-requires : goal.flushed-requires
flushed-requires c =
    let o = owner c.args.self.now.disc c.args.self.now.ready c.if-sectors-eq0.false in
    rw (c.numbered-f.ensures, c.from-owner.ensures) (o.few, omega (arith, o.room, o.fits.ends), o.fits.zeroed)
