use mathlib.Core.Path.{sym, ◌∙◌}
use Rattle.commands.proofs.Laws.Holder.{held-takes, held-refuses, held-nowhere}
use Rattle.commands.proofs.ready.ReadyDisc.writable_at.Goals as goal

pub returns-in_err-holder : goal.returns-in_err-holder
returns-in_err-holder c =
    let h = sym c.holder_at.ensures ∙ c.in_err-holder.was in
    c.from_residual.ensures ∙ held-nowhere c.args.self.now.disc c.args.address c.args.self.now.ready h

pub returns-then-takes : goal.returns-then-takes
returns-then-takes c =
    let h = sym c.holder_at.ensures ∙ c.in_ok-holder.was in
    let t = sym (rw c.pending_in.ensures at c.takes.ensures) ∙ c.if-takes.true in
    held-takes c.args.self.now.disc c.args.address c.args.self.now.ready c.in_ok-holder.holder h t

pub returns : goal.returns
returns c =
    let h = sym c.holder_at.ensures ∙ c.in_ok-holder.was in
    let t = sym (rw c.pending_in.ensures at c.takes.ensures) ∙ c.if-takes.false in
    held-refuses c.args.self.now.disc c.args.address c.args.self.now.ready c.in_ok-holder.holder h t
