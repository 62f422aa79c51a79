use mathlib.Core.Path.{sym, ◌∙◌}
use borrow.Author.Tests.{ne_eqb}
use Rattle.disc.specs.Records.{writable_at}
use Rattle.disc.specs.Verdict.{accept}
use Rattle.commands.specs.Write.{write, write_found}
use Rattle.commands.proofs.Laws.Holder.{held_some, held_none, held-writable}
use Rattle.commands.proofs.ready.ReadyDisc.write.Goals as goal

pub returns-in_default : goal.returns-in_default
unfolding write write_found accept
returns-in_default c =
    let d = c.args.self.now.disc in
    let none = held_none d.fragments (writable_at d c.args.address) (sym c.writable_at.ensures ∙ c.in_default.is) in
    simp (none, c.if-self.false, ne_eqb _ _ c.if-sectors-eq0.false)

pub write_to-requires : goal.write_to-requires
write_to-requires c =
    let d = c.args.self.now.disc in
    let a = c.args.address in
    let h = sym c.writable_at.ensures ∙ c.in-Some.is in
    record { writable = held-writable d a _ h; record_value = (held_some d.fragments (writable_at d a) _ h).1 }
