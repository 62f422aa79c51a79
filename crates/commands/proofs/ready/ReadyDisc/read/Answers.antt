use Prim.Native.Nat.{◌+◌, ◌≤◌}
use mathlib.Core.Path.{◌≡◌, sym, ◌∙◌}
use mathlib.Core.Bool.{true, false}
use borrow.Author.Tests.{ltb-false}
use Rattle.fragments.specs.Address.{sectors_in, passes}
use Rattle.disc.specs.Records.{reach_around}
use Rattle.disc.proofs.Laws.Apply.{unchanged_verdict}
use Rattle.disc.proofs.Laws.Rules.{sound-rules}
use Rattle.commands.proofs.Laws.Read.{read_short, read_found}
use Rattle.commands.proofs.ready.ReadyDisc.read.Goals as goal

pub returns-then-passes-2 : goal.returns-then-passes-2
returns-then-passes-2 c =
    let d = c.args.self.now.disc in
    let a = c.args.address in
    let n = c.args.sectors in
    let within : a.0 + n ≤ sectors_in d.capacity = ltb-false _ _ (sym (rw c.first_sector.ensures at c.passes.ensures) ∙ c.if-passes.false) in
    let t : passes a n (reach_around d a).readable ≡ true = sym (rw c.reach_around-reach.ensures at c.passes-2.ensures) ∙ c.if-passes-2.true in
    read_short d a n c.if-sectors-eq0.false within (sound-rules d c.args.self.now.ready.sound) t

pub returns : goal.returns
returns c =
    let d = c.args.self.now.disc in
    let a = c.args.address in
    let n = c.args.sectors in
    let within : a.0 + n ≤ sectors_in d.capacity = ltb-false _ _ (sym (rw c.first_sector.ensures at c.passes.ensures) ∙ c.if-passes.false) in
    let t : passes a n (reach_around d a).readable ≡ false = sym (rw c.reach_around-reach.ensures at c.passes-2.ensures) ∙ c.if-passes-2.false in
    rw (c.accepted.ensures, unchanged_verdict, c.none-2.ensures, c.new-plan.ensures, c.place.ensures, c.from.ensures, c.sectors_before-recorded.ensures, c.reach_around-reach.ensures)
    (read_found d a n c.if-sectors-eq0.false within (sound-rules d c.args.self.now.ready.sound) t)
