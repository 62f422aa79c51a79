use borrow.Author.Tests.{ltb-false, le-ltb}
use Prim.Native.Nat.{ℕ, ◌+◌, ◌≤◌}
use mathlib.Core.Bool.{Bool, false}
use Rattle.commands.specs.Types.{Fragment, Lba}
use Rattle.commands.specs.Write.{write_to}
use Rattle.disc.specs.Verdict.{accept}
use Rattle.fragments.specs.Address.{first_sector, passes}
use Rattle.fragments.specs.Fragment.{end}
use Rattle.commands.proofs.Laws.Write.{place, fit, gathering, write_count, others_count_most}
use Rattle.disc.proofs.Laws.Apply.{accepted_verdict}
use mathlib.Core.Path.{◌≡◌, sym, ◌∙◌, ap}
use native.Mathlib.Omega.{arith}
use Rattle.commands.proofs.ready.ReadyDisc.write_to.Goals as goal

-- the sectors end where the record ends, or before
fits :
    {f g : Fragment} {e : Lba} {t : Bool} (a : Lba) (n : ℕ)
    → t ≡ passes a n e → e ≡ first_sector (end f) → f ≡ g → t ≡ false → a.0 + n ≤ (first_sector (end g)).0
fits {g = g} a n p q r z = ltb-false (first_sector (end g)).0 (a.0 + n) (sym (p ∙ ap (passes a n) (q ∙ ap (λ f. first_sector (end f)) r)) ∙ z)

pub first_unrecorded-block-requires : goal.first_unrecorded-block-requires
first_unrecorded-block-requires c =
    let d = c.args.self.now.disc in
    let p = place d c.args.address c.args.entry.number c.args.self.now.ready c.requires.writable in
    rw c.requires.record_value (omega (arith, p.ends, p.room))

pub gather-effect-requires : goal.gather-effect-requires
gather-effect-requires c =
    let d = c.args.self.now.disc in
    let a = c.args.address in
    let n = c.args.entry.number in
    let k = c.args.sectors in
    let h = fits a k c.passes.ensures c.end_address.ensures c.requires.record_value c.if-passes.false in
    record {
      flushed_value = ap (λ x. x.entry) c.flushing_others-first.ensures;
      gathering = gathering d a n k c.args.self.now.ready c.requires.writable h;
      record_value = c.requires.record_value;
    }

pub overflow_add-first : goal.overflow_add-first
overflow_add-first c =
    let d = c.args.self.now.disc in
    let a = c.args.address in
    let n = c.args.entry.number in
    let k = c.args.sectors in
    let p = place d a n c.args.self.now.ready c.requires.writable in
    let h = fits a k c.passes.ensures c.end_address.ensures c.requires.record_value c.if-passes.false in
    let f = fit d a n k p c.requires.writable h in
    rw (c.flushing_others-first.ensures, c.whole_blocks-gathered.ensures)
    (omega (arith, f.sectors, c.from.ensures, c.pending_in-pending.ensures, p.few, others_count_most d n))

pub returns : goal.returns
unfolding write_to accept
returns c =
    let d = c.args.self.now.disc in
    let a = c.args.address in
    let n = c.args.entry.number in
    let k = c.args.sectors in
    let p = place d a n c.args.self.now.ready c.requires.writable in
    let h = fits a k c.passes.ensures c.end_address.ensures c.requires.record_value c.if-passes.false in
    rw (c.accepted.ensures, accepted_verdict, c.gather-effect.ensures, c.none.ensures, c.new-plan.ensures, c.flushing_others-first.ensures, c.whole_blocks-gathered.ensures, c.first_unrecorded-block.ensures, c.from.ensures, c.pending_in-pending.ensures, c.requires.record_value, le-ltb _ _ h, write_count d n k c.args.self.now.ready c.requires.writable.from p.slot)
