use Rattle.fragments.proofs.Laws.Address.{wide-number}
use Rattle.fragments.specs.List.{limit}
use Rattle.disc.specs.Records.{used}
use Rattle.disc.proofs.Laws.Rules.{sound-rules}
use Rattle.commands.proofs.Laws.Reserve.{reserve-done, splitting}
use Rattle.disc.proofs.Laws.Apply.{accepted_verdict}
use mathlib.Core.Path.{◌≡◌, sym, ◌∙◌, ap}
use Rattle.commands.proofs.ready.ReadyDisc.reserve_track.Goals as goal

pub split_tail-effect-requires : goal.split_tail-effect-requires
split_tail-effect-requires c =
    let d = c.args.self.now.disc in
    let n = ap (λ l. l.number) c.last-last.ensures in
    let u : used d ≡ limit → ⊥ = λ e. c.if-last-eq-LIMIT.false (n ∙ e) in
    let k = wide-number (rw (c.reserved.ensures, c.last-last.ensures) at c.next_start.ensures) in
    record { splitting = splitting d _ c.args.self.now.ready u (rw (k, c.from.ensures) at c.if-from-next_start.false); last_value = c.last-last.ensures }

pub returns : goal.returns
returns c =
    let d = c.args.self.now.disc in
    let f = c.if-self.false in
    let z = rw c.left_over.ensures at c.if-size-left_over.false in
    let b = rw c.last-last.ensures at (sym c.is_blank_tail.ensures ∙ c.if-not-is_blank_tail.false) in
    let n = ap (λ l. l.number) c.last-last.ensures in
    let u : used d ≡ limit → ⊥ = λ e. c.if-last-eq-LIMIT.false (n ∙ e) in
    let k = wide-number (rw (c.reserved.ensures, c.last-last.ensures, c.whole_blocks-blocks.ensures) at c.next_start.ensures) in
    rw (c.accepted.ensures, accepted_verdict, c.none.ensures, c.none-2.ensures, c.split_tail-effect.ensures, c.whole_blocks-blocks.ensures)
    (sym (reserve-done d c.args.size f z b u (sound-rules d c.args.self.now.ready.sound) (rw (k, c.from.ensures) at c.if-from-next_start.false)))
