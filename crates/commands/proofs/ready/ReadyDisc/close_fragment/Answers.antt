use Prim.Native.Nat.{ℕ, ◌≤◌}
use Rattle.commands.specs.Types.{Fragment, Disc, Flushing, Reserved, Appended}
use Rattle.disc.specs.Records.{numbered}
use Rattle.disc.specs.Ready.{Ready}
use Rattle.fragments.specs.Entry.{over}
use Rattle.commands.specs.Flush.{flush, flush_entry, flushing}
use Rattle.disc.proofs.Laws.Records.{listed-number}
use Rattle.commands.proofs.Laws.Flush.{flush-used, flush-sound}
use Rattle.commands.proofs.Laws.Close.{close-complete, close-incomplete, appended_last}
use Rattle.commands.proofs.Laws.Effect.{flush-numbered}
use mathlib.Core.Path.{◌≡◌, sym, ◌∙◌, ap}
use native.Mathlib.Omega.{arith}
use Rattle.commands.proofs.ready.ReadyDisc.close_fragment.Goals as goal

-- the record after the flush
stands :
    {first : Flushing} {before f : Fragment} (d : Disc) (n : ℕ)
    → Ready d → 1 ≤ n → first ≡ flushing d → before ≡ numbered d n → f ≡ over first.entry n before → f ≡ numbered (flush d) n
stands {before = before} d n r from e p q =
    q ∙ (ap (λ x. over x.entry n before) e ∙ (ap (over (flush_entry d) n) p ∙ flush-numbered d r n from))

pub returns-then-is_complete : goal.returns-then-is_complete
returns-then-is_complete c =
    let d = c.args.self.now.disc in
    let n = c.args.number in
    let r = c.args.self.now.ready in
    let li = sym c.is_listed.ensures ∙ c.if-not-is_listed.false in
    let l = listed-number d n li in
    let fo = stands d n r l.0 c.flushing-first.ensures c.numbered-before.ensures c.over-fragment.ensures in
    let b = rw c.numbered-before.ensures at (sym c.is_blank.ensures ∙ c.if-is_blank.false) in
    c.synchronize_cache.ensures ∙ sym (close-complete d n li b (rw fo at (sym c.is_complete.ensures ∙ c.if-is_complete.true)))

pub close_reserved-requires : goal.close_reserved-requires
close_reserved-requires c =
    let d = c.args.self.now.disc in
    let n = c.args.number in
    let r = c.args.self.now.ready in
    let li = sym c.is_listed.ensures ∙ c.if-not-is_listed.false in
    let l = listed-number d n li in
    let fo = stands d n r l.0 c.flushing-first.ensures c.numbered-before.ensures c.over-fragment.ensures in
    record { first_value = c.flushing-first.ensures; le_number = (l.0, omega (arith, l, flush-used d r)); record_value = fo }

pub close_appended-requires : goal.close_appended-requires
close_appended-requires c =
    let d = c.args.self.now.disc in
    let n = c.args.number in
    let r = c.args.self.now.ready in
    let li = sym c.is_listed.ensures ∙ c.if-not-is_listed.false in
    let l = listed-number d n li in
    let fo = stands d n r l.0 c.flushing-first.ensures c.numbered-before.ensures c.over-fragment.ensures in
    let cf = rw fo at (sym c.is_complete.ensures ∙ c.if-is_complete.false) in
    record {
      first_value = c.flushing-first.ensures;
      number_value = appended_last (flush d) n (flush-sound d r) l.0 (omega (arith, l, flush-used d r)) cf (rw fo at c.in-Appended.is);
      record_value = fo;
    }

pub returns-in-Reserved : goal.returns-in-Reserved
returns-in-Reserved c =
    let d = c.args.self.now.disc in
    let n = c.args.number in
    let r = c.args.self.now.ready in
    let li = sym c.is_listed.ensures ∙ c.if-not-is_listed.false in
    let l = listed-number d n li in
    let fo = stands d n r l.0 c.flushing-first.ensures c.numbered-before.ensures c.over-fragment.ensures in
    let b = rw c.numbered-before.ensures at (sym c.is_blank.ensures ∙ c.if-is_blank.false) in
    let cf = rw fo at (sym c.is_complete.ensures ∙ c.if-is_complete.false) in
    c.close_reserved.ensures ∙ sym (close-incomplete d n li b Reserved cf (rw fo at c.in-Reserved.is))

pub returns-in-Appended : goal.returns-in-Appended
returns-in-Appended c =
    let d = c.args.self.now.disc in
    let n = c.args.number in
    let r = c.args.self.now.ready in
    let li = sym c.is_listed.ensures ∙ c.if-not-is_listed.false in
    let l = listed-number d n li in
    let fo = stands d n r l.0 c.flushing-first.ensures c.numbered-before.ensures c.over-fragment.ensures in
    let b = rw c.numbered-before.ensures at (sym c.is_blank.ensures ∙ c.if-is_blank.false) in
    let cf = rw fo at (sym c.is_complete.ensures ∙ c.if-is_complete.false) in
    c.close_appended.ensures ∙ sym (close-incomplete d n li b Appended cf (rw fo at c.in-Appended.is))
