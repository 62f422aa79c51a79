use mathlib.Core.Bool.{true}
use Prim.Native.Nat.{◌-◌}
use Rattle.fragments.specs.List.{last_of}
use Rattle.commands.specs.Flush.{flush}
use Rattle.disc.specs.Records.{used, last_record, has_tail}
use Rattle.commands.proofs.Laws.Flush.{flush-sound, flush_pending}
use Rattle.commands.proofs.Laws.Effect.{flush-numbered, kept-last-same, kept-last-written, kept-last-none, kept-last-before}
use mathlib.Core.Path.{◌≡◌, sym, ◌∙◌, ap}
use native.Mathlib.Omega.{arith}
use Rattle.commands.proofs.ready.ReadyDisc.last_kept.Goals as goal

pub returns-then-not-is_tail : goal.returns-then-not-is_tail
returns-then-not-is_tail c =
    let d = c.args.self.now.disc in
    let r = c.args.self.now.ready in
    let e = flush d in
    let s = flush-sound d r in
    let p = flush_pending d in
    let l : c.args.last ≡ last_of e.fragments = c.requires.last_value in
    l ∙ kept-last-same e s p (rw l at (sym c.is_tail.ensures ∙ c.if-not-is_tail.true))

pub returns-then-f-ne0 : goal.returns-then-f-ne0
returns-then-f-ne0 c =
    let d = c.args.self.now.disc in
    let r = c.args.self.now.ready in
    let e = flush d in
    let s = flush-sound d r in
    let p = flush_pending d in
    let l : c.args.last ≡ last_of e.fragments = c.requires.last_value in
    let t : has_tail e ≡ true = rw l at (sym c.is_tail.ensures ∙ c.if-not-is_tail.false) in
    rw (c.new.ensures, c.shortened.ensures, l) (kept-last-written e s p t (rw l at c.if-f-ne0.true))

pub overflow_sub-number : goal.overflow_sub-number
overflow_sub-number c =
    omega (arith, (flush-sound c.args.self.now.disc c.args.self.now.ready).some, ap (λ x. x.number) c.requires.last_value)

pub returns-then-number-eq0 : goal.returns-then-number-eq0
returns-then-number-eq0 c =
    let d = c.args.self.now.disc in
    let r = c.args.self.now.ready in
    let e = flush d in
    let s = flush-sound d r in
    let p = flush_pending d in
    let l : c.args.last ≡ last_of e.fragments = c.requires.last_value in
    let t : has_tail e ≡ true = rw l at (sym c.is_tail.ensures ∙ c.if-not-is_tail.false) in
    let z : (last_record e).recorded ≡ 0 = rw l at c.if-f-ne0.false in
    let n : used e - 1 ≡ 0 = rw l at c.if-number-eq0.true in
    c.none.ensures ∙ kept-last-none e s p t z n

pub returns : goal.returns
returns c =
    let d = c.args.self.now.disc in
    let r = c.args.self.now.ready in
    let e = flush d in
    let s = flush-sound d r in
    let p = flush_pending d in
    let l : c.args.last ≡ last_of e.fragments = c.requires.last_value in
    let t : has_tail e ≡ true = rw l at (sym c.is_tail.ensures ∙ c.if-not-is_tail.false) in
    let z : (last_record e).recorded ≡ 0 = rw l at c.if-f-ne0.false in
    let n : used e - 1 ≡ 0 → ⊥ = rw l at c.if-number-eq0.false in
    let f = rw (c.numbered.ensures, c.requires.flushed_value, l) at c.over.ensures in
    rw (c.new-2.ensures, f ∙ flush-numbered d r (used e - 1) (omega arith), l) (kept-last-before e s p t z n)
