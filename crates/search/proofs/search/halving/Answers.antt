use Prim.Native.Nat.{ℕ, suc, ◌+◌, ◌-◌}
use mathlib.Core.Path.{◌≡◌, sym, ◌∙◌, ap}
use native.Mathlib.Omega.{arith}
use lib.ListN.{get_or}
use Rattle.fragments.specs.Fragment.{unused_record}
use Rattle.fragments.specs.Entry.{entry}
use Rattle.search.specs.Types.{None, Some}
use Rattle.search.specs.Search.{sought, middle, halve, enough}
use Rattle.search.proofs.Laws.Search.{after, after-after, sought-over, sought-none, sought-left, sought-right, sought-here}
use Rattle.search.proofs.search.halving.Goals as goal

pub loop-looks-preserved-in-Left : goal.loop-looks-preserved-in-Left
loop-looks-preserved-in-Left c =
    let w = c.loop-looks in
    let fs = c.args.fragments in
    let a = c.args.address in
    let n = enough - (w.looks + 1) in
    let more : enough - w.looks ≡ suc n = omega (arith, c.loop-looks-test.true) in
    let left = c.if-low-high.true in
    let next = w.invariant.4 ∙ ap (λ k. after w.looks (sought fs (halve k a w.low w.high))) more in
    let said = sought-left fs a w.low w.high n (λ e. omega (arith, left, e)) (sym c.step.ensures ∙ c.in-Left.is) in
    (omega arith, omega arith, omega arith, w.invariant.3, next ∙ (ap (after w.looks) said ∙ after-after w.looks _))

pub loop-looks-preserved : goal.loop-looks-preserved
loop-looks-preserved c =
    let w = c.loop-looks in
    let fs = c.args.fragments in
    let a = c.args.address in
    let n = enough - (w.looks + 1) in
    let more : enough - w.looks ≡ suc n = omega (arith, c.loop-looks-test.true) in
    let left = c.if-low-high.true in
    let next = w.invariant.4 ∙ ap (λ k. after w.looks (sought fs (halve k a w.low w.high))) more in
    let said = sought-right fs a w.low w.high n (λ e. omega (arith, left, e)) (sym c.step.ensures ∙ c.in-Right.is) in
    (omega arith, omega (arith, left), omega (arith, left), w.invariant.3, next ∙ (ap (after w.looks) said ∙ after-after w.looks _))

pub returns-in-Here : goal.returns-in-Here
returns-in-Here c =
    let w = c.loop-looks in
    let fs = c.args.fragments in
    let a = c.args.address in
    let n = enough - (w.looks + 1) in
    let more : enough - w.looks ≡ suc n = omega (arith, c.loop-looks-test.true) in
    let left = c.if-low-high.true in
    let next = w.invariant.4 ∙ ap (λ k. after w.looks (sought fs (halve k a w.low w.high))) more in
    let said = sought-here fs a w.low w.high n (λ e. omega (arith, left, e)) (sym c.step.ensures ∙ c.in-Here.is) in
    rw c.new.ensures (sym (next ∙ (ap (after w.looks) said ∙ ap (λ (k : ℕ). record { holder = Some (entry (middle w.low w.high + 1) (get_or fs (middle w.low w.high) unused_record)); looks = k }) (omega arith))))

pub returns-else-low-high : goal.returns-else-low-high
returns-else-low-high c =
    let w = c.loop-looks in
    let fs = c.args.fragments in
    let none = sought-none fs c.args.address w.low w.high (enough - w.looks) (omega (arith, c.if-low-high.false, w.invariant.1)) in
    sym (w.invariant.4 ∙ (ap (after w.looks) none ∙ ap (λ (k : ℕ). record { holder = None; looks = k }) (omega arith)))

pub returns-after-loop-looks : goal.returns-after-loop-looks
returns-after-loop-looks c =
    let w = c.loop-looks in
    let fs = c.args.fragments in
    let a = c.args.address in
    let over : enough - w.looks ≡ 0 = omega (arith, c.loop-looks-test.false) in
    let none = ap (λ n. sought fs (halve n a w.low w.high)) over ∙ sought-over fs a w.low w.high in
    sym (w.invariant.4 ∙ (ap (after w.looks) none ∙ ap (λ (k : ℕ). record { holder = None; looks = k }) (omega arith)))
