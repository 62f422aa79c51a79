use Rattle.std.proofs.Common.{refl}
use Rattle.protocol.proofs.Laws.Answer.{eq_is, allowed_row}
use Rattle.protocol.proofs.answer.Sense.is_allowed.Goals as goal

pub returns : goal.returns
returns c =
    let s = c.args.self in
    let e1 = eq_is s c.none.ensures c.eq.ensures refl in
    let e2 = eq_is s c.sense.ensures c.eq-2.ensures refl in
    let e3 = eq_is s c.sense-2.ensures c.eq-3.ensures refl in
    let e4 = eq_is s c.sense-3.ensures c.eq-4.ensures refl in
    let e5 = eq_is s c.sense-4.ensures c.eq-5.ensures refl in
    let e6 = eq_is s c.sense-5.ensures c.eq-6.ensures refl in
    let e7 = eq_is s c.sense-6.ensures c.eq-7.ensures refl in
    let e8 = eq_is s c.sense-7.ensures c.eq-8.ensures refl in
    let e9 = eq_is s c.sense-8.ensures c.eq-9.ensures refl in
    let e10 = eq_is s c.sense-9.ensures c.eq-10.ensures refl in
    let e11 = eq_is s c.sense-10.ensures c.eq-11.ensures refl in
    rw (← e1, ← e2, ← e3, ← e4, ← e5, ← e6, ← e7, ← e8, ← e9, ← e10, ← e11) (allowed_row s)
