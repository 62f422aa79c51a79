use mathlib.Core.Path.{refl, sym, ap, ◌∙◌}
use Rattle.protocol.specs.Answer.{number}
use Rattle.gladhamre.proofs.Laws.Face.{refused_number, blank-whole, blank-bad, blank-short}
use Rattle.gladhamre.proofs.gladhamre_blank.Goals as goal

pub returns-in-Accepted : goal.returns-in-Accepted
returns-in-Accepted c =
    let made = c.blank-made.result in
    blank-short c.args.capacity c.args.state.now made (number made.answer) c.blank-made.ensures refl c.in_default.ensures.cases c.number.result (ap number c.in-Accepted.is) c.number.ensures

pub returns-in_default-answer : goal.returns-in_default-answer
returns-in_default-answer c =
    let made = c.blank-made.result in
    blank-bad c.args.capacity c.args.state.now made c.number-in_default-answer.result c.blank-made.ensures c.number-in_default-answer.ensures c.in_default.ensures.cases
    (λ z. refused_number made.answer c.in_default-answer.not-Accepted (sym c.number-in_default-answer.ensures ∙ z))

pub returns : goal.returns
returns c =
    blank-whole c.args.capacity c.args.state.now c.blank-made.result c.number-2.result c.blank-made.ensures c.number-2.ensures c.write.new.words c.in-Some.ensures.cases.long c.write.ensures
