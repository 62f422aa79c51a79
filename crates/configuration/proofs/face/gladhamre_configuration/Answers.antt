use mathlib.Core.Path.{sym, ◌∙◌}
use Rattle.configuration.proofs.Laws.Reading.{count_most}
use Rattle.configuration.proofs.Laws.Face.{faced-room, faced-refused, faced-read}
use Rattle.configuration.proofs.face.gladhamre_configuration.Goals as goal

pub returns-in_default : goal.returns-in_default
returns-in_default c = faced-room _ _ c.in_default.ensures.cases

pub returns-in_default-read : goal.returns-in_default-read
returns-in_default-read c =
    let whole = c.in-Some.ensures.cases in
    rw whole.same (faced-refused _ _ whole.long (sym c.read.ensures ∙ c.in_default-read.is))

pub write-requires : goal.write-requires
write-requires c = count_most _ _ (sym c.read.ensures ∙ c.in-Some-read.is)

pub returns : goal.returns
returns c = let whole = c.in-Some.ensures.cases in faced-read _ _ _ _ whole.long (sym c.read.ensures ∙ c.in-Some-read.is) c.write.ensures
