use mathlib.Core.Path.{◌∙◌, ap}
use borrow.Author.Rules.{rules}
use Rattle.drive.specs.Bytes.{zeros, padded}
use Rattle.drive.specs.Moves.{flushed_pending}
use Rattle.drive.proofs.medium.flush.Goals as goal

pub returns-in-Some-clause-pending : goal.returns-in-Some-clause-pending
unfolding flushed_pending padded zeros
returns-in-Some-clause-pending c =
    rw c.in-Some.is (c.fill.ensures.after (λ y h. search rules) ∙ ap zeros c.told-pending)
