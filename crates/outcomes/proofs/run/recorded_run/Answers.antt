use Rattle.disc.specs.Apply.{decided}
use Rattle.decisions.specs.Run.{sent_within}
use Rattle.outcomes.proofs.Laws.Run.{run_of, other_medium, asked-run}
use mathlib.Core.Path.{◌∙◌, ap}
use Rattle.outcomes.proofs.run.recorded_run.Goals as goal

pub returns-then-medium-disc : goal.returns-then-medium-disc
returns-then-medium-disc c = run_of c.args.disc _ _ _ (other_medium c.args.disc c.args.cdb.now c.args.medium.now c.if-medium-disc.true)

pub returns : goal.returns
unfolding decided
returns c =
    let d = c.args.disc in
    let b = c.args.cdb.now in
    let m = c.args.medium.now in
    let v = rw (c.data_length.ensures, c.reply_room.ensures, c.decode-command.ensures) at c.decide-decision.ensures.verdict in
    run_of d b m _ (c.run.ensures ∙ (ap (λ x. sent_within x.plan.transfer m) v ∙ asked-run d b m c.if-medium-disc.false))
