use Rattle.commands.proofs.Laws.Judge.{judged, concluded_decision}
use Rattle.disc.proofs.Laws.Apply.{link_verdict}
use mathlib.Core.Path.{sym, ◌∙◌}
use Rattle.commands.proofs.entry.decide.Goals as goal

pub returns-in-Ok : goal.returns-in-Ok
returns-in-Ok c =
    let performed = rw c.in-Ok.ensures.same_disc at c.perform.ensures in
    judged _ _ _ _ _ (concluded_decision c.args.disc c.perform.result c.unwrap_or_else.result c.unwrap_or_else.ensures ∙ (performed ∙ sym c.in-Ok.ensures.ok))

pub returns-in-Err : goal.returns-in-Err
returns-in-Err c = judged _ _ _ _ _ (rw (c.refused_link.ensures, link_verdict) (sym c.in-Err.ensures.err))
