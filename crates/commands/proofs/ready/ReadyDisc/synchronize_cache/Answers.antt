use Rattle.decisions.specs.Plan.{plan}
use Rattle.disc.specs.Verdict.{accepted}
use Rattle.commands.specs.Types.{Nothing}
use Rattle.protocol.specs.Reply.{no_reply}
use Rattle.commands.specs.Flush.{flush, flush_plan, flush_count, synchronize_cache}
use Rattle.commands.proofs.Laws.Flush.{rise-flush}
use Rattle.disc.proofs.Laws.Verdict.{accept_count}
use Rattle.disc.proofs.Laws.Apply.{accepted_verdict}
use Rattle.commands.proofs.Laws.Effect.{affected-settled}
use mathlib.Core.Path.{sym, ◌∙◌, ap}
use Rattle.commands.proofs.ready.ReadyDisc.synchronize_cache.Goals as goal

pub returns : goal.returns
unfolding synchronize_cache
returns c =
    let d = c.args.self.now.disc in
    rw (c.accepted.ensures, accepted_verdict, c.none.ensures, c.new-plan.ensures, c.flushing-first.ensures)
    (ap (λ x. accepted x (flush_count d) no_reply (plan (flush_plan d) Nothing)) (affected-settled d c.args.self.now.ready) ∙ sym (accept_count d (flush d) _ _ _ (rise-flush d c.args.self.now.ready)))
