use Rattle.decisions.specs.Plan.{plan}
use Rattle.disc.specs.Verdict.{accepted}
use Rattle.commands.specs.Types.{Nothing}
use Rattle.protocol.specs.Reply.{no_reply}
use Rattle.commands.specs.Flush.{flush_plan, flush_count}
use Rattle.decisions.specs.Flushing.{closing_last}
use Rattle.commands.proofs.Laws.Session.{finalize-done}
use Rattle.disc.proofs.Laws.Apply.{accepted_verdict}
use Rattle.commands.proofs.Laws.Effect.{last-flushed, affected-finalized}
use mathlib.Core.Path.{sym, ◌∙◌, ap}
use Rattle.commands.proofs.ready.ReadyDisc.finalize.Goals as goal

pub returns : goal.returns
unfolding closing_last
returns c =
    let d = c.args.self.now.disc in
    let fe = ap (λ x. x.entry) c.in_ok-first.ensures.ok.0 in
    let g = rw (fe, c.last-before.ensures) at c.over_last-last.ensures ∙ last-flushed d c.args.self.now.ready in
    rw (c.closing.ensures, accepted_verdict, c.none-2.ensures, g, c.in_ok-first.ensures.ok.0)
    (ap (λ x. accepted x (flush_count d) no_reply (plan (flush_plan d) Nothing)) (affected-finalized d c.args.self.now.ready)
    ∙ sym (finalize-done d c.if-self.false c.in_ok-first.ensures.ok.1 c.args.self.now.ready (rw (c.is_only_tail.ensures, c.last-before.ensures) at c.if-is_only_tail-before.false)))
