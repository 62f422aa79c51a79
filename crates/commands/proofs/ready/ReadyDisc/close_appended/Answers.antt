use Rattle.decisions.specs.Plan.{plan}
use Rattle.disc.specs.Verdict.{accepted}
use Rattle.commands.specs.Types.{Nothing}
use Rattle.protocol.specs.Reply.{no_reply}
use Rattle.commands.specs.Flush.{flush, flush_plan, flush_count}
use Rattle.commands.specs.Close.{close_incomplete}
use Rattle.fragments.specs.Fragment.{shortened_record}
use Rattle.disc.specs.Records.{numbered}
use Rattle.commands.proofs.Laws.Flush.{used-limit, flush_ready, flush-sound}
use Rattle.disc.proofs.Laws.Verdict.{accept_count}
use Rattle.commands.proofs.Laws.Close.{shorten_count}
use Rattle.disc.proofs.Laws.Apply.{accepted_verdict}
use Rattle.commands.proofs.Laws.Effect.{affected_shortened}
use mathlib.Core.Path.{sym, ◌∙◌, ap}
use native.Mathlib.Omega.{arith}
use Rattle.commands.proofs.ready.ReadyDisc.close_appended.Goals as goal

pub returns : goal.returns
unfolding close_incomplete
returns c =
    let d = c.args.self.now.disc in
    let n = c.args.entry.number in
    let r = c.args.self.now.ready in
    let u = c.requires.number_value in
    let g = shortened_record (numbered (flush d) n) in
    rw (c.accepted.ensures, accepted_verdict, c.none.ensures, c.tail_after.ensures, c.new.ensures, c.shortened-short.ensures, c.new-plan.ensures, c.requires.record_value, c.requires.first_value)
    (ap (λ x. accepted x (flush_count d) no_reply (plan (flush_plan d) Nothing)) (affected_shortened d n g r (omega (arith, u, (flush-sound d r).some)) (omega (arith, u, used-limit (flush d) (flush_ready d r))))
    ∙ sym (accept_count d _ _ _ _ (shorten_count d n r u)))
